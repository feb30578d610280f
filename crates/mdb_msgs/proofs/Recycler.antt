-- The validator's messages of any profile are those of the extended profile.
use Rattle.mdb_msgs.proofs.Words.{Bool, true, List, [], ◌∷◌, AllByRecursion, BillMsg, IsBillMsg}

one_extended : (r : Bool) (m : BillMsg) → IsBillMsg r m → IsBillMsg true m
one_extended r BillMsg.Reset is = is
one_extended r m is = search

pub all_extended : (r : Bool) (ms : List BillMsg) → AllByRecursion (IsBillMsg r) ms
    → AllByRecursion (IsBillMsg true) ms
all_extended r [] all = tt
all_extended r (m ∷ ms) all = (one_extended r m all.0, all_extended r ms all.1)
