-- By either profile, an act adds the amounts that the profile's own reader counts.
use Rattle.mdb_cashless.proofs.ByProfile.{is_base, is_extended}
use Rattle.mdb_cashless.proofs.by_profile.ReaderByProfilePair.unvalued_by.Goals as goal

pub returns-in-Base-clause-adds : goal.returns-in-Base-clause-adds
returns-in-Base-clause-adds g c = rw c.in-Base.is (λ begins so_far stands.
    let is = is_base _ _ stands in rw is.0 (c.unvalued_by.ensures.adds begins so_far is.1))

pub returns-in-Extended-clause-adds : goal.returns-in-Extended-clause-adds
returns-in-Extended-clause-adds g c = rw c.in-Extended.is (λ begins so_far stands.
    let is = is_extended _ _ stands in
    rw is.0 (c.unvalued_by-in-Extended.ensures.adds begins so_far is.1))
