-- Reading a list of messages, one after the other.
use Rattle.mdb_msgs.proofs.Words.{◌≡◌, ◌≤◌, length, flat_map, AllByRecursion, MsgFault, StopsAt, ℕ, ◌+◌, ◌<◌, List, ◌∷◌, ◌++◌, suc, drop, get_or, drop-cons}

-- these messages were taken off the front, and this is the rest
pub record Going {M : Type 0} (bytes_of : M → List ℕ) (IsMsg : M → Type 0) (whole : List ℕ)
    (taken : List M) (rest : List ℕ) : Type 0 where
  pub fields : AllByRecursion IsMsg taken
  pub spelled : whole ≡ flat_map bytes_of taken ++ rest
  pub room : length taken + length rest ≤ length whole

-- where no message stands, reading stops: there the rest begins, at an index
pub stops_at : {M : Type 0} {f : M → List ℕ} {IsMsg : M → Type 0} {whole : List ℕ} {xs : List M}
    (No : List ℕ → MsgFault → Type 0) (fault : MsgFault) (i : ℕ) → i < length whole
    → Going f IsMsg whole xs (drop i whole) → No (get_or whole i 0 ∷ drop (suc i) whole) fault
    → StopsAt f IsMsg No whole fault
stops_at {whole = whole} {xs = xs} No fault i below g none =
    (xs, drop i whole, g.fields, g.spelled, rw (drop-cons whole i 0 below) none)
