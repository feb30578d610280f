-- Lists of messages that are put end to end.
use Rattle.std.specs.Prelude.{◌≡◌, ℕ, List, [], ◌∷◌, ◌++◌}
use Rattle.std.specs.List.{flat_map, AllByRecursion}
use Rattle.mdb_msgs.specs.declared.fault.MsgFault.{MsgFault}

-- in front stand messages, and where they end no message stands, for this reason
abbrev pub StopsAt : {M : Type 0} → (M → List ℕ) → (M → Type 0) → (List ℕ → MsgFault → Type 0)
    → List ℕ → MsgFault → Type 0
StopsAt {M} bytes_of IsMsg NoMsg bytes fault =
    (front : List M) × (rest : List ℕ) × AllByRecursion IsMsg front
    × (bytes ≡ flat_map bytes_of front ++ rest) × NoMsg rest fault

-- each message is one before what comes after it: the further messages, and then `tail`
abbrev pub Stand : {M : Type 0} → (M → List ℕ) → (M → List ℕ → Type 0) → List M → List ℕ → Type 0
Stand {M} bytes_of IsMsg [] tail = Unit {0}
Stand {M} bytes_of IsMsg (message ∷ messages) tail =
    IsMsg message (flat_map bytes_of messages ++ tail) × Stand bytes_of IsMsg messages tail

-- in front stand messages before what comes after them, and where they end no message stands, for
-- this reason
abbrev pub StopsBefore : {M : Type 0} → (M → List ℕ) → (M → List ℕ → Type 0)
    → (List ℕ → MsgFault → Type 0) → List ℕ → MsgFault → Type 0
StopsBefore {M} bytes_of IsMsg NoMsg bytes fault =
    (front : List M) × (rest : List ℕ) × Stand bytes_of IsMsg front rest
    × (bytes ≡ flat_map bytes_of front ++ rest) × NoMsg rest fault
