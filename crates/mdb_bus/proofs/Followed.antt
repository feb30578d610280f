-- What is said to a device that is followed: bytes need what they need of anybody.
use Rattle.mdb_bus.proofs.Words.{[], ap, Asks, Command, device_of, DeviceSet, false, Foreign, has, HasCommand, is_to_one_of, IsAskFront, IsCommandFront, IsForeignOpening, IsUnknownExpansion, List, Need, needed_by, needed_in, profile_of, refl, Scope, slice_index, Spells, sym, ℕ, ◌++◌, ◌∙◌, ◌∷◌, ◌≡◌, ◌≢◌}
use Rattle.mdb_bus.proofs.Masked.{otherwise, one_need}

-- a law of mdb_msgs: the first byte of a command's block is to its device
abbrev pub FirstTells : Type 0
FirstTells = (block : List ℕ) (command : Command) → Spells command block → (set : DeviceSet)
    → is_to_one_of set (slice_index block 0) ≡ has set (device_of command)

-- bytes are to a device that is followed, or to none
abbrev pub AreFollowed : Scope → List ℕ → Type 0
AreFollowed scope bytes = is_to_one_of scope.without (slice_index bytes 0) ≡ false

-- they need what they need of anybody
pub needed_followed : (scope : Scope) (bytes : List ℕ) → AreFollowed scope bytes
    → needed_in scope bytes ≡ needed_by (profile_of scope.begins) bytes
needed_followed scope bytes followed = rw followed

-- what needs anything that isn't foreign is to a device that is followed
pub within : (scope : Scope) (bytes : List ℕ) (told : Need) → needed_in scope bytes ≡ told
    → told ≢ Foreign → AreFollowed scope bytes × (needed_by (profile_of scope.begins) bytes ≡ told)
within scope bytes told is other =
    otherwise (is_to_one_of scope.without (slice_index bytes 0))
    (needed_by (profile_of scope.begins) bytes) told is other

-- more bytes are to whom the first is
first_stays : (bytes rest : List ℕ) → bytes ≢ []
    → slice_index (bytes ++ rest) 0 ≡ slice_index bytes 0
first_stays [] rest some = absurd (some refl)
first_stays (first ∷ bytes) rest some = refl

pub still_followed : (scope : Scope) (bytes rest : List ℕ) → bytes ≢ [] → AreFollowed scope bytes
    → AreFollowed scope (bytes ++ rest)
still_followed scope bytes rest some followed =
    ap (is_to_one_of scope.without) (first_stays bytes rest some) ∙ followed

pub was_followed : (scope : Scope) (bytes rest : List ℕ) → bytes ≢ []
    → AreFollowed scope (bytes ++ rest) → AreFollowed scope bytes
was_followed scope bytes rest some followed =
    ap (is_to_one_of scope.without) (sym (first_stays bytes rest some)) ∙ followed

module _ (law : FirstTells) (scope : Scope) where
  -- a command's block is to a device that is followed exactly where the command's is
  pub block_followed : (command : Command) (block : List ℕ) → Asks scope command block
      → AreFollowed scope block
  block_followed command block asks = law block command asks.spells scope.without ∙ asks.followed

  pub asks_followed : (command : Command) (block : List ℕ) → Spells command block
      → HasCommand (profile_of scope.begins) command → AreFollowed scope block
      → Asks scope command block
  asks_followed command block spells known followed = record {
    spells = spells;
    known = known;
    followed = sym (law block command spells scope.without) ∙ followed;
  }

  -- the front of an ask is to a device that is followed
  pub ask_front_followed : (bytes : List ℕ) → IsAskFront scope bytes → AreFollowed scope bytes
  ask_front_followed bytes front =
      was_followed scope bytes front.rest front.some
      (block_followed front.command (bytes ++ front.rest) front.spelled)

  -- and the front of a command to such a device is one of an ask
  pub front_followed : (bytes : List ℕ) → IsCommandFront (profile_of scope.begins) bytes
      → AreFollowed scope bytes → IsAskFront scope bytes
  front_followed bytes front followed = record {
    some = front.some;
    command = front.command;
    rest = front.rest;
    open_end = front.open_end;
    spelled = asks_followed front.command (bytes ++ front.rest) front.spelled front.known
        (still_followed scope bytes front.rest front.some followed);
  }

pub plain_front : (scope : Scope) (bytes : List ℕ) → IsAskFront scope bytes
    → IsCommandFront (profile_of scope.begins) bytes
plain_front scope bytes front = record {
  some = front.some;
  command = front.command;
  known = front.spelled.known;
  rest = front.rest;
  open_end = front.open_end;
  spelled = front.spelled.spells;
}

-- an EXPANSION to such a device that the profile doesn't know opens a foreign block
pub expansion_opens : (scope : Scope) (bytes : List ℕ)
    → IsUnknownExpansion (profile_of scope.begins) bytes
    → AreFollowed scope bytes → IsForeignOpening scope bytes
expansion_opens scope (first ∷ second ∷ []) unknown followed =
    let one = needed_followed scope (first ∷ []) followed in
    let two = needed_followed scope (first ∷ second ∷ []) followed in
    (one ∙ (one_need (profile_of scope.begins) first ∙ unknown.0), two ∙ unknown.1, unknown.2)
expansion_opens scope bytes unknown followed = absurd unknown
