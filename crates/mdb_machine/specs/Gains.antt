-- What a step adds to the sums of a pair, in smallest units of money: for its device and for the
-- controller, to each of its accounts (this profile). Each account has a slot, from 0.
use Rattle.std.specs.Prelude.{◌≡◌, ℕ, List, [], ◌∷◌, slice_index}
use Rattle.mdb_machine.specs.declared.gains.Gains.{Gains}

-- one thing for each slot, in their order: as many as there are slots
abbrev pub by_slot : {X : Type 0} → (ℕ → X) → List X
by_slot of = of 0 ∷ of 1 ∷ []

-- amounts by slot: those of a list, and nothing in the slots after them
abbrev pub in_slots : List ℕ → ℕ → ℕ
in_slots amounts slot = slice_index amounts slot

-- nothing
abbrev pub no_gains : Gains
no_gains = record { device = by_slot (λ slot. 0); controller = by_slot (λ slot. 0) }

-- so much to each of the device's sums
abbrev pub device_gains : (ℕ → ℕ) → Gains
device_gains amount = record { device = by_slot amount; controller = by_slot (λ slot. 0) }

-- so much to each of the controller's sums
abbrev pub controller_gains : (ℕ → ℕ) → Gains
controller_gains amount = record { device = by_slot (λ slot. 0); controller = by_slot amount }

-- a step that changes nothing
abbrev pub Stays : {State : Type 0} → State → State → Gains → Type 0
Stays before after gains = (after ≡ before) × (gains ≡ no_gains)
