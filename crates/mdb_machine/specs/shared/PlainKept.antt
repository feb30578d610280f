-- That an ACK of the controller is heard or lost, and no more. This serves the machine of each
-- device.
use Rattle.std.specs.Prelude.{◌≡◌, ◌≢◌, Bool, List, [], ◌∷◌, refl}
use Rattle.mdb_machine.specs.declared.choice.Choice.{Choice}
use Rattle.mdb_machine.specs.declared.choice.Choice.TheVariants.{Plain, Lost, Restart, Again}
use Rattle.mdb_machine.specs.Kept.{holds_acked}

pub acked_plain : {M : Type 0} (choice : Choice) → choice ≢ Lost → (kept : List M) (holds : Bool)
    → holds_acked choice kept holds ≡ holds_acked Plain kept holds
acked_plain choice heard [] holds = refl
acked_plain Lost heard (message ∷ kept) holds = absurd (heard refl)
acked_plain choice heard (message ∷ kept) holds = refl
