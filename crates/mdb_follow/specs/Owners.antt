-- Whose an act is.
use Rattle.std.specs.Prelude.{◌≡◌, ◌↔◌}
use Rattle.mdb_msgs.specs.declared.command.Device.{Device}
use Rattle.mdb_bus.specs.declared.act.Act.{Act}
use Rattle.mdb_machine.specs.Pair.{IsActOf, IsBreak}
use Rattle.mdb_follow.specs.declared.owner.Owner.{Owner}
use Rattle.mdb_follow.specs.declared.owner.Owner.TheVariants.{One, All, Nobody}

-- Those that its owner tells have a part in an act, and no other device has. Of all is a break
-- alone.
abbrev pub Owns : Owner → Act → Type 0
Owns (One device) act = (other : Device) → IsActOf other act ↔ (other ≡ device)
Owns All act = IsBreak act
Owns Nobody act = (other : Device) → IsActOf other act → ⊥
