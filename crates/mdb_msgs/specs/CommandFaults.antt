-- Why a block is no command (this profile).
use Rattle.std.specs.Prelude.{◌≡◌, ℕ, List, length}
use Rattle.mdb_msgs.specs.declared.need.Need.{Need}
use Rattle.mdb_msgs.specs.declared.need.Need.TheVariants.{Exactly, Foreign, Outside}
use Rattle.mdb_msgs.specs.declared.fault.MsgFault.{MsgFault}
use Rattle.mdb_msgs.specs.declared.fault.MsgFault.TheVariants.{Length, Profile}
use Rattle.mdb_msgs.specs.Needs.{needed}

-- how a block of so many bytes is refused, by what it needs
abbrev pub IsRefused : Need → ℕ → MsgFault → Type 0
IsRefused (Exactly n) count Length = ¬ (n ≡ count)
IsRefused Foreign count Profile = Unit {0}
IsRefused Outside count Profile = Unit {0}
IsRefused _ count _ = ⊥

-- a block is refused by what its first two bytes need
abbrev pub IsCommandFault : List ℕ → MsgFault → Type 0
IsCommandFault block fault = IsRefused (needed block) (length block) fault
