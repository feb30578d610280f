-- How the fault that `show` ends with stands to the verdict on the same records.
use Rattle.std.specs.Prelude.{◌≡◌, ◌⊎◌, ◌<◌, ℕ, Result, Ok, Err}
use Rattle.mdb_msgs.specs.declared.command.Device.{Device}
use Rattle.mdb_bus.specs.declared.fault.Blame.TheVariants as blame
use Rattle.mdb_bus.specs.declared.fault.LinkFault.{LinkFault}
use Rattle.mdb_bus.specs.declared.fault.Rule.{Rule}
use Rattle.mdb_bus.specs.declared.fault.Rule.TheVariants as rules
use Rattle.mdb_bus.specs.declared.scope.Profile.{Profile}
use Rattle.mdb_bus.specs.declared.scope.Profile.TheVariants.{Extended}
use Rattle.mdb_follow.specs.declared.offence.Offence.{Offence}
use Rattle.mdb_follow.specs.Offences.{rule_of}
use Rattle.mdb_text.specs.declared.outcome.Outcome.{Outcome}
use Rattle.mdb_text.specs.declared.outcome.Outcome.TheVariants.{Yes, No}
use Rattle.mdb_verdict.specs.declared.fault.RunFault.{RunFault}

-- the rule of a device's machine: it is broken by what the device or the controller does, and not
-- by how that is sent
abbrev pub IsMachineRule : Rule → Type 0
IsMachineRule broken = (device : Device) × (broken ≡ rule_of device)

-- What is told where a machine has no step: its rule, or by the extended profile that a controller
-- in haste was early.
abbrev pub IsOfMachine : Profile → Offence → Type 0
IsOfMachine profile offence =
    IsMachineRule offence.rule
    ⊎ ((profile ≡ Extended) × (offence.rule ≡ rules.Early) × (offence.blame ≡ blame.Controller))

-- The answer is a no: by this fault at this row, or at an earlier row by a machine.
abbrev pub IsNoUpTo : Profile → ℕ → LinkFault → Result Outcome RunFault → Type 0
IsNoUpTo profile row fault (Ok (Yes report)) = ⊥
IsNoUpTo profile row fault (Ok (No offence)) =
    ((offence.row < row) × IsOfMachine profile offence)
    ⊎ ((offence.row ≡ row) × (offence.rule ≡ fault.rule) × (offence.blame ≡ fault.blame))
IsNoUpTo profile row fault (Err error) = ⊥
