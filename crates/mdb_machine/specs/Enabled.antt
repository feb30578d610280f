-- Which types of coins or bills are enabled, for a device that keeps messages (this profile). Lists
-- of acts are written newest first.
use Rattle.std.specs.Prelude.{ℕ, Bool, true, false, ◌==◌, ◌&&◌, ◌||◌, List, ltb}
use Rattle.std.specs.Int.{bit_at}
use Rattle.std.specs.List.{list_any}
use Rattle.mdb_msgs.specs.declared.command.Command.{Command}
use Rattle.mdb_bus.specs.declared.act.Act.{Act}
use Rattle.mdb_bus.specs.declared.scope.Beginning.{Beginning}
use Rattle.mdb_bus.specs.declared.scope.Profile.{Profile}
use Rattle.mdb_bus.specs.declared.scope.Profile.TheVariants.{Base, Extended}
use Rattle.mdb_bus.specs.Scopes.{profile_of}
use Rattle.mdb_machine.specs.declared.past.Effect.{Effect}
use Rattle.mdb_machine.specs.declared.past.Effect.TheVariants as effects
use Rattle.mdb_machine.specs.Past.{acts_from, effect_by, powers_on, runs_on}

-- whether a command enables a type: its mask has the type's bit
abbrev pub enables : ℕ → Effect → Bool
enables kind (effects.Enable mask) = bit_at mask kind == 1
enables kind _ = false

-- Whether a break, or a RESET that the device takes, ends what was enabled before it. By the
-- extended profile neither does: what was enabled once may be told.
abbrev pub ends_types : Profile → Bool
ends_types Base = true
ends_types Extended = false

-- whether an act does
abbrev pub disables : Profile → (Command → Effect) → Act → Bool
disables profile effect_of act = powers_on effect_of act && ends_types profile

-- A type is enabled where the device took a command with its bit, and no act has ended this since.
-- A restart that a message tells ends nothing.
abbrev pub enabled_of : Profile → (Command → Effect) → List Act → ℕ → Bool
enabled_of profile effect_of acts kind =
    list_any (λ act. enables kind (effect_by effect_of act))
    (acts_from (disables profile effect_of) acts)

-- where a recording may begin in mid-session: until an act ends this, all 16 types are enabled too
abbrev pub known_enabled : Beginning → (Command → Effect) → List Act → ℕ → Bool
known_enabled begins effect_of acts kind =
    let profile = profile_of begins in
    enabled_of profile effect_of acts kind
    || (runs_on begins (disables profile effect_of) acts && ltb kind 16)
