-- How a bus goes a step. Its haste is told apart.
use Rattle.std.specs.Prelude.{◌≡◌, Bool, Option, Some}
use Rattle.mdb_words.specs.declared.event.Event.{Event}
use Rattle.mdb_bus.specs.declared.act.Act.{Act}
use Rattle.mdb_bus.specs.declared.bus.Bus.{Bus}
use Rattle.mdb_bus.specs.Pieces.{levels_if}
use Rattle.mdb_bus.specs.Bus.{awaited_at, position_at}
use Rattle.mdb_bus.specs.LinkFaults.{Situation}
use Rattle.mdb_bus.specs.Scopes.{profile_of}
use Rattle.mdb_bus.specs.ExtendedHaste.{awaited_after}
use Rattle.mdb_bus.specs.ExtendedMoney.{known_if}
use Rattle.mdb_bus.specs.shared.Step.{Step}
use Rattle.mdb_bus.specs.shared.Step as step
use Rattle.mdb_bus.specs.shared.Leads.{HasAdvanced, asked_after}

-- by a step into foreign traffic, or in it, a bus keeps whether an answer is awaited
abbrev pub KeepsAwaited : Step → Bool → Bool → Type 0
KeepsAwaited step.Foreign awaited kept = kept ≡ awaited
KeepsAwaited next awaited kept = Unit {0}

-- A bus has gone a step by a row.
pub record HasGone (old : Bus) (next : Step) (row : Event) (new : Bus)
    (act : Option Act) : Type 0 where
  pub scope : new.scope ≡ old.scope
  pub advanced : HasAdvanced (position_at old.place) next (position_at new.place) act
  pub last : new.last ≡ Some row
  pub levels : new.levels ≡ levels_if (profile_of old.scope.begins) act old.levels
  pub features : new.features ≡ known_if act old.features
  pub asked : new.asked ≡ asked_after old.asked next
  pub awaited : KeepsAwaited next
      (awaited_after row (awaited_at (position_at old.place) old.awaited)) new.awaited

-- the situation that a bus is in
abbrev pub situation_at : Bus → Situation
situation_at bus = record {
  scope = bus.scope;
  position = position_at bus.place;
  last = bus.last;
  levels = bus.levels;
}
