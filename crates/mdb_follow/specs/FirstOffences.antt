-- The first offence among rows.
use Rattle.std.specs.Prelude.{◌≡◌, ◌++◌, List, ◌∷◌}
use Rattle.mdb_words.specs.declared.event.Event.{Event}
use Rattle.mdb_follow.specs.declared.offence.Offence.{Offence}
use Rattle.mdb_bus.specs.declared.scope.Scope.{Scope}
use Rattle.mdb_follow.specs.Offences.{IsOffence}

-- the offence of some row of these events, after the earlier ones and those before it
pub record HasOffence (scope : Scope) (earlier events : List Event) (offence : Offence)
    : Type 0 where
  pub front : List Event
  pub row : Event
  pub rest : List Event
  pub parts : events ≡ front ++ row ∷ rest
  pub is : IsOffence scope (earlier ++ front) row offence
