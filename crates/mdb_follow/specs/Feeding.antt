-- What a follower does by a row that it is fed: it takes the row, or refuses it.
use Rattle.std.specs.Prelude.{◌≡◌, ◌+◌, List, ◌++◌, length, Some}
use Rattle.mdb_words.specs.declared.event.Event.{Event}
use Rattle.mdb_bus.specs.declared.fault.Rule.TheVariants as rules
use Rattle.mdb_follow.specs.declared.follower.Follower.{Follower}
use Rattle.mdb_follow.specs.declared.offence.Offence.{Offence}
use Rattle.mdb_follow.specs.Follower.{HasAccepted, StandsFor, offence_of, open_block_of, rows_of, scope_of}
use Rattle.mdb_follow.specs.Offences.{IsOffence}
use Rattle.mdb_follow.specs.Runs.{IsReached}
use Rattle.mdb_follow.specs.Sales.{SalesFollowApprovals}

-- A follower has taken rows. Where it stood for events, it stands for these and the rows after
-- them. Some run reaches them all, and in each of their runs each sale follows its approval.
pub record HasTakenRows (old new : Follower) (rows : List Event) : Type 0 where
  pub stands : (events : List Event) → StandsFor old events → StandsFor new (events ++ rows)
  pub reached : (events : List Event) → StandsFor old events
      → IsReached (scope_of old) (events ++ rows)
  pub sales : (events : List Event) → StandsFor old events
      → SalesFollowApprovals (scope_of old) (events ++ rows)
  pub counted : rows_of new ≡ rows_of old + length rows

-- A follower has refused a row. Where it stood for events, this is the first row that no run
-- reaches, and of the events it keeps all. (That an offence which it had met before is met again is
-- a clause of each way to feed.)
pub record HasRefused (old new : Follower) (row : Event) (met : Offence) : Type 0 where
  pub offence : (events : List Event) → StandsFor old events
      → IsOffence (scope_of old) events row met
  pub accepted : (events : List Event) → StandsFor old events → HasAccepted new events
  pub noted : offence_of new ≡ Some met
  pub numbered : met.row ≡ rows_of new + 1
  pub uncounted : rows_of new ≡ rows_of old
  -- `Profile` is a rule of the link, and a row that breaks one isn't on the bus: the open block
  -- stays. (A row that breaks a device's rule is.)
  pub block : met.rule ≡ rules.Profile → open_block_of new ≡ open_block_of old
