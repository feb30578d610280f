-- What a replay stands for, and its report. A replay is a run of a recording from power-on that has
-- given marks (this profile). Lists of acts and of pieces stand newest first.
use Rattle.std.specs.Prelude.{◌≡◌, ℕ, List, length, Option, None}
use Rattle.mdb_words.specs.declared.event.Event.{Event}
use Rattle.mdb_msgs.specs.declared.command.Device.{Device}
use Rattle.mdb_bus.specs.declared.scope.Beginning.TheVariants.{PowerOn}
use Rattle.mdb_bus.specs.declared.scope.Profile.{Profile}
use Rattle.mdb_bus.specs.declared.scope.Scope.{Scope}
use Rattle.mdb_bus.specs.ActLists.{IsActList, Piece, acts_of, events_of}
use Rattle.mdb_bus.specs.Bus as bus
use Rattle.mdb_bus.specs.ExtendedTimes.{times_of}
use Rattle.mdb_follow.specs.declared.account.Account.{Account}
use Rattle.mdb_follow.specs.declared.account_name.AccountName.{AccountName}
use Rattle.mdb_run_search.specs.declared.mark.Mark.{Mark}
use Rattle.mdb_run_search.specs.declared.replay.Replay.{Replay}
use Rattle.mdb_run_search.specs.declared.replay.ReplayFault.{ReplayFault}
use Rattle.mdb_follow.specs.declared.report.Report.{Report}
use Rattle.mdb_follow.specs.Choosing.{Choices}
use Rattle.mdb_run_search.specs.Marks.{MarkedRun, marks_of}
use Rattle.mdb_follow.specs.Report.{AreAccounts, report_of}
use Rattle.mdb_follow.specs.Runs.{AllSums}
use Rattle.mdb_follow.specs.Silences.{asks_of}
use Rattle.mdb_follow.specs.SilencesKept.{AllStandForAsks}
use Rattle.mdb_run_search.specs.Tracks.{AreTracks}

-- how the recording is taken that a replay is fed, how many rows it has accepted, and the fault
-- that it has met
abbrev pub scope_of : Replay → Scope
scope_of replay = bus.scope_of replay.bus

abbrev pub rows_of : Replay → ℕ
rows_of replay = replay.rows

abbrev pub fault_of : Replay → Option ReplayFault
fault_of replay = replay.fault

-- A replay stands for events and marks: its bus does for the events, each of its tracks for their
-- acts with the choices that have these marks, its silences are those of their asks, and its count
-- of rows out of their time is theirs.
pub record StandsFor (replay : Replay) (events : List Event) (marks : List (ℕ × Mark))
    : Type 0 where
  pub profile : Profile
  pub begins : (scope_of replay).begins ≡ PowerOn profile
  pub pieces : List Piece
  pub on_bus : bus.StandsFor replay.bus pieces
  pub whole : events_of pieces ≡ events
  pub rows : replay.rows ≡ length events
  pub going : replay.fault ≡ None
  pub chosen : Choices (acts_of pieces)
  pub marked : marks_of pieces chosen ≡ marks
  pub tracks : AreTracks profile replay.tracks (acts_of pieces) chosen
  pub silences : AllStandForAsks replay.silences (λ device. asks_of (PowerOn profile) device pieces)
  pub untimely : replay.untimely ≡ times_of (scope_of replay) pieces

-- The report on rows that have a run with these marks: both ends of each range are the value in
-- that run, and all such runs have the same sums. What is reported of each device beside its
-- accounts is of the act list.
pub record IsReplayReport (scope : Scope) (events : List Event) (marks : List (ℕ × Mark))
    (report : Report) : Type 0 where
  pub sums : AllSums
  pub reached : MarkedRun scope events marks sums
  pub only : (other : AllSums) → MarkedRun scope events marks other
      → (device : Device) → other device ≡ sums device
  pub pieces : List Piece
  pub act_list : IsActList scope pieces events
  pub accounts : AccountName → Account
  pub of_run : AreAccounts (MarkedRun scope events marks) accounts
  pub telling : report ≡ report_of scope (length events) pieces accounts
