-- What a replay without marks tells: the run in which no acknowledgement was lost, and no device
-- restarted unseen (this profile).
use Rattle.std.specs.Prelude.{List, [], None}
use Rattle.mdb_words.specs.declared.event.Event.{Event}
use Rattle.mdb_bus.specs.declared.scope.Scope.{Scope}
use Rattle.mdb_run_search.specs.ReplayFaults.{IsReplayOffence}
use Rattle.mdb_run_search.specs.Replays.{IsReplayReport}
use Rattle.mdb_follow.specs.declared.offence.Offence.{Offence}
use Rattle.mdb_follow.specs.declared.report.Report.{Report}

-- the report on rows in that run
abbrev pub IsPlainReport : Scope → List Event → Report → Type 0
IsPlainReport scope rows report = IsReplayReport scope rows [] report

-- the first row that has no place in that run, after rows that have
abbrev pub IsPlainOffence : Scope → List Event → Event → Offence → Type 0
IsPlainOffence scope rows event offence = IsReplayOffence scope rows [] event None offence
