-- What a replay does by an act. This serves private functions.
use Rattle.std.specs.Prelude.{◌≡◌, ◌+◌, List, Some}
use Rattle.mdb_words.specs.declared.event.Event.{Event}
use Rattle.mdb_words.specs.Event.{start_of}
use Rattle.mdb_bus.specs.declared.act.Act.{Act}
use Rattle.mdb_bus.specs.declared.fault.LinkFault.{LinkFault}
use Rattle.mdb_bus.specs.ActLists.{Piece}
use Rattle.mdb_bus.specs.Bus.{StandsFor, scope_of}
use Rattle.mdb_bus.specs.declared.fault.Rule.{Rule}
use Rattle.mdb_machine.specs.declared.choice.Choice.{Choice}
use Rattle.mdb_run_search.specs.declared.replay.Replay.{Replay}
use Rattle.mdb_run_search.specs.declared.replay.ReplayFault.{ReplayFault}
use Rattle.mdb_run_search.specs.declared.replay.ReplayFault.TheVariants as faults
use Rattle.mdb_follow.specs.Offences.{act_fault}
use Rattle.mdb_follow.specs.SilenceGrowth.{SilencesFollow}
use Rattle.mdb_run_search.specs.inner.TracksLed.{TracksLead, TracksStop}

-- A replay has followed an act that a row ended, under a choice.
pub record HasReplayed (old : Replay) (act : Act) (choice : Choice) (row : Event)
    (new : Replay) : Type 0 where
  pub on_bus : new.bus ≡ old.bus
  pub rows : new.rows ≡ old.rows + 1
  pub going : new.fault ≡ old.fault
  pub tracks : TracksLead old.tracks act choice new.tracks
  pub silences : SilencesFollow old.silences act (start_of row) new.tracks.first_reader.facts
      new.tracks.second_reader.facts new.silences
  pub untimely : new.untimely ≡ old.untimely

-- A replay has stopped at an act by which a machine has no step under a choice.
pub record HasStopped (old : Replay) (act : Act) (choice : Choice) (row : Event) (new : Replay)
    (fault : ReplayFault) : Type 0 where
  pub rule : Rule
  pub counted : LinkFault
  pub counts : (pieces : List Piece) → StandsFor old.bus pieces
      → counted ≡ act_fault (scope_of old.bus) pieces row act rule
  pub is : fault ≡ faults.Offence (record {
    row = old.rows + 1;
    rule = counted.rule;
    blame = counted.blame;
  })
  pub noted : new.fault ≡ Some fault
  pub uncounted : new.rows ≡ old.rows
  pub none : TracksStop old.tracks act choice rule
