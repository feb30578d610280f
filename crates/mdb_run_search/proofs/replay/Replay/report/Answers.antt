-- A replay reports the run that it stands for.
use Rattle.mdb_run_search.proofs.Words.{acts_of, cell_in, scope_of}
use Rattle.mdb_run_search.proofs.Replaying.{reported}
use Rattle.mdb_run_search.proofs.replay.Replay.report.Goals as goal

pub returns-clause-report : goal.returns-clause-report
returns-clause-report c events marks on =
    reported c.ways_with_choices_join.ensures c.transcripts_have_one_act_list.ensures c.of.result on
    (cell_in c.cells-cells.result) c.cells-cells.ensures
    (c.of.ensures.telling (scope_of c.args.self.now) on.pieces
    (rw on.begins (c.facts-facts.ensures on.profile (acts_of on.pieces) on.chosen on.tracks))
    (rw on.begins on.silences) on.untimely)
