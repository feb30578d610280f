-- Rows that have a run with marks lose their last row, and its marks.
use Rattle.mdb_bus.proofs.Promises.{open_front}
use Rattle.mdb_run_search.proofs.MarkedFronts.{split_at_rows}
use Rattle.mdb_run_search.proofs.laws.fronts_of_marked_runs_have_the_marks_there.Goals as goal

pub returns : goal.returns
returns c scope = split_at_rows scope (record {
  opens = open_front c.first_byte_tells_the_device.ensures
      c.need_leaves_a_command_open.ensures c.need_leaves_another_command_open.ensures scope;
  joins = c.ways_with_choices_join.ensures;
})
