-- The act list of the rows goes on from that of the rows before, and so do its runs.
use Rattle.mdb_follow.proofs.Reaching.{without_last}
use Rattle.mdb_follow.proofs.laws.reached_rows_stay_reached_without_the_last.Goals as goal

pub returns : goal.returns
returns c scope = without_last scope (c.act_lists_go_on_row_by_row.ensures scope)
