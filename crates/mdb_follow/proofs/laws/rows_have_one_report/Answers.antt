-- The rows have one act list, and the sums of its runs have one least and one greatest end.
use Rattle.mdb_follow.proofs.OneAnswer.{one-report}
use Rattle.mdb_follow.proofs.laws.rows_have_one_report.Goals as goal

pub returns : goal.returns
returns c scope = one-report scope (c.transcripts_have_one_act_list.ensures scope)
