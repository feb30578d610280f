-- One row more is surveyed.
use Rattle.mdb_surveyor.proofs.OneSurvey.{surveyed_more}
use Rattle.mdb_surveyor.proofs.laws.only.rows_have_a_survey.Goals as goal

pub loop-row-preserved : goal.loop-row-preserved
loop-row-preserved c =
    surveyed_more c.loop-row.surveyor c.feed-ended.new.self c.args.scope.now c.args.rows.now
    c.loop-row.row-index c.row-item.result c.feed-ended.result c.loop-row-test.true c.row-item.is
    c.loop-row.invariant c.feed-ended.ensures.taken c.feed-ended.ensures.ended
    c.feed-ended.ensures.counted
