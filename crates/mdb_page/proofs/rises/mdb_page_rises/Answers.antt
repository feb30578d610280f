-- The first report is near, and is that of no rows.
use Rattle.mdb_page.proofs.Words.{[], arith, rows_of}
use Rattle.mdb_page.proofs.Rising.{near}
use Rattle.mdb_page.proofs.rises.mdb_page_rises.Goals as goal

pub follow-answer-requires-clause-near : goal.follow-answer-requires-clause-near
follow-answer-requires-clause-near c =
    rw c.after-listing.ensures.last
    (near (rows_of c.scoped-follower.result) c.report_before.result
    (omega (arith, c.scoped-follower.ensures.empty)) c.report_before.ensures.within)

pub follow-answer-requires-clause-last : goal.follow-answer-requires-clause-last
follow-answer-requires-clause-last c =
    rw c.after-listing.ensures.last
    (c.report_before.ensures.going [] c.scoped-follower.ensures.stands)
