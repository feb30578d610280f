-- A row is fed with its mark, or the replay stops at it.
use Rattle.std.proofs.Common.{arith, inr, refl, sym, ◌∙◌}
use Rattle.mdb_explain.proofs.EntryByEntry as steps
use Rattle.mdb_explain.proofs.OneReplayAnswer.{row_not_mark}
use Rattle.mdb_explain.proofs.replaying.Replaying.feed.Goals as goal

pub returns-in-Err-clause-taken : goal.returns-in-Err-clause-taken
returns-in-Err-clause-taken c scope earlier has =
    steps.faulted scope c.args.self.now earlier has c.args.event c.next_mark-mark.result
    c.in-Err.fault c.stop_of.result
    (c.next_mark-mark.ensures.at has.part.passed has.part.later has.marks has.passed)
    (omega (arith, c.if-rows-ge-ROWS_MAX.false, c.rows.ensures))
    (c.in-Err.ensures.fault has.part.rows has.part.passed has.stands) c.stop_of.ensures

pub returns-then-is_some-clause-taken : goal.returns-then-is_some-clause-taken
returns-then-is_some-clause-taken c scope earlier has =
    steps.fed scope c.args.self.now earlier has _ c.args.event c.next_mark-mark.result
    (c.next_mark-mark.ensures.at has.part.passed has.part.later has.marks has.passed)
    (omega (arith, c.if-rows-ge-ROWS_MAX.false, c.rows.ensures))
    (c.in-Ok.ensures.reached has.part.rows has.part.passed has.stands)
    (c.in-Ok.ensures.has_run has.part.rows has.part.passed has.stands) c.in-Ok.ensures.counted
    c.feed.ensures.scope refl refl (steps.passed_one c.next_mark-mark.result c.args.self.now.passed
    (sym c.is_some.ensures ∙ c.if-is_some.true))

pub returns-else-is_some-clause-taken : goal.returns-else-is_some-clause-taken
returns-else-is_some-clause-taken c scope earlier has =
    steps.fed scope c.args.self.now earlier has _ c.args.event c.next_mark-mark.result
    (c.next_mark-mark.ensures.at has.part.passed has.part.later has.marks has.passed)
    (omega (arith, c.if-rows-ge-ROWS_MAX.false, c.rows.ensures))
    (c.in-Ok.ensures.reached has.part.rows has.part.passed has.stands)
    (c.in-Ok.ensures.has_run has.part.rows has.part.passed has.stands) c.in-Ok.ensures.counted
    c.feed.ensures.scope refl refl (steps.passed_none c.next_mark-mark.result c.args.self.now.passed
    (sym c.is_some.ensures ∙ c.if-is_some.false))

pub returns-then-rows-ge-ROWS_MAX-clause-taken : goal.returns-then-rows-ge-ROWS_MAX-clause-taken
returns-then-rows-ge-ROWS_MAX-clause-taken c scope earlier has =
    steps.stop_at scope c.args.self.now earlier has (λ fields own. inr (
      row_not_mark fields c.args.event own,
      omega (arith, c.if-rows-ge-ROWS_MAX.true, c.rows.ensures, has.counted, has.can_be.few_rows),
    )) (λ same. cc) (λ same. cc)
