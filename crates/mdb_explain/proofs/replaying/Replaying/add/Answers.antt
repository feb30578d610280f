-- A mark is added, or the replay stops at it.
use Rattle.mdb_explain.proofs.Words.{arith, common_steps, refl}
use Rattle.mdb_explain.proofs.EntryByEntry as steps
use Rattle.mdb_explain.proofs.replaying.Replaying.add.Goals as goal

pub returns-then-rows-gt0-clause-taken : goal.returns-then-rows-gt0-clause-taken
returns-then-rows-gt0-clause-taken c scope earlier has =
    steps.late_mark scope c.args.self.now earlier has c.args.row c.args.mark c.bad_record.result
    (omega (arith, c.if-rows-gt0.true, c.rows.ensures)) c.bad_record.ensures

pub returns-then-is_err-clause-taken : goal.returns-then-is_err-clause-taken
returns-then-is_err-clause-taken c scope earlier has =
    steps.no_room scope c.args.self.now earlier has _

pub returns-clause-taken : goal.returns-clause-taken
returns-clause-taken c scope earlier has =
    steps.added scope c.args.self.now earlier has _ c.args.row c.args.mark
    (omega (arith, c.if-rows-gt0.false, c.rows.ensures))
    (omega (arith, c.if-len-ge-ROWS_MAX.false, c.len.ensures))
    (omega (arith, c.if-row-self.false)) refl (grind (arith, common_steps)) refl refl
