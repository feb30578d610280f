-- Why a mark row is refused that is refused by itself.
use Rattle.mdb_explain.proofs.Words.{arith, common_steps}
use Rattle.mdb_explain.proofs.EntryByEntry as steps
use Rattle.mdb_explain.proofs.replaying.Replaying.refuse_mark.Goals as goal

pub returns-then-eq : goal.returns-then-eq
returns-then-eq c scope earlier has =
    steps.bad_time scope c.args.self.now earlier has c.args.fault c.bad_record.result
    (omega (arith, c.if-rows-gt0.true, c.rows.ensures)) (grind (arith, common_steps))
    c.bad_record.ensures

pub returns-then-rows-gt0 : goal.returns-then-rows-gt0
returns-then-rows-gt0 c scope earlier has =
    steps.late_bad_mark scope c.args.self.now earlier has c.args.fault
    c.bad_record-then-rows-gt0.result (omega (arith, c.if-rows-gt0.true, c.rows.ensures))
    (grind (arith, common_steps)) c.bad_record-then-rows-gt0.ensures

pub returns : goal.returns
returns c scope earlier has =
    steps.bad_mark scope c.args.self.now earlier has c.args.fault c.bad_record-2.result
    (omega (arith, c.if-rows-gt0.false, c.rows.ensures))
    (omega (arith, c.if-len-ge-ROWS_MAX.false, c.len.ensures)) c.bad_record-2.ensures
