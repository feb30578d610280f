-- The marks of each device become one list, one after the other.
use Rattle.mdb_run_search.proofs.Words.{get_or, DEVICES, placed}
use Rattle.mdb_run_search.proofs.Explained.{best_enough, best_more, best_none}
use Rattle.mdb_run_search.proofs.explain.marks_of_all.Goals as goal

pub loop-device-init : goal.loop-device-init
loop-device-init c profile goal pieces are ways = rw c.new-marks.ensures.items best_none

pub loop-device-preserved : goal.loop-device-preserved
loop-device-preserved c profile goal pieces are ways =
    best_more (c.loop-device.invariant profile goal pieces are ways)
    (get_or DEVICES c.loop-device.device-index _)
    (placed c.loop-device.device-index _ c.loop-device-test.true)
    (c.in_ok-own.ensures profile goal pieces are (ways _))
    (rw (c.deref.ensures.value, c.deref-in-loop-device.ensures.value) at c.in_ok-marks.ensures)

pub returns : goal.returns
returns c profile goal pieces are ways =
    best_enough (c.loop-device.invariant profile goal pieces are ways) c.loop-device-test.false
