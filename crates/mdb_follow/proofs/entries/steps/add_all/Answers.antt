-- Each step adds its cell to the entries that the steps before it led to.
use Rattle.mdb_follow.proofs.Led.{moves-read}
use Rattle.mdb_follow.proofs.entries.steps.add_all.Goals as goal

pub loop-code-preserved : goal.loop-code-preserved
loop-code-preserved g c = record {
  keyed = c.add_cell.ensures.keyed;
  placed = c.add_cell.ensures.placed;
  led = moves-read c.args.entries.now c.loop-code.entries c.add_cell.new.entries c.args.cell.now
      c.args.steps.now c.loop-code.code-index _ c.loop-code-test.true c.loop-code.invariant.led
      c.add_cell.ensures.entries;
}
