-- A chain is read from its last mark to its first.
use Rattle.mdb_run_search.proofs.Words.{arith, refl, ◌-◌, slice_get_read}
use Rattle.mdb_run_search.proofs.Chains.{begins, is_read, reads_on, within-at}
use Rattle.mdb_run_search.proofs.explain.chains.Chains.read.Goals as goal

pub loop-at-init : goal.loop-at-init
loop-at-init c = rw c.new-marks.ensures.items (begins c.args.chain c.requires)

pub index-link-requires : goal.index-link-requires
index-link-requires c = omega (
  arith,
  within-at c.loop-at.invariant.left,
  c.loop-at-test.true,
  c.args.self.now.links.ok,
)

pub loop-at-smaller : goal.loop-at-smaller
loop-at-smaller c =
    let there = slice_get_read c.args.self.now.links.items _ _ c.index-link.result.now refl
    (omega (arith, c.loop-at-test.true, within-at c.loop-at.invariant.left))
    c.index-link.ensures in
    omega (
      arith,
      c.args.self.now.back (c.loop-at.at - 1) c.index-link.result.now there,
      c.loop-at-test.true,
    )

pub loop-at-preserved : goal.loop-at-preserved
loop-at-preserved c =
    let there = slice_get_read c.args.self.now.links.items _ _ c.index-link.result.now refl
    (omega (arith, c.loop-at-test.true, within-at c.loop-at.invariant.left))
    c.index-link.ensures in
    rw c.in_ok-push.ensures.items (reads_on (c.loop-at.at - 1) c.loop-at.at c.index-link.result.now
    (omega (arith, c.loop-at-test.true)) there c.loop-at.invariant)

pub returns : goal.returns
returns c =
    rw c.reverse.ensures.items
    (is_read c.loop-at.at (omega (arith, c.loop-at-test.false)) c.loop-at.invariant)
