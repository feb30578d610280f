-- A break leads the paths of each device, one after the other.
use Rattle.mdb_run_search.proofs.Words.{◌^◌, Changer}
use Rattle.mdb_run_search.proofs.AllPaths.{all-led, all-within, front-all, front-fits, front-more, front-none, front-stands}
use Rattle.mdb_run_search.proofs.Chains.{keep-then}
use Rattle.mdb_run_search.proofs.explain.all_paths.AllPaths.lead_all.Goals as goal

pub lead_one-requires : goal.lead_one-requires
lead_one-requires c =
    let stands = c.requires.stands in
    let front = c.loop-device.invariant in
    let within = c.loop-device-test.true in
    record {
      stands = (
        stands.0,
        stands.1,
        front-stands Changer within front stands.0 stands.1 stands.2,
      );
      within = front-fits Changer within front (2 ^ 62) c.requires.within;
    }

pub returns-in_err-lead_one-clause-kept : goal.returns-in_err-lead_one-clause-kept
returns-in_err-lead_one-clause-kept c =
    keep-then c.loop-device.invariant.kept c.lead_one.ensures.kept

pub returns-then-not-branch-clause-none : goal.returns-then-not-branch-clause-none
returns-then-not-branch-clause-none c =
    front-none Changer c.loop-device-test.true c.loop-device.invariant
    (rw c.if-not-branch.true at c.in_ok-lead_one.ensures.none)

pub returns-then-not-branch-clause-kept : goal.returns-then-not-branch-clause-kept
returns-then-not-branch-clause-kept c =
    keep-then c.loop-device.invariant.kept c.lead_one.ensures.kept

pub loop-device-preserved : goal.loop-device-preserved
loop-device-preserved c =
    front-more Changer c.loop-device-test.true c.loop-device.invariant c.lead_one.new.self
    (rw c.if-not-branch.false at c.in_ok-lead_one.ensures.led) c.lead_one.ensures.kept

pub returns-clause-led : goal.returns-clause-led
returns-clause-led c = all-led (front-all c.loop-device-test.false c.loop-device.invariant)

pub returns-clause-within : goal.returns-clause-within
returns-clause-within c = all-within (front-all c.loop-device-test.false c.loop-device.invariant)
