-- A break leads the track of each device, one after the other.
use Rattle.mdb_run_search.proofs.Words.{◌^◌, front-all, front-more, if-err-is}
use Rattle.mdb_run_search.proofs.Tracked.{front-fits, front-stops}
use Rattle.mdb_run_search.proofs.tracks.Tracks.lead_all.Goals as goal

pub lead_one-requires : goal.lead_one-requires
lead_one-requires c =
    front-fits _ c.args.self.now c.args.act.now c.args.choice c.loop-device.self _
    c.loop-device-test.true c.loop-device.invariant (2 ^ 62) c.requires

pub returns-in_err-lead_one-clause-stopped : goal.returns-in_err-lead_one-clause-stopped
returns-in_err-lead_one-clause-stopped c =
    let broken = c.in_err-lead_one.field-0.0 in
    if-err-is c.from_residual.result broken _ c.from_residual.ensures.1
    (front-stops _ c.args.self.now c.args.act.now c.args.choice c.loop-device.self _
    c.loop-device-test.true c.loop-device.invariant broken c.in_err-lead_one.ensures.stopped)

pub loop-device-preserved : goal.loop-device-preserved
loop-device-preserved c =
    front-more _ _ _ _ _ _ _ c.loop-device-test.true c.loop-device.invariant
    c.in_ok-lead_one.ensures.led

pub returns-clause-led : goal.returns-clause-led
returns-clause-led c =
    front-all _ _ _ _ _ c.loop-device-test.false c.loop-device.invariant
