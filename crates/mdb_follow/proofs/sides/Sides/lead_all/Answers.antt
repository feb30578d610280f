-- Each side goes on over a break, one by one.
use Rattle.mdb_follow.proofs.Words.{◌^◌, SideOf, side_in, FollowsOf}
use Rattle.mdb_follow.proofs.ByDevice.{front-all, front-more}
use Rattle.mdb_follow.proofs.Following.{if-err-is}
use Rattle.mdb_follow.proofs.Sided.{front-fits, front-stops}
use Rattle.mdb_follow.proofs.sides.Sides.lead_all.Goals as goal

pub lead_one-requires : goal.lead_one-requires
lead_one-requires c =
    front-fits c.loop-device.device-index c.args.self.now c.args.act.now c.loop-device.self _
    c.loop-device-test.true c.loop-device.invariant (2 ^ 62) c.requires

pub returns-in_err-lead_one-clause-stopped : goal.returns-in_err-lead_one-clause-stopped
returns-in_err-lead_one-clause-stopped c =
    let broken = c.in_err-lead_one.field-0.0 in
    if-err-is c.from_residual.result broken _ c.from_residual.ensures.1
    (front-stops c.loop-device.device-index c.args.self.now c.args.act.now c.loop-device.self _
    c.loop-device-test.true c.loop-device.invariant broken c.in_err-lead_one.ensures.stopped)

pub loop-device-preserved : goal.loop-device-preserved
loop-device-preserved c =
    front-more SideOf (FollowsOf c.args.act.now) c.loop-device.device-index
    (side_in c.args.self.now) (side_in c.loop-device.self) (side_in c.lead_one.new.self) _
    c.loop-device-test.true c.loop-device.invariant c.in_ok-lead_one.ensures.followed

pub returns-clause-followed : goal.returns-clause-followed
returns-clause-followed c =
    front-all SideOf (FollowsOf c.args.act.now) c.loop-device.device-index
    (side_in c.args.self.now) (side_in c.loop-device.self) c.loop-device-test.false
    c.loop-device.invariant
