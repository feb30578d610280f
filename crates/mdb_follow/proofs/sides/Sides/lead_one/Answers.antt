-- The side of the device goes on in its place, or it has no step and nothing changes.
use Rattle.mdb_follow.proofs.Words.{ap, arith, refl, ◌∙◌, First, Second}
use Rattle.mdb_msgs.specs.declared.command.Device.TheVariants as devices
use Rattle.mdb_follow.proofs.Sided.{one-led}
use Rattle.mdb_follow.proofs.sides.Sides.lead_one.Goals as goal

pub returns-in-Changer : goal.returns-in-Changer
returns-in-Changer c =
    let led = c.lead.ensures in
    one-led c.lead.result c.args.device devices.Changer c.args.self.now
    c.lead.new.side c.args.act.now c.in-Changer.is led.followed led.none led.its led.same

pub lead-requires : goal.lead-requires
lead-requires c = (omega arith, (refl, rw c.in-Changer.is at c.requires))

pub returns-in-Bill : goal.returns-in-Bill
returns-in-Bill c =
    let led = c.lead-in-Bill.ensures in
    one-led c.lead-in-Bill.result c.args.device devices.Bill c.args.self.now
    c.lead-in-Bill.new.side c.args.act.now c.in-Bill.is led.followed led.none led.its led.same

pub lead-requires-in-Bill : goal.lead-requires-in-Bill
lead-requires-in-Bill c = (omega arith, (refl, rw c.in-Bill.is at c.requires))

pub returns-in-First : goal.returns-in-First
returns-in-First c =
    let led = c.lead-in-First.ensures in
    let is = c.in-Reader.is ∙ ap devices.Reader c.in-First.is in
    one-led c.lead-in-First.result c.args.device (devices.Reader First) c.args.self.now
    c.lead-in-First.new.side c.args.act.now is led.followed led.none led.its led.same

pub lead-requires-in-First : goal.lead-requires-in-First
lead-requires-in-First c =
    let is = c.in-Reader.is ∙ ap devices.Reader c.in-First.is in
    (omega arith, (refl, rw is at c.requires))

pub returns-in-Second : goal.returns-in-Second
returns-in-Second c =
    let led = c.lead-in-Second.ensures in
    let is = c.in-Reader.is ∙ ap devices.Reader c.in-Second.is in
    one-led c.lead-in-Second.result c.args.device (devices.Reader Second) c.args.self.now
    c.lead-in-Second.new.side c.args.act.now is led.followed led.none led.its led.same

pub lead-requires-in-Second : goal.lead-requires-in-Second
lead-requires-in-Second c =
    let is = c.in-Reader.is ∙ ap devices.Reader c.in-Second.is in
    (omega arith, (refl, rw is at c.requires))
