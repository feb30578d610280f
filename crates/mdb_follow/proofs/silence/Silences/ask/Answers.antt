-- What is kept of the device that was asked is put in its place.
use Rattle.mdb_follow.proofs.Words.{arith, with_ask, ask_in}
use Rattle.mdb_follow.proofs.Kept.{one-goes-on}
use Rattle.mdb_follow.proofs.silence.Silences.ask.Goals as goal

pub returns : goal.returns
returns c =
    one-goes-on
    (λ other. with_ask (ask_in c.args.first.now c.args.second.now c.args.at other)) c.args.device
    c.args.self.now c.device_place.result c.ask.new.self c.device_place.ensures.place (omega arith)
    (record {
      stands = rw (c.value.ensures.value, c.limit_in.ensures.limit) at c.ask.ensures.stands;
      few = c.ask.ensures.few;
    })
