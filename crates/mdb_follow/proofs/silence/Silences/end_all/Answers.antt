-- A break ends the asks of one device after the other, until those of all have ended.
use Rattle.mdb_follow.proofs.Words.{Silence, silence_in, SilenceGoesOn, ended}
use Rattle.mdb_follow.proofs.ByDevice.{front-all, front-more}
use Rattle.mdb_follow.proofs.silence.Silences.end_all.Goals as goal

pub loop-device-preserved : goal.loop-device-preserved
loop-device-preserved c =
    front-more (λ device. Silence) (λ device. SilenceGoesOn ended) c.loop-device.device-index
    (silence_in c.args.self.now) (silence_in c.loop-device.self) (silence_in c.end.new.self) _
    c.loop-device-test.true c.loop-device.invariant c.end.ensures

pub returns : goal.returns
returns c =
    front-all (λ device. Silence) (λ device. SilenceGoesOn ended) c.loop-device.device-index
    (silence_in c.args.self.now) (silence_in c.loop-device.self) c.loop-device-test.false
    c.loop-device.invariant
