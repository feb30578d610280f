-- The asks of the devices so far have ended, and the others are as before.
use Rattle.mdb_follow.proofs.Words.{Silence, silence_in, SilenceGoesOn, ended}
use Rattle.mdb_follow.proofs.ByDevice.{Front}
use Rattle.mdb_follow.proofs.silence.Silences.end_all.Given as goal

abbrev pub invariant-loop-device : goal.invariant-loop-device
invariant-loop-device l =
    Front (λ device. Silence) (λ device. SilenceGoesOn ended) l.device-index (silence_in l.fn.self)
    (silence_in l.self)
