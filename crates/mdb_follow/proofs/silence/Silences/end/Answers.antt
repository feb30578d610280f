-- What is kept of the device that answered is put in its place.
use Rattle.mdb_follow.proofs.Words.{arith, ended}
use Rattle.mdb_follow.proofs.Kept.{at-most-more, one-goes-on}
use Rattle.mdb_follow.proofs.silence.Silences.end.Goals as goal

pub returns : goal.returns
returns c =
    one-goes-on (λ other. ended) c.args.device c.args.self.now c.device_place.result
    c.end.new.self c.device_place.ensures.place (omega arith)
    (record {
      stands = c.end.ensures.stands;
      few = λ most few. at-most-more c.end.new.self.counts most (rw c.end.ensures.same few);
    })
