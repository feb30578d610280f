-- The device that an answer names has answered.
use Rattle.mdb_follow.proofs.Words.{inl, inr, ended}
use Rattle.mdb_follow.proofs.Kept.{all-go-on}
use Rattle.mdb_follow.proofs.silence.Silences.follow.Goals as goal

pub returns-in-Ack : goal.returns-in-Ack
returns-in-Ack c =
    let go = rw c.device-in-Ack.ensures at (all-go-on (λ other. ended) c.device-in-Ack.result
    c.args.self.now c.end.new.self c.end.ensures) in
    elim c.in-Ack.is [
      | inl is ↦ rw is go
      | inr (inl is) ↦ rw is go
      | inr (inr other) ↦ rw other.1 go
    ]
