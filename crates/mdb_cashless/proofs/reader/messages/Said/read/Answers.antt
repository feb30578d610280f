-- One message more adds what it says to what the messages before it said.
use Rattle.mdb_cashless.proofs.Words.{[], ◌∷◌, ◌++◌, ◌∙◌, ap, append_assoc, arith, sym, length-append}
use Rattle.mdb_cashless.proofs.Said.{said_more}
use Rattle.mdb_cashless.proofs.reader.messages.Said.read.Goals as goal

pub loop-message-preserved : goal.loop-message-preserved
loop-message-preserved c =
    let before = c.loop-message.yielded in
    let more = length-append before (c.in-Some.message ∷ []) in
    record {
      next = tt;
      finite = tt;
      all =
          c.loop-message.invariant.all
          ∙ (ap (λ ms. before ++ ms) c.in-Some.ensures.steps
          ∙ sym (append_assoc before (c.in-Some.message ∷ []) c.next.new.self));
      said =
          said_more c.loop-message.self c.add.new.self before c.in-Some.message
          c.loop-message.invariant.said c.add.ensures.summary c.add.ensures.config
          c.add.ensures.amount c.add.ensures.begins c.add.ensures.refused;
      room = omega (arith, more, c.add.ensures.room, c.loop-message.invariant.room);
    }
