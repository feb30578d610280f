-- Any row: the bus takes it, and it is settled, or it breaks a rule of the link.
use Rattle.mdb_follow.proofs.Words.{◌+◌, ap, inl, refl, ◌∙◌, open_block_of, HasRefused}
use Rattle.mdb_bus.specs.Bus.{scope_of}
use Rattle.mdb_follow.proofs.Following.{accepted-still, link-offence, some-at}
use Rattle.mdb_follow.proofs.follower.Follower.take_slowly.Goals as goal

pub returns-in-Ok-clause-settled : goal.returns-in-Ok-clause-settled
returns-in-Ok-clause-settled c before like same = c.settle.ensures.settled before (record {
  like = like;
  scope = c.feed_slowly.ensures.scope ∙ ap scope_of same;
  goes_on = rw same at c.in-Ok.ensures.goes_on;
  sender = rw same at c.untimely_sender-sender.ensures;
})

pub returns-in-Err-clause-settled : goal.returns-in-Err-clause-settled
returns-in-Err-clause-settled c before like same = record {
  taken = tt;
  act = tt;
  refused = some-at c.stop.new.noted _ (HasRefused before _ c.args.event.now) c.stop.ensures
      (record {
        offence = λ events on. link-offence before events c.args.event.now on
            c.in-Err.fault _ ((rw same at c.in-Err.ensures.faults) on.pieces on.on_bus)
            ((rw same at c.in-Err.ensures.impossible) on.pieces on.on_bus)
            (ap (λ n. n + 1) like.3) refl refl;
        accepted = λ events on. accepted-still before _ events on
            (c.feed_slowly.ensures.scope ∙ ap scope_of same) like.3 (inl like.0) like.1 like.2
            (λ met noted late. c.in-Err.ensures.unchanged ∙ same);
        noted = c.stop.ensures;
        numbered = refl;
        uncounted = like.3;
        block = λ beyond. ap open_block_of (c.in-Err.ensures.unchanged ∙ same);
      });
}
