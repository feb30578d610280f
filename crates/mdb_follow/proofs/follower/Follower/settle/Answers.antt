-- What a row of the bus makes of a follower: it is counted, and the act that it ends followed.
use Rattle.mdb_follow.proofs.Words.{List, ◌∷◌, [], ◌+◌, ◌*◌, ◌^◌, None, Some, ap, arith, refl, ◌∙◌, counted_with, HasRefused, Event}
use Rattle.mdb_follow.specs.Follower.{StandsFor, scope_of}
use Rattle.mdb_follow.proofs.Limits.{sides-within-weaker}
use Rattle.mdb_follow.proofs.Following.{accepted-still, ended-by, is-some-weaker, machine-offence, none-beyond, none-late, stands-on, stands-still, taken-by, times-on}
use Rattle.mdb_follow.proofs.follower.Follower.settle.Goals as goal

pub invariant_of-self-clause-within : goal.invariant_of-self-clause-within
invariant_of-self-clause-within c =
    sides-within-weaker (c.args.self.now.rows * 2 ^ 32) ((c.args.self.now.rows + 1) * 2 ^ 32)
    c.args.self.now.sides (omega arith) c.args.self.now.within

pub returns-then-not-ended-clause-settled : goal.returns-then-not-ended-clause-settled
returns-then-not-ended-clause-settled c before fed =
    let bus = c.args.self.now.bus in
    let row = c.args.event.now in
    let goes = λ (events : List Event) (on : StandsFor before events).
    rw c.if-not-ended.true at (fed.goes_on on.pieces on.on_bus) in
    record {
      taken = taken-by before _ (row ∷ []) fed.scope (omega (arith, fed.like.3)) (λ events on.
          stands-still before _ bus events row on (goes events on) refl fed.scope
          fed.like.0 fed.like.1 (ap (λ n. n + 1) fed.like.3) fed.like.4
          (times-on (scope_of before) _ on.pieces row bus None (goes events on)
          c.args.self.now.untimely c.note_untimely.new.counts c.args.sender fed.scope fed.scope
          (fed.like.2 ∙ on.untimely) (fed.sender on.pieces on.on_bus) c.note_untimely.ensures));
      act = λ events on. ended-by bus (scope_of before) events row on.pieces None
          on.on_bus.in_order on.whole (goes events on) fed.scope;
      refused = tt;
    }

pub returns-then-follow-clause-settled : goal.returns-then-follow-clause-settled
returns-then-follow-clause-settled c before fed =
    let self = c.args.self.now in
    let row = c.args.event.now in
    let followed = c.if-follow.ensures.followed in
    let goes = λ (events : List Event) (on : StandsFor before events).
    rw c.if-not-ended.false at (fed.goes_on on.pieces on.on_bus) in
    record {
      taken = taken-by before _ (row ∷ []) (c.follow.ensures.scope ∙ fed.scope)
          (omega (arith, followed.rows, fed.like.3)) (λ events on.
          stands-on before self c.follow.new.self events row self.act on
          (goes events on) fed.scope fed.like followed _ (refl, refl, refl, refl, refl)
          (times-on (scope_of before) (scope_of c.follow.new.self) on.pieces row self.bus
          (Some self.act) (goes events on) self.untimely
          c.note_untimely-then-follow.new.counts c.args.sender fed.scope
          (c.follow.ensures.scope ∙ fed.scope) (fed.like.2 ∙ on.untimely)
          (fed.sender on.pieces on.on_bus)
          (c.note_untimely-then-follow.ensures
          ∙ ap (counted_with c.args.sender) followed.untimely)));
      act = λ events on. rw c.follow.ensures.act (ended-by self.bus (scope_of before) events row
          on.pieces (Some self.act) on.on_bus.in_order on.whole (goes events on) fed.scope);
      refused = tt;
    }

pub returns-else-follow-clause-settled : goal.returns-else-follow-clause-settled
returns-else-follow-clause-settled c before fed =
    let self = c.args.self.now in
    let row = c.args.event.now in
    let new = c.follow.new.self in
    record {
      taken = tt;
      act = tt;
      refused = is-some-weaker new.offence _ (HasRefused before new row)
          (λ offence has. record {
            offence = λ events on. machine-offence c.transcripts_have_one_act_list.ensures
                before self new events row self.act offence on
                (rw c.if-not-ended.false at (fed.goes_on on.pieces on.on_bus)) fed.scope fed.like
                has;
            accepted = λ events on. accepted-still before new events on
                (c.follow.ensures.scope ∙ fed.scope) (has.uncounted ∙ fed.like.3)
                (rw fed.like.0 at has.stay) (has.silences ∙ fed.like.1)
                (has.untimely ∙ fed.like.2) (none-late self self.act row new offence has);
            noted = has.noted;
            numbered = omega (arith, has.number, has.uncounted);
            uncounted = has.uncounted ∙ fed.like.3;
            block = none-beyond self self.act row new offence has;
          })
          c.if-follow.ensures.stopped;
    }
