-- A row is settled, or taken slowly.
use Rattle.mdb_follow.proofs.Words.{rules, ap, refl, sym, counted_with}
use Rattle.mdb_follow.proofs.follower.Follower.take.Goals as goal

pub returns-in-Some : goal.returns-in-Some
returns-in-Some c =
    let settled = c.settle.ensures.settled c.args.self.now (record {
      like = (refl, refl, refl, refl, refl);
      scope = c.feed_timely.ensures.scope;
      goes_on = c.in-Some.ensures.goes_on;
      sender = λ pieces stands. ap (λ s. counted_with s c.args.self.now.untimely)
          (sym (c.in-Some.ensures.timely pieces stands));
    }) in
    search rules

pub returns-in-None : goal.returns-in-None
returns-in-None c =
    let settled = c.take_slowly.ensures.settled c.args.self.now (refl, refl, refl, refl, refl)
    c.in-None.ensures.unchanged in
    search rules
