-- The rows are taken, or what was met at the first that is refused is told.
use Rattle.mdb_check.proofs.Words.{HasFollowed, Meets, ap, arith, before_last, last_begun, last_of, length, refl, rows_of, scope_of, subst, sym, take, take_all, ◌++◌, ◌-◌, ◌∙◌, ◌≡◌}
use Rattle.mdb_verdict.specs.Ending.{StopsAmong}
use Rattle.mdb_check.proofs.Following.{front_within, met_there, taken_among}
use Rattle.mdb_check.proofs.heeding.HeedingTakeRowsLevels.take_all.Goals as goal

pub returns-then-feed_all-clause-taken : goal.returns-then-feed_all-clause-taken
returns-then-feed_all-clause-taken c before earlier has =
    let rows = c.args.rows.now in
    let on : HasFollowed (scope_of c.feed_all.new.self.follower) before c.feed_all.new.self
    (earlier ++ rows) =
    subst (λ s. HasFollowed s before c.feed_all.new.self (earlier ++ rows))
    (sym c.feed_all.ensures.scope)
    (c.if-feed_all.ensures.taken (scope_of c.args.self.now.follower) before earlier has.is) in
    let all : take (length rows) rows ≡ rows = take_all (length rows) rows (omega arith) in
    let begun : c.begun_before-self.result ≡ last_begun (earlier ++ rows) =
    c.begun_before-self.ensures earlier has.begun ∙ ap (λ l. last_begun (earlier ++ l)) all in
    record {
      is = record {
        follows = on.follows;
        joined = on.joined;
        reported = on.reported;
        begun = λ joined. begun;
      };
      last = c.row_before-self.ensures earlier (c.feed_all.ensures.last ∙ has.last)
          ∙ ap (λ l. last_of (earlier ++ l)) all;
      earlier = c.row_before_that-self.ensures earlier (c.feed_all.ensures.last ∙ has.last)
          (c.feed_all.ensures.earlier ∙ has.earlier)
          ∙ ap (λ l. before_last (earlier ++ l)) all;
      begun = begun;
    }

pub overflow_sub-index : goal.overflow_sub-index
overflow_sub-index c =
    let had = c.requires.begun in
    let among = c.if-feed_all.ensures.refused (scope_of c.args.self.now.follower) had.0 had.1
    had.2.is in
    let taken = taken_among among (rows_of c.args.self.now.follower) had.2.is.follows.counted in
    omega (arith, taken, c.rows.ensures, c.rows-before.ensures)

pub met-requires-clause-met : goal.met-requires-clause-met
met-requires-clause-met c =
    let had = c.requires.begun in
    let among = c.if-feed_all.ensures.refused (scope_of c.args.self.now.follower) had.0 had.1
    had.2.is in
    rw among.is.noted refl

pub met-requires-clause-within : goal.met-requires-clause-within
met-requires-clause-within c =
    let had = c.requires.begun in
    let among = c.if-feed_all.ensures.refused (scope_of c.args.self.now.follower) had.0 had.1
    had.2.is in
    let taken = taken_among among (rows_of c.args.self.now.follower) had.2.is.follows.counted in
    let within = front_within among in
    omega (arith, taken, within, c.rows.ensures, c.rows-before.ensures)

pub returns-clause-taken : goal.returns-clause-taken
returns-clause-taken c before earlier has =
    let among = c.if-feed_all.ensures.refused (scope_of c.args.self.now.follower) before earlier
    has.is in
    let taken = taken_among among (rows_of c.args.self.now.follower) has.is.follows.counted in
    subst (λ s. StopsAmong (λ taken row. Meets s before c.feed_all.new.self taken row c.met.result)
    earlier c.args.rows.now) (sym c.feed_all.ensures.scope)
    (met_there among (c.rows.result - c.rows-before.result) c.met.result
    (omega (arith, taken, c.rows.ensures, c.rows-before.ensures)) c.met.ensures.offence
    c.met.ensures.unjudged c.met.ensures.row
    (c.met.ensures.last earlier (c.feed_all.ensures.last ∙ has.last))
    (c.met.ensures.earlier earlier (c.feed_all.ensures.last ∙ has.last)
    (c.feed_all.ensures.earlier ∙ has.earlier))
    (c.met.ensures.unfollowed earlier has.begun))
