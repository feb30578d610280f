-- Paths are led over an act: by steps from their entries, or by resting.
use Rattle.mdb_run_search.proofs.Words.{nil_from_length, nat_tests, arith, rules, ap, ◌≡◌, true, PowerOn, acts_of}
use Rattle.mdb_machine.specs.shared.OwnWays.{decides}
use Rattle.mdb_run_search.proofs.Paths.{all-led-within, entries-within-kept, no-way, paths-led, paths-still}
use Rattle.mdb_run_search.proofs.Chains.{keep-same}
use Rattle.mdb_run_search.proofs.explain.paths.lead.Goals as goal

pub fill-requires : goal.fill-requires
fill-requires g c = (
  search rules,
  (
    c.requires.size,
    (
      g.met.P.Pair.settled_from_power_on c.requires.stands.0 c.args.paths.now.facts
          c.requires.stands.1 c.args.act.now c.requires.stands.2,
      rw c.deref.ensures.value c.requires.within,
    ),
  ),
)

pub returns-then-is_empty-clause-none : goal.returns-then-is_empty-clause-none
returns-then-is_empty-clause-none g c profile pieces are =
    no-way (rw (← c.deref.ensures.value) at are.best)
    (c.in_ok-fill.ensures.led profile (acts_of pieces) are.facts)
    (nil_from_length c.fill.new.room.entries.items (grind (
      arith,
      nat_tests,
      c.fill.new.room.entries.ok,
      c.is_empty.ensures,
      c.if-is_empty.true,
    )))

pub returns-then-is_empty-clause-within : goal.returns-then-is_empty-clause-within
returns-then-is_empty-clause-within g c limit within =
    entries-within-kept _ (omega arith) c.in_ok-fill.ensures.kept within

pub returns-clause-led : goal.returns-clause-led
returns-clause-led g c profile pieces events at are =
    let p = g.P.Pair in
    let act = c.args.act.now in
    let still : c.if-matters.paths.facts ≡ c.args.paths.now.facts = elim c.if-matters.branch [
      | goal.then-matters+in_ok-fill+else-is_empty w ↦ ap (λ v. v.facts) w.paths-is
      | goal.else-matters w ↦ ap (λ v. v.facts) w.paths-is
    ] in
    record {
      facts = c.learn.ensures (PowerOn profile) (acts_of pieces) (rw still are.facts);
      best = elim c.if-matters.branch [
        | goal.then-matters+in_ok-fill+else-is_empty w ↦
            rw (w.paths-is, w.swap.ensures.x_after, w.chains-is)
            (paths-led (rw (← w.deref.ensures.value) at are.best)
            (w.in_ok-fill.ensures.led profile (acts_of pieces) are.facts) events
            g.met.P.Pair.apart ((decides p.device act).1 w.if-matters.ensures.own) at)
        | goal.else-matters w ↦ rw (w.paths-is, w.chains-is)
            (paths-still act events (w.if-matters.ensures.still profile) are.best)
      ];
    }

pub returns-clause-within : goal.returns-clause-within
returns-clause-within g c limit within =
    let stands = c.requires.stands in
    elim c.if-matters.branch [
      | goal.then-matters+in_ok-fill+else-is_empty w ↦
          rw (w.paths-is, w.swap.ensures.x_after, w.chains-is)
          (all-led-within (w.in_ok-fill.ensures.led stands.0 stands.1 stands.2)
          (rw (← w.deref.ensures.value) at within))
      | goal.else-matters w ↦ rw (w.paths-is, w.chains-is)
          (entries-within-kept _ (omega arith) keep-same within)
    ]
