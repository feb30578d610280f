-- What the step under a choice leads to is taken in.
use Rattle.mdb_run_search.proofs.Words.{inl, ap, refl, sym, ◌∙◌, ◌+ℤ◌, same_Some, PowerOn, none-some}
use Rattle.mdb_run_search.proofs.TakenIn.{takes-nothing, takes-one}
use Rattle.mdb_run_search.proofs.Weights.{small-sum}
use Rattle.mdb_run_search.proofs.explain.paths.take_step.Goals as goal

pub returns-in_default-clause-takes : goal.returns-in_default-clause-takes
returns-in_default-clause-takes g c profile acts stands =
    takes-nothing c.args.choice c.args.chains.now.links.items c.args.entry.now
    c.args.room.now.entries.items
    (λ next gains step. none-some (next, gains)
    (sym c.in_default.is ∙ (c.step.ensures.steps (PowerOn profile) acts stands next gains).1
    (inl c.requires.can, step)))

pub returns-clause-takes : goal.returns-clause-takes
returns-clause-takes g c profile acts stands =
    let steps = c.in-Some.ensures.steps (PowerOn profile) acts stands in
    takes-one c.args.choice
    (small-sum c.args.entry.now.1.value c.of.result c.requires.within.low c.requires.within.high
    c.of.ensures.low c.of.ensures.high
    ∙ ap (λ by. c.args.entry.now.1.value +ℤ by) c.of.ensures.is)
    c.in-Some.ensures.below.1 c.in-Some.ensures.below.0
    ((steps c.in-Some.next c.in-Some.gains).0 refl).1
    (λ to got step.
    (let same = same_Some (c.in-Some.next, c.in-Some.gains) (to, got)
    ((steps to got).1 (inl c.requires.can, step)) in
    (ap (λ move. move.0) same, ap (λ move. move.1) same)))
    c.in_ok-take_in.ensures.takes c.in_ok-take_in.ensures.has
