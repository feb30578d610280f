-- Each step goes over with its code raised, in order, until all have.
use Rattle.mdb_cashless.proofs.Words.{◌≡◌, ◌+◌, [], ◌∙◌, ap, arith, length, subst, take-length, take_more, Contains-get_or, READER_STATES, AreCoded, coded_more, take}
use Rattle.mdb_cashless.proofs.by_profile.raised.Goals as goal

pub overflow_add-code : goal.overflow_add-code
overflow_add-code c =
    let few = c.requires.below _ _ (Contains-get_or c.args.steps.now c.loop-code.code-index
    (0, record { device = []; controller = [] }) c.loop-code-test.true) in
    omega (arith, few)

pub loop-code-preserved : goal.loop-code-preserved
loop-code-preserved c = record {
  codes = coded_more (λ code. READER_STATES + code)
      (take c.loop-code.code-index c.args.steps.now) _ c.loop-code.raised.items
      c.push.new.self.items _
      (take_more c.args.steps.now c.loop-code.code-index _ c.loop-code-test.true)
      c.push.ensures.items c.loop-code.invariant.codes;
  room = omega (arith, c.push.ensures.len, c.loop-code.invariant.room);
}

pub returns : goal.returns
returns c =
    let all : c.loop-code.code-index ≡ length c.args.steps.now =
    omega (arith, c.loop-code-test.false, c.loop-code.auto.code-index-end) in
    subst (λ steps. AreCoded (λ code. READER_STATES + code) steps c.loop-code.raised.items)
    (ap (λ i. take i c.args.steps.now) all ∙ take-length c.args.steps.now)
    c.loop-code.invariant.codes
