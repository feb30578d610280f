-- Each step goes over with the code of its state, in order, until all have.
use Rattle.mdb_machine.proofs.Words.{◌≡◌, ◌++◌, ◌∷◌, [], ◌∙◌, ap, arith, length, subst, sym, take, take-length, take_more}
use Rattle.mdb_machine.proofs.StepCodes.{AreCoded, coded_more}
use Rattle.mdb_machine.proofs.pair.coded.Goals as goal

pub loop-after-preserved : goal.loop-after-preserved
loop-after-preserved g c = record {
  codes = coded_more g.S.HasCode.code_of (take c.loop-after.after-index c.args.steps.now) _
      c.loop-after.coded.items c.push.new.self.items c.loop-after-item.result
      (take_more c.args.steps.now c.loop-after.after-index c.loop-after-item.result
      c.loop-after-test.true
      ∙ ap (λ step. take c.loop-after.after-index c.args.steps.now ++ step ∷ [])
      (sym c.loop-after-item.is))
      (c.push.ensures.items
      ∙ ap (λ n. c.loop-after.coded.items ++ (n, c.loop-after-item.result.1) ∷ [])
      c.its_code.ensures)
      c.loop-after.invariant.codes;
  room = omega (arith, c.push.ensures.len, c.loop-after.invariant.room);
}

pub returns : goal.returns
returns g c =
    let all : c.loop-after.after-index ≡ length c.args.steps.now =
    omega (arith, c.loop-after-test.false, c.loop-after.auto.after-index-end) in
    subst (λ steps. AreCoded g.S.HasCode.code_of steps c.loop-after.coded.items)
    (ap (λ i. take i c.args.steps.now) all ∙ take-length c.args.steps.now)
    c.loop-after.invariant.codes
