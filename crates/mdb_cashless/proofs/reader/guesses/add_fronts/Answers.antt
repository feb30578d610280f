-- A reply where the last kept list isn't known: it is a front of the reply's, or none of them.
use Rattle.mdb_cashless.proofs.Words.{◌∙◌, arith, facts_in}
use Rattle.mdb_cashless.proofs.Listed.{adds_one, fronts_found, no_front, one_front, small_one}
use Rattle.mdb_cashless.proofs.reader.guesses.add_fronts.Goals as goal

pub loop-last-init : goal.loop-last-init
loop-last-init c = record {
  items = no_front (facts_in c.args.facts.now) _ _ _ _ _ c.as_slice-kept.result.now;
  room = omega arith;
  small = λ small. small;
}

pub add_step-requires-in-loop-last : goal.add_step-requires-in-loop-last
add_step-requires-in-loop-last c = omega (arith, c.as_slice-kept.ensures.fits)

pub loop-last-preserved : goal.loop-last-preserved
loop-last-preserved c =
    let step = rw c.keeping-facts.ensures at c.answer-in-loop-last.ensures.step in
    record {
      items = one_front (facts_in c.args.facts.now) _ _ _ _ _ _ _ c.as_slice-kept.result.now
          c.loop-last.last c.loop-last.invariant.items
          (adds_one _ _ _ _ step c.add_step-in-loop-last.ensures.items);
      room = omega (arith, c.loop-last.invariant.room, c.add_step-in-loop-last.ensures.room);
      small = λ small. small_one _ _ _ (c.loop-last.invariant.small small)
          c.answer-in-loop-last.ensures.small c.add_step-in-loop-last.ensures.items;
    }

pub returns-clause-items : goal.returns-clause-items
returns-clause-items c =
    let said = rw c.messages_of.ensures.messages at c.read.ensures in
    let step = rw c.keeping-other.ensures at c.answer.ensures.step in
    fronts_found (facts_in c.args.facts.now) _ _ _ _ _ _ _ c.as_slice-kept.result.now
    c.loop-last.last
    (c.as_slice-kept.ensures.value ∙ said.summary_is.kept_is)
    (omega (arith, c.loop-last.auto.last-end, c.loop-last-test.false))
    (adds_one _ _ _ _ step c.add_step.ensures.items) c.loop-last.invariant.items

pub returns-clause-room : goal.returns-clause-room
returns-clause-room c = omega (arith, c.as_slice-kept.ensures.fits)

pub returns-clause-small : goal.returns-clause-small
returns-clause-small c small = c.loop-last.invariant.small
    (small_one _ _ _ small c.answer.ensures.small c.add_step.ensures.items)
