-- Where the table has no step, its device has none. Else table, facts and count go on by the act.
use Rattle.mdb_follow.proofs.Words.{arith, refl, added}
use Rattle.mdb_follow.proofs.side.lead.Goals as goal

pub returns-then-not-advance-clause-none : goal.returns-then-not-advance-clause-none
returns-then-not-advance-clause-none c p begins acts on state sums way choice stands after gains
    step =
    p.if-not-advance.ensures.none begins acts on.facts on.table after (added sums gains) (record {
      choice = choice;
      stands = stands;
      before = state;
      sums_before = sums;
      gains = gains;
      way = way;
      step = step;
      adds = refl;
    })

pub returns-clause-followed : goal.returns-clause-followed
returns-clause-followed c p = record {
  stands = λ begins acts on. record {
    facts = p.learn.ensures begins acts on.facts;
    table = p.if-not-advance.ensures.table begins acts on.facts on.table;
    counted =
        let adds = p.unvalued_by.ensures.adds begins acts on.facts in
        let counted = on.counted in
        omega (arith, adds, counted);
  };
  within = λ limit fits.
      let small = p.unvalued_by.ensures.small in
      let count = fits.count in
      record {
        ends = p.advance.ensures.within limit fits.ends;
        count = omega (arith, small, count);
      };
}
