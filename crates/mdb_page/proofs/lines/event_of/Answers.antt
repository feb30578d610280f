-- A line of one field, of two, or of more than three is no row.
use Rattle.std.proofs.Common.{[], ◌∷◌, sym, ◌∙◌, arith}
use Rattle.mdb_page.proofs.Fields.{alone, more, some_told, too_many}
use Rattle.mdb_page.proofs.lines.event_of.Goals as goal

pub returns-in_default-clause-none : goal.returns-in_default-clause-none
returns-in_default-clause-none c =
    let line = c.args.line.now in
    record {
      fields = line ∷ [];
      all = alone line c.in_default.ensures.none;
      is = λ few. omega (arith, few);
    }

pub returns-in_default-cut-clause-none : goal.returns-in_default-cut-clause-none
returns-in_default-cut-clause-none c =
    let behind = c.in-Some.behind.now in
    record {
      fields = c.in-Some.time.now ∷ behind ∷ [];
      all =
          more c.args.line.now c.in-Some.time.now behind (behind ∷ []) c.in-Some.ensures.cut
          (omega arith) (alone behind c.in_default-cut.ensures.none);
      is = λ few. omega (arith, few);
    }

pub returns-then-is_some-clause-none : goal.returns-then-is_some-clause-none
returns-then-is_some-clause-none c =
    let third =
    some_told c.cut-3.result c.cut-3.ensures.cut (sym c.is_some.ensures ∙ c.if-is_some.true) in
    too_many c.args.line.now c.in-Some.time.now c.in-Some.behind.now c.in-Some-cut.letter.now
    c.in-Some-cut.value.now third.0.0.now third.0.1.now
    c.in-Some.ensures.cut c.in-Some-cut.ensures.cut third.1
