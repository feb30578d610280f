-- The lines so far tell rows for which the judge stands, and where this ends.
use Rattle.mdb_page.proofs.Words.{[], arith, blank, le_refl, length, row, start, ◌++◌, ◌∷◌, ◌≡◌}
use Rattle.mdb_page.proofs.Walks.{blank_line_of, has_bytes, line_of}
use Rattle.mdb_page.proofs.answer.follow.Goals as goal

pub loop-line-init : goal.loop-line-init
loop-line-init g c = record {
  left = le_refl (length c.args.rest.now.now);
  read = ([], start, c.requires);
}

pub take-requires : goal.take-requires
take-requires g c =
    let before = c.loop-line.invariant in
    let counted = c.taken.ensures.counted c.args.scope.now before.read.0 before.read.2 in
    (c.args.scope.now, before.read.0, before.read.2, omega (arith, counted))

pub returns-in-Err-take-clause-offence : goal.returns-in-Err-take-clause-offence
returns-in-Err-take-clause-offence g c = λ offence same.
    let before = c.loop-line.invariant in
    let its : c.in-Err-take.offence ≡ offence = cc same in (
      before.read.0,
      c.in-Ok.event,
      before.read.1,
      record {
        bare = c.without_return-line.result.now;
        after = c.first_line.result.1.now;
        line = line_of c.first_line.ensures.line c.without_return-line.ensures;
        is = c.in-Ok.ensures.row;
      },
      rw its at (c.in-Err-take.ensures.refused c.args.scope.now before.read.0 before.read.2),
    )

pub returns-in-Err-clause-line : goal.returns-in-Err-clause-line
returns-in-Err-clause-line g c = λ why same.
    let before = c.loop-line.invariant in (
      before.read.0,
      before.read.1,
      before.read.2,
      record {
        bare = c.without_return-line.result.now;
        after = c.first_line.result.1.now;
        line = line_of c.first_line.ensures.line c.without_return-line.ensures;
        some = has_bytes c.without_return-line.result.now c.if-not-is_empty.ensures;
        is = c.in-Err.ensures.none why (cc same);
      },
    )

pub loop-line-preserved-in_default : goal.loop-line-preserved-in_default
loop-line-preserved-in_default g c =
    let before = c.loop-line.invariant in
    record {
      left = omega (arith, before.left, c.first_line.ensures.shorter);
      read = (
        before.read.0 ++ c.in-Ok.event ∷ [],
        row c.in-Ok.event before.read.1
            (line_of c.first_line.ensures.line c.without_return-line.ensures) c.in-Ok.ensures.row,
        c.in_default.ensures.taken c.args.scope.now before.read.0 before.read.2,
      );
    }

pub loop-line-preserved : goal.loop-line-preserved
loop-line-preserved g c =
    let before = c.loop-line.invariant in
    record {
      left = omega (arith, before.left, c.first_line.ensures.shorter);
      read = (
        before.read.0,
        blank before.read.1 (blank_line_of c.without_return-line.result.now
            c.first_line.ensures.line c.without_return-line.ensures c.if-not-is_empty.ensures),
        before.read.2,
      );
    }
