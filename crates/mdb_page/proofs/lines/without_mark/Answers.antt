-- A byte order mark in front is left out.
use Rattle.mdb_page.proofs.Words.{arith, marked, unmarked}
use Rattle.mdb_page.proofs.Ends.{no_third}
use Rattle.mdb_page.proofs.lines.without_mark.Goals as goal
use Rattle.mdb_page.proofs.lines.without_mark.Goals.{else-text-ge3-via-then-text-ge3+then-text+then-text-2+else-text-3, else-text-ge3-via-then-text-ge3+then-text+else-text-2, else-text-ge3-via-then-text-ge3+else-text, else-text-ge3-via-else-text-ge3}

pub returns-then-text-3-clause-rest : goal.returns-then-text-3-clause-rest
returns-then-text-3-clause-rest c =
    marked (record { one = c.if-text.true; two = c.if-text-2.true; three = c.if-text-3.true })
    c.split_at.ensures.back

pub returns-clause-rest : goal.returns-clause-rest
returns-clause-rest c = unmarked (λ mark. elim c.else-text-ge3.branch [
  | else-text-ge3-via-then-text-ge3+then-text+then-text-2+else-text-3 w ↦
      w.if-text-3.false mark.three
  | else-text-ge3-via-then-text-ge3+then-text+else-text-2 w ↦ w.if-text-2.false mark.two
  | else-text-ge3-via-then-text-ge3+else-text w ↦ w.if-text.false mark.one
  | else-text-ge3-via-else-text-ge3 w ↦
      no_third c.args.text.now (λ many. omega (arith, many, w.if-text-ge3.false)) mark.three
])
