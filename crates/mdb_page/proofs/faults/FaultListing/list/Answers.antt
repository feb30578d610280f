-- A fault is listed, or has no room.
use Rattle.mdb_page.proofs.Words.{ap, arith, inl, inr, refl, written_lines, ◌++◌, ◌∙◌}
use Rattle.mdb_page.proofs.OneFault.{fills, lists_one, too_long}
use Rattle.mdb_page.proofs.faults.FaultListing.list.Goals as goal

pub returns-then-self-faults-clause-taken : goal.returns-then-self-faults-clause-taken
returns-then-self-faults-clause-taken c done body skip earlier has is =
    fills c.args.ended.now has c.requires.passed c.requires.open refl refl refl refl
    (inl (omega (arith, has.number, has.few, c.if-self-faults.true)))

pub returns-then-add-clause-taken : goal.returns-then-add-clause-taken
returns-then-add-clause-taken c done body skip earlier has is =
    lists_one c.args.ended.now has c.requires.passed c.requires.open refl refl _ refl
    c.requires.open (omega (arith, c.if-self-faults.false)) refl
    (rw c.saturating_sub.ensures is)
    (c.add.ensures.added c.if-add.true
    ∙ ap (λ text. written_lines c.args.lines.now ++ text) (c.text.ensures ∙ c.in-Ok.ensures))

pub returns-else-add-clause-taken : goal.returns-else-add-clause-taken
returns-else-add-clause-taken c done body skip earlier has is =
    let refused = c.add.ensures.refused c.if-add.false in
    rw refused.0 (fills c.args.ended.now has c.requires.passed c.requires.open refl refl refl refl
    (inr (too_long c.args.ended.now has.shown c.args.lines.now c.text.result.now
    has.listed.text (c.text.ensures ∙ c.in-Ok.ensures) refused.1)))
