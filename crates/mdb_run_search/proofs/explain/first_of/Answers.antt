-- The first mark of both lists is that of the least row.
use Rattle.mdb_run_search.proofs.Words.{arith, ◌∷◌, nil_from_length, of_one, of_other}
use Rattle.mdb_run_search.specs.inner.Merges.{nothing}
use Rattle.mdb_run_search.proofs.explain.first_of.Goals as goal

pub returns-in_err-next-clause-none : goal.returns-in_err-next-clause-none
returns-in_err-next-clause-none c =
    rw (
      c.from_residual.ensures,
      nil_from_length c.args.one.now c.in_default.ensures.cases,
      nil_from_length c.args.other.now c.in_err-next.ensures.cases,
    ) nothing

pub returns-in_default-clause-goes : goal.returns-in_default-clause-goes
returns-in_default-clause-goes c =
    rw (c.in_ok-next.ensures.cases.0, nil_from_length c.args.one.now c.in_default.ensures.cases)
    (λ rest. of_other _ _ _ rest tt)

pub returns-in-None-clause-goes : goal.returns-in-None-clause-goes
returns-in-None-clause-goes c =
    rw (c.in-Some.ensures.cases.0, nil_from_length c.args.other.now c.in-None.ensures.cases)
    (λ rest. of_one _ _ _ rest tt)

pub returns-then-next-mark-clause-goes : goal.returns-then-next-mark-clause-goes
returns-then-next-mark-clause-goes c =
    rw (c.in-Some.ensures.cases.0, c.in-Some-split_first.ensures.cases.0)
    (λ rest. of_other c.in-Some-split_first.next.now (c.in-Some.mark.now ∷ c.in-Some.more.now)
    _ rest (omega (arith, c.if-next-mark.true)))

pub returns-else-next-mark-clause-goes : goal.returns-else-next-mark-clause-goes
returns-else-next-mark-clause-goes c =
    let other = c.in-Some-split_first.next.now ∷ c.in-Some-split_first.further.now in
    rw (c.in-Some.ensures.cases.0, c.in-Some-split_first.ensures.cases.0)
    (λ rest. of_one c.in-Some.mark.now _ other rest (omega (arith, c.if-next-mark.false)))
