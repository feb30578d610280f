-- Without a setup, each amount that an act tells has no value.
use Rattle.mdb_machine.proofs.Words.{ap, sym, ◌∙◌}
use Rattle.mdb_machine.proofs.Knowing.{all_unvalued}
use Rattle.mdb_machine.proofs.conduct.unvalued_by.Goals as goal

pub returns-else-is_some-clause-adds : goal.returns-else-is_some-clause-adds
returns-else-is_some-clause-adds g c begins acts stands =
    all_unvalued g.K.Keeper.tables g.K.Conduct.conduct begins c.args.act.now acts
    c.args.known.now.facts.setup
    c.amounts_in.result (ap (λ known. known.setup) stands)
    (sym c.is_some.ensures ∙ c.if-is_some.false)
    c.amounts_in.ensures.count
