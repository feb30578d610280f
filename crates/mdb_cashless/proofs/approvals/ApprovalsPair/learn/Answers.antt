-- The facts after one act more come from those before, for the pair's unit.
use Rattle.mdb_cashless.proofs.Words.{◌∙◌, ap, facts_after, unit_of}
use Rattle.mdb_cashless.proofs.approvals.ApprovalsPair.learn.Goals as goal

pub returns : goal.returns
returns g c = λ begins acts stands.
    (rw c.unit_of.ensures at c.learn.ensures)
    ∙ ap (facts_after (unit_of g.row.UNIT) c.args.act.now) stands
