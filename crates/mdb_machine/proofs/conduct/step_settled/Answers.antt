-- Where an act is settled, the known facts suffice, so this step is the only one.
use Rattle.mdb_machine.proofs.Knowing.{settled_only}
use Rattle.mdb_machine.proofs.conduct.step_settled.Goals as goal

pub returns-clause-step : goal.returns-clause-step
returns-clause-step g c =
    settled_only g.met.K.Conduct.some_kept g.K.Keeper.tables g.K.Conduct.conduct
    g.met.K.Conduct.overlooks c.args.known.now
    c.args.act.now c.args.choice c.args.before c.requires c.step.result c.step.ensures.step
