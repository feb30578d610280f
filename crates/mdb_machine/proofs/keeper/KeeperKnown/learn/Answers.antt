-- What is known after one act more is what was known, with that act noted.
use Rattle.mdb_machine.proofs.Words.{ap, ◌∙◌, known_with, known_more_of}
use Rattle.mdb_machine.proofs.keeper.KeeperKnown.learn.Goals as goal

pub returns : goal.returns
returns g c = λ begins acts before.
    let tables = g.K.Keeper.tables in
    c.note.ensures
    ∙ (ap (known_with tables c.args.act.now) before
    ∙ known_more_of tables begins c.args.act.now acts)
