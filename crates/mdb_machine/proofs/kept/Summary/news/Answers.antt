-- A reply whose kept list doesn't begin with what is held can't be told.
use Rattle.mdb_machine.proofs.KeptLists.{untold}
use Rattle.mdb_machine.proofs.kept.Summary.news.Goals as goal

pub returns-clause-none : goal.returns-clause-none
returns-clause-none g c =
    untold c.news_after.result c.args.is_poll c.args.reset_owed c.args.self.now.reset
    c.args.self.now.early c.args.choice c.args.held.now c.as_slice.ensures.value
    c.news_after.ensures.none
