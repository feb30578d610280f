-- By any facts, so by those known, the choice changes nothing of the changer's step.
use Rattle.mdb_cash.proofs.Words.{unheeded_knowing}
use Rattle.mdb_cash.specs.Changer.{conduct}
use Rattle.mdb_cash.specs.ChangerFacts.{tables}
use Rattle.mdb_cash.proofs.changer.ChangerPair.heeds_choice.Goals as goal

pub returns : goal.returns
returns c =
    unheeded_knowing tables conduct c.args.act.now c.args.state c.heeds_choice.result
    c.heeds_choice.ensures
