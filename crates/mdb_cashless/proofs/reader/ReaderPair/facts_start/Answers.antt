-- The facts at the start are those of the pair's unit after no act.
use Rattle.mdb_cashless.proofs.Words.{◌∙◌, [], ap, known_of}
use Rattle.mdb_cashless.proofs.reader.ReaderPair.facts_start.Goals as goal

pub returns : goal.returns
returns g c = c.start.ensures ∙ ap (λ unit. known_of c.args.begins.now unit []) c.unit_of.ensures
