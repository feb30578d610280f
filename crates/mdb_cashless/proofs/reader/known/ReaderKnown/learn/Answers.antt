-- What is known of a reader after one act more is what was known, with that act noted.
use Rattle.mdb_cashless.proofs.Words.{◌∙◌, ap, known_with, goes_on}
use Rattle.mdb_cashless.proofs.reader.known.ReaderKnown.learn.Goals as goal

pub returns : goal.returns
returns c = λ begins acts before.
    c.note.ensures ∙ ap (known_with c.args.unit c.args.act.now) before
    ∙ goes_on c.args.unit begins c.args.act.now acts
