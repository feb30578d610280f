-- An ask concerns a reader where its command may change the view.
use Rattle.mdb_cashless.proofs.Words.{◌∙◌, sym}
use Rattle.mdb_cashless.proofs.ReaderMoves.{ask_stays, denied}
use Rattle.mdb_cashless.proofs.reader.steps.concerns.Goals as goal

pub returns-in-Some-clause-still : goal.returns-in-Some-clause-still
returns-in-Some-clause-still c = denied c.changes_view.result (λ no facts choice before after gains.
    rw (c.in-Ask.is, sym c.own.ensures ∙ c.in-Some.is)
    (ask_stays facts before after gains c.in-Some.command (sym c.changes_view.ensures ∙ no)))
