-- By the plain choice, a reader that holds goes on to do so only if no message is kept.
use Rattle.mdb_cashless.proofs.Words.{◌&&◌, ◌∙◌, ap, not}
use Rattle.mdb_cashless.proofs.KeptAcked.{heard_is}
use Rattle.mdb_cashless.proofs.reader.answers.holds_on.Goals as goal

pub returns-in-Plain : goal.returns-in-Plain
returns-in-Plain c = λ messages keeps_is.
    ap (λ k. c.args.holds && not k) keeps_is
    ∙ heard_is c.args.choice c.in-Plain.is messages c.args.holds
