-- A reply to the reader's own command tells what was taken where its answer does.
use Rattle.mdb_cashless.proofs.Words.{◌∙◌, sym}
use Rattle.mdb_cashless.proofs.KnownAfter.{answered_told}
use Rattle.mdb_cashless.proofs.reader.known.tells_taken.Goals as goal

pub returns-in-Some-own : goal.returns-in-Some-own
returns-in-Some-own c =
    c.answer_tells_taken.ensures
    ∙ answered_told c.args.unit c.args.act.now c.in-Reply.command c.in-Some-own.command
    c.in-Reply.reply
    c.in-Reply.is (sym c.own-in-Reply.ensures ∙ c.in-Some-own.is)
