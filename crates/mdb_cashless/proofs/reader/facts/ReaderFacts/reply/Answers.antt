-- A reply to the reader's own command tells of it what its answer tells.
use Rattle.mdb_cashless.proofs.Words.{◌∙◌, sym, told_in}
use Rattle.mdb_cashless.proofs.FactsTold.{replied}
use Rattle.mdb_cashless.proofs.reader.facts.ReaderFacts.reply.Goals as goal

pub returns-in-Some : goal.returns-in-Some
returns-in-Some c =
    replied c.args.unit c.args.command.now c.in-Some.command c.args.reply.now
    (told_in c.args.self.now) (told_in c.answer.new.self) (sym c.own.ensures ∙ c.in-Some.is)
    c.answer.ensures
