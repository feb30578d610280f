-- Setup, effect and kept messages of a reply, noted one after the other, are the facts after it.
use Rattle.mdb_machine.proofs.Words.{ap, facts_in, past_in}
use Rattle.mdb_machine.proofs.KeeperFacts.{replied}
use Rattle.mdb_machine.proofs.keeper.KeeperFacts.note_reply.Goals as goal

pub returns : goal.returns
returns g c =
    replied g.K.Keeper.tables c.args.profile c.args.command c.args.reply.now
    (facts_in c.args.self.now) (facts_in c.note_setup.new.self) (facts_in c.take.new.self)
    (past_in c.keep.new.self) c.effect_answered.result c.effect_of.result
    (ap facts_in c.note_setup.ensures) c.effect_of.ensures c.effect_answered.ensures
    c.take.ensures
    (c.keep.ensures (g.K.Keeper.tables.parts_of c.args.reply.now) c.summary_of.ensures)
