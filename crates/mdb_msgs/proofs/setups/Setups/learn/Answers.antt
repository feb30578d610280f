-- If a block reports a setup, its only reading reports it, so the block is an answer.
use Rattle.mdb_msgs.proofs.SetupData.{learns, learns_none}
use Rattle.mdb_msgs.proofs.setups.Setups.learn.Goals as goal

pub returns-else-is_answer-clause-only : goal.returns-else-is_answer-clause-only
returns-else-is_answer-clause-only c =
    learns c.args.is_extended c.args.device c.args.answer.now c.args.self.now c.setup_of.result
    c.setup_of.ensures c.read_told.result c.read_told.ensures.only
    c.in-Some.reply c.in-Some.is c.learn_reply-is_answer.result
    c.learn_reply-is_answer.ensures.untold

pub returns-in-None-clause-only : goal.returns-in-None-clause-only
returns-in-None-clause-only c =
    learns_none c.args.is_extended c.args.device c.args.answer.now c.args.self.now
    c.setup_of.result c.setup_of.ensures c.read_told.result c.read_told.ensures.only c.in-None.is
