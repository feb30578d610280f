-- A block is read as the one reply that it spells, or with its one fault.
use Rattle.mdb_msgs.proofs.Words.{subst, sym, ◌∙◌, IsReadFault}
use Rattle.mdb_msgs.proofs.OneReply.{found_reply, one_content, only_content, only_fault, read_fault}
use Rattle.mdb_msgs.proofs.reply.read_reply.Goals as goal

pub returns-clause-found : goal.returns-clause-found
returns-clause-found c = found_reply c.args.command.now _ _ c.reply_of.result
    c.content.ensures.block c.reply_of.ensures.found c.reply_of.ensures.spelled

pub returns-clause-only : goal.returns-clause-only
returns-clause-only c other spells is_in =
    let read = c.reply_of.ensures in
    only_content c.args.reading c.args.command.now c.content.result.now c.reply_of.result read.found
    read.reading read.spelled read.fault other spells.answers is_in
    (one_content _ _ (sym c.content.ensures.block ∙ spells.bytes))

pub returns-clause-fault : goal.returns-clause-fault
returns-clause-fault c = read_fault c.args.reading c.args.command.now _ _ c.content.ensures.block
    c.reply_of.result c.reply_of.ensures.fault

pub returns-clause-refused : goal.returns-clause-refused
returns-clause-refused c other fault is bad =
    let read = c.reply_of.ensures in
    only_fault c.args.reading c.args.command.now c.content.result.now c.reply_of.result read.found
    read.reading read.spelled read.fault fault
    (subst (λ x. IsReadFault c.args.reading c.args.command.now x fault)
    (one_content other _ (sym is ∙ c.content.ensures.block)) bad)
