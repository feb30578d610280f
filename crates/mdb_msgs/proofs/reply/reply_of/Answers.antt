-- Bytes are read as the one reply that they are, or with their one fault.
use Rattle.mdb_msgs.proofs.OneReply.{only_content, only_fault}
use Rattle.mdb_msgs.proofs.reply.reply_of.Goals as goal

pub returns-clause-only : goal.returns-clause-only
returns-clause-only c =
    let read = c.read_content.ensures in
    only_content c.args.reading c.args.command.now c.args.content.now c.read_content.result
    read.found read.reading read.spelled read.fault

pub returns-clause-refused : goal.returns-clause-refused
returns-clause-refused c =
    let read = c.read_content.ensures in
    only_fault c.args.reading c.args.command.now c.args.content.now c.read_content.result read.found
    read.reading read.spelled read.fault
