-- So far, identifications are read as the messages seen ask for at least.
use Rattle.mdb_msgs.proofs.Words.{◌≡◌, take, own_ids}
use Rattle.mdb_msgs.proofs.reply.reader.own_ids.Given as goal

abbrev pub invariant-loop-message : goal.invariant-loop-message
invariant-loop-message l = l.ids ≡ own_ids (take l.message-index l.messages)
