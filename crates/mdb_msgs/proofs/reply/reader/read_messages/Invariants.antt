-- The messages so far are read from the bytes before the rest, and it is noted which are long.
use Rattle.mdb_msgs.proofs.Words.{◌≡◌, length, list_any, own_ids, ReaderMessages, has_long}
use Rattle.mdb_msgs.proofs.ReaderReading.{Taken}
use Rattle.mdb_msgs.proofs.reply.reader.read_messages.Given as goal

abbrev pub invariant-loop-first : goal.invariant-loop-first
invariant-loop-first l = (list : ReaderMessages) × Taken l.reading l.bytes list l.rest
    × (l.is_long ≡ list_any has_long list.messages)
    × (l.ids ≡ own_ids list.messages)

abbrev pub decreases-loop-first : goal.decreases-loop-first
decreases-loop-first l = length l.rest
