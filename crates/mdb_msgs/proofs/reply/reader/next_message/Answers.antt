-- Where messages stand, the next one is read, or none where nothing is left.
use Rattle.mdb_msgs.proofs.OneReader.{next_found, never_none}
use Rattle.mdb_msgs.proofs.ReaderBytes.{nothing_read}
use Rattle.mdb_msgs.proofs.reply.reader.next_message.Goals as goal

pub returns-in_err-first-clause-none : goal.returns-in_err-first-clause-none
returns-in_err-first-clause-none c = λ _. nothing_read _ _ c.in_err-first.ensures.cases

pub returns-clause-some : goal.returns-clause-some
returns-clause-some c =
    rw c.ok.ensures.value (next_found _ c.requires c.in_ok-first.ensures.cases.0
    c.read_message.result c.read_message.ensures.bytes c.read_message.ensures.text)

pub returns-clause-none : goal.returns-clause-none
returns-clause-none c = λ none.
    absurd (never_none _ c.requires c.in_ok-first.ensures.cases.0 c.read_message.result
    c.read_message.ensures.err (rw (← c.ok.ensures.value) none))
