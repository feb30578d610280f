-- A reply is read openly only where all readings say the same, and else it is left out.
use Rattle.mdb_bus.proofs.FormatLaws.{agree, leave_out}
use Rattle.mdb_bus.proofs.Promises.{one_reply}
use Rattle.mdb_bus.proofs.laws.open_replies_are_read_as_at_any_levels.Goals as goal

pub returns : goal.returns
returns c = record {
  agrees = λ format command one other extended is also answers too same.
      agree c.reply_has_no_fault.ensures command (one_reply c.block_has_one_reply.ensures) one other
      answers too same format extended is also;
  left_out = λ format command. leave_out c.reply_has_no_fault.ensures command format;
}
