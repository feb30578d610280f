-- A byte that is no message of the profile stops the reading after the messages so far.
use Rattle.mdb_msgs.proofs.Words.{arith, suc, drop, err_from_is_err_and, NoBillMsg}
use Rattle.mdb_msgs.proofs.ListReading.{stops_at}
use Rattle.mdb_msgs.proofs.reply.bill.read_messages.Goals as goal

pub returns-in_err-read_message-clause-err : goal.returns-in_err-read_message-clause-err
returns-in_err-read_message-clause-err c =
    let p = err_from_is_err_and c.from_residual.result c.from_residual.ensures.1 in
    rw (p.1, p.2) (stops_at (NoBillMsg c.args.is_extended) _ c.loop-byte.byte-index (omega arith)
    c.loop-byte.invariant
    (c.in_err-read_message.ensures.err (drop (suc c.loop-byte.byte-index) c.args.bytes.now)))
