-- A plain list is the same in each reading. Other bytes are read openly, or as the first of the two
-- levels that gives a reply.
use Rattle.mdb_bus.proofs.Words.{inl, inr, IsReadFault, subst}
use Rattle.mdb_bus.proofs.FormatLaws.{plain_open, told_in}
use Rattle.mdb_bus.proofs.Promises.{one_reply}
use Rattle.mdb_bus.proofs.format.told_reading.Goals as goal

pub returns-in-Ok : goal.returns-in-Ok
returns-in-Ok c =
    let first = c.args.first in
    let command = c.args.command.now in
    let bytes = c.args.bytes.now in
    let read = c.in-Ok.ensures in
    let plain = plain_open (one_reply c.block_has_one_reply.ensures) first command bytes
    c.in-Ok.reply (c.is_plain_list.ensures c.if-is_plain_list.true)
    (read.reading, read.found, read.spelled) in
    told_in first c.args.second first first command bytes c.in-Ok.reply
    (read.reading, read.found, read.spelled) (inl read.reading)
    (inl (c.in-Ok.reply, (read.reading, read.found, read.spelled), plain))

pub returns-in-Ok-2 : goal.returns-in-Ok-2
returns-in-Ok-2 c =
    let read = c.in-Ok-2.ensures in
    told_in c.args.first c.args.second c.args.first c.open_or.result c.args.command.now
    c.args.bytes.now c.in-Ok-2.field-0 (read.reading, read.found, read.spelled)
    (inl read.reading) c.open_or.ensures

pub returns-in-Ok-reply_of : goal.returns-in-Ok-reply_of
returns-in-Ok-reply_of c =
    let read = c.in-Ok-reply_of.ensures in
    let bad = subst (λ bs. IsReadFault c.args.first c.args.command.now bs c.in-Err.fault)
    read.spelled c.in-Err.ensures.fault in
    told_in c.args.first c.args.second c.args.second c.open_or-in-Ok-reply_of.result
    c.args.command.now c.args.bytes.now c.in-Ok-reply_of.field-0
    (read.reading, read.found, read.spelled) (inr ((c.in-Err.fault, bad), inl read.reading))
    c.open_or-in-Ok-reply_of.ensures
