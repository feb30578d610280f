-- Where no room is left for a message, the list has too many bytes for a block.
use Rattle.mdb_msgs.proofs.Words.{◌+◌, ◌<◌, arith, get_or, length, length-append, ap, JustReset, head_bytes, text_of, reader_msg_bytes, foot_bytes}
use Rattle.mdb_msgs.proofs.ReaderWriting.{no_room}
use Rattle.mdb_msgs.proofs.reply.reader.bytes_of.Goals as goal

pub returns-then-remaining_capacity-len-clause-fits :
    goal.returns-then-remaining_capacity-len-clause-fits
returns-then-remaining_capacity-len-clause-fits c =
    let id = c.args.id.now in
    let text = c.args.text.now in
    let message = get_or c.args.messages.now c.loop-message.message-index JustReset in
    let over : 35 < length c.loop-message.bytes.items + length (reader_msg_bytes id text message) =
    omega (
      arith,
      ap length c.head-head.ensures,
      ap length c.text_of-text.ensures,
      length-append c.text_of-text.result.now (foot_bytes message),
      ap length c.foot-foot.ensures,
      length-append (head_bytes message) (text_of id text message),
    ) in
    let long = no_room id text c.args.messages.now c.loop-message.message-index JustReset _
    c.loop-message-test.true c.loop-message.invariant.spelled over in
    (λ no. absurd (cc no), λ few. absurd (omega (arith, long, few)))
