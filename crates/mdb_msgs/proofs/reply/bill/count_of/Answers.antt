-- Each message of the validator has one byte.
use Rattle.mdb_msgs.proofs.Words.{◌≡◌, length, flat_map, BillMsg, bill_msg_bytes, List, [], ◌∷◌, refl, arith, length-append}
use Rattle.mdb_msgs.specs.declared.reply.bill.BillMsg.TheVariants.{Reset}
use Rattle.mdb_msgs.proofs.reply.bill.count_of.Goals as goal

one_byte : (message : BillMsg) → length (bill_msg_bytes message) ≡ 1
one_byte Reset = refl
one_byte _ = refl

as_many : (messages : List BillMsg) → length messages ≡ length (flat_map bill_msg_bytes messages)
as_many [] = refl
as_many (message ∷ messages) =
    omega (
      arith,
      as_many messages,
      one_byte message,
      length-append (bill_msg_bytes message) (flat_map bill_msg_bytes messages),
    )

pub returns : goal.returns
returns c = as_many c.args.messages.now
