-- The validator's messages as it keeps them (MDB/ICP 4.3, bill validator; what is kept, this
-- profile).
use Rattle.std.specs.Prelude.{List, [], map}
use Rattle.mdb_msgs.specs.declared.reply.Reply.{Reply}
use Rattle.mdb_msgs.specs.declared.reply.Reply.TheVariants as replies
use Rattle.mdb_msgs.specs.declared.reply.bill.BillMsg.{BillMsg}
use Rattle.mdb_msgs.specs.declared.reply.bill.BillMsg.TheVariants as messages
use Rattle.mdb_cash.specs.declared.bill.activity.BillActivity.{BillActivity}
use Rattle.mdb_cash.specs.declared.bill.activity.BillActivity.TheVariants.{Stacked, Escrow, Returned, Recycled}
use Rattle.mdb_machine.specs.declared.kept.Part.{Part}
use Rattle.mdb_machine.specs.declared.kept.Part.TheVariants as part

-- bills that were stacked, are in escrow, were returned, or went to the recycler are kept
abbrev pub part_of : BillMsg → Part BillActivity
part_of (messages.Stacked bill) = part.Kept (Stacked bill)
part_of (messages.Escrow bill) = part.Kept (Escrow bill)
part_of (messages.Returned bill) = part.Kept (Returned bill)
part_of (messages.Recycled bill) = part.Kept (Recycled bill)
part_of messages.Reset = part.Reset
part_of _ = part.Other

-- the messages of a reply of the validator
abbrev pub parts_of : Reply → List (Part BillActivity)
parts_of (replies.BillPoll list) = map part_of list.items
parts_of _ = []
