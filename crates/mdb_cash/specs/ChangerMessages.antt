-- The changer's messages as it keeps them (MDB/ICP 4.3, coin changer; what is kept, this profile).
use Rattle.std.specs.Prelude.{List, [], map}
use Rattle.mdb_msgs.specs.declared.reply.Reply.{Reply}
use Rattle.mdb_msgs.specs.declared.reply.Reply.TheVariants as replies
use Rattle.mdb_msgs.specs.declared.reply.changer.ChangerMsg.{ChangerMsg}
use Rattle.mdb_msgs.specs.declared.reply.changer.ChangerMsg.TheVariants as messages
use Rattle.mdb_cash.specs.declared.changer.activity.ChangerActivity.{ChangerActivity}
use Rattle.mdb_cash.specs.declared.changer.activity.ChangerActivity.TheVariants.{Dispensed, CashBox, Tube}
use Rattle.mdb_machine.specs.declared.kept.Part.{Part}
use Rattle.mdb_machine.specs.declared.kept.Part.TheVariants as part

-- Deposits and coins dispensed by hand are kept. What such a message says is its first byte: the
-- second one counts the coins that are then in the tube.
abbrev pub part_of : ChangerMsg → Part ChangerActivity
part_of (messages.ManualDispense count coin in_tube) = part.Kept (Dispensed count coin)
part_of (messages.CashBox coin in_tube) = part.Kept (CashBox coin)
part_of (messages.Tube coin in_tube) = part.Kept (Tube coin)
part_of messages.Reset = part.Reset
part_of _ = part.Other

-- the messages of a reply of the changer
abbrev pub parts_of : Reply → List (Part ChangerActivity)
parts_of (replies.ChangerPoll list) = map part_of list.items
parts_of _ = []
