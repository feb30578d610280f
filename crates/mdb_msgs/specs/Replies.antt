-- Replies: what they spell, and which of them may answer a command.
use Rattle.std.specs.Prelude.{◌≡◌, ◌≢◌, ℕ, ◌⊎◌, Bool, true, false, List, [], length, Some, None, slice_index}
use Rattle.std.specs.List.{flat_map, list_any, AllByRecursion}
use Rattle.mdb_msgs.specs.declared.answer.DataForm.{DataForm}
use Rattle.mdb_msgs.specs.declared.answer.DataForm.TheVariants as form
use Rattle.mdb_msgs.specs.declared.command.Command.{Command}
use Rattle.mdb_msgs.specs.declared.fault.MsgFault.{MsgFault}
use Rattle.mdb_msgs.specs.declared.fault.MsgFault.TheVariants as faults
use Rattle.mdb_msgs.specs.declared.reading.Reading.{Reading}
use Rattle.mdb_msgs.specs.declared.reply.Reply.{Reply}
use Rattle.mdb_msgs.specs.declared.reply.Reply.TheVariants as reply
use Rattle.mdb_msgs.specs.Answers.{form_of, IsDataLength, may_tell_of_sales}
use Rattle.mdb_msgs.specs.Bill.{bill_msg_bytes, IsBillMsg, NoBillMsg}
use Rattle.mdb_msgs.specs.Changer.{changer_msg_bytes, IsChangerMsg, NoChangerMsg}
use Rattle.mdb_msgs.specs.Lists.{StopsAt}
use Rattle.mdb_msgs.specs.Reader.{is_kept, reader_list_bytes, AreReaderMsgs, IsReaderList, ReaderStopsAt}
use Rattle.mdb_msgs.specs.Readings.{is_extended}
use Rattle.mdb_msgs.specs.Setup.{changer_setup_bytes, tube_status_bytes, bill_setup_bytes, stacker_bytes, IsStacker}

-- the form of a reply
abbrev pub form_of_reply : Reply → DataForm
form_of_reply (reply.ChangerSetup setup) = form.ChangerSetup
form_of_reply (reply.TubeStatus status) = form.TubeStatus
form_of_reply (reply.ChangerPoll list) = form.ChangerPoll
form_of_reply (reply.ChangerIdentification id) = form.ChangerIdentification
form_of_reply (reply.BillSetup setup) = form.BillSetup
form_of_reply (reply.BillPoll list) = form.BillPoll
form_of_reply (reply.Stacker stacker) = form.Stacker
form_of_reply (reply.BillIdentification id) = form.BillIdentification
form_of_reply (reply.BillIdentificationWithOptions id) = form.BillIdentificationWithOptions
form_of_reply (reply.Reader list) = form.Reader

-- the data bytes of a reply: its fields in order, or its messages put end to end
abbrev pub reply_bytes : Reply → List ℕ
reply_bytes (reply.ChangerSetup setup) = changer_setup_bytes setup
reply_bytes (reply.TubeStatus status) = tube_status_bytes status
reply_bytes (reply.ChangerPoll list) = flat_map changer_msg_bytes list.items
reply_bytes (reply.ChangerIdentification id) = id
reply_bytes (reply.BillSetup setup) = bill_setup_bytes setup
reply_bytes (reply.BillPoll list) = flat_map bill_msg_bytes list.items
reply_bytes (reply.Stacker stacker) = stacker_bytes stacker
reply_bytes (reply.BillIdentification id) = id
reply_bytes (reply.BillIdentificationWithOptions id) = id
reply_bytes (reply.Reader list) = reader_list_bytes list

-- its fields are in their ranges, a display request is last, and some reading has its messages: of
-- the validator's, each of the extended profile has all
abbrev pub HasFields : Reply → Type 0
HasFields (reply.ChangerPoll list) = AllByRecursion IsChangerMsg list.items
HasFields (reply.BillPoll list) = AllByRecursion (IsBillMsg true) list.items
HasFields (reply.Stacker stacker) = IsStacker stacker
HasFields (reply.Reader list) = IsReaderList list
HasFields _ = Unit {0}

-- whether it tells of sessions and sales
abbrev pub tells_of_sales : Reply → Bool
tells_of_sales (reply.Reader list) = list_any is_kept list.messages
tells_of_sales _ = false

-- its messages are those of a reading
abbrev pub HasMessages : Reading → Reply → Type 0
HasMessages reading (reply.Reader list) = AreReaderMsgs reading list []
HasMessages reading (reply.BillPoll list) =
    AllByRecursion (IsBillMsg (is_extended reading)) list.items
HasMessages reading _ = Unit {0}

-- the base profile allows a reply that tells of sessions and sales to some commands alone
abbrev pub MayTell : Bool → Command → Reply → Type 0
MayTell extended command reply =
    extended ≡ false → may_tell_of_sales command ≡ false → tells_of_sales reply ≡ false

-- it is one of a reading, as the answer to a command
abbrev pub IsIn : Reading → Command → Reply → Type 0
IsIn reading command reply =
    HasMessages reading reply × MayTell (is_extended reading) command reply

-- a reply that may answer the command: one of the form that it asks for, of an allowed number of
-- bytes
pub record IsReplyTo (command : Command) (reply : Reply) : Type 0 where
  pub form : form_of command ≡ Some (form_of_reply reply)
  pub count : IsDataLength (form_of_reply reply) (length (reply_bytes reply))
  pub fields : HasFields reply

-- why bytes of an allowed number are no reply of this form: the leftmost message that can't be
-- taken, or a byte for the escrow that is neither FF nor 00
abbrev pub NoReply : Reading → DataForm → List ℕ → MsgFault → Type 0
NoReply reading form.ChangerPoll bytes fault =
    StopsAt changer_msg_bytes IsChangerMsg NoChangerMsg bytes fault
NoReply reading form.BillPoll bytes fault =
    StopsAt bill_msg_bytes (IsBillMsg (is_extended reading)) (NoBillMsg (is_extended reading)) bytes
    fault
NoReply reading form.Reader bytes fault = ReaderStopsAt reading bytes fault
NoReply reading form.BillSetup bytes fault =
    (fault ≡ faults.Message) × (slice_index bytes 10 ≢ 0) × (slice_index bytes 10 ≢ 255)
NoReply reading _ bytes fault = ⊥

-- no reply of the command's form has these bytes, though their number is allowed
abbrev pub IsNoReplyTo : Reading → Command → List ℕ → MsgFault → Type 0
IsNoReplyTo reading command bytes fault =
    (form : DataForm) × (form_of command ≡ Some form) × IsDataLength form (length bytes)
    × NoReply reading form bytes fault

-- they are a reply of the command's form, which tells of sessions and sales though the command may
-- not have that by the base profile
abbrev pub IsKeptFault : Reading → Command → List ℕ → Type 0
IsKeptFault reading command bytes =
    (reply : Reply) × IsReplyTo command reply × HasMessages reading reply
    × (bytes ≡ reply_bytes reply) × (is_extended reading ≡ false)
    × (tells_of_sales reply ≡ true) × (may_tell_of_sales command ≡ false)

-- why data bytes are no reply to a command, in the order in which the checks are made
abbrev pub IsReadFault : Reading → Command → List ℕ → MsgFault → Type 0
IsReadFault reading command bytes faults.Length =
    (form : DataForm) × (form_of command ≡ Some form) × (IsDataLength form (length bytes) → ⊥)
IsReadFault reading command bytes faults.Message = IsNoReplyTo reading command bytes faults.Message
IsReadFault reading command bytes faults.Profile = IsNoReplyTo reading command bytes faults.Profile
IsReadFault reading command bytes faults.Answer =
    (form_of command ≡ None) ⊎ IsKeptFault reading command bytes
