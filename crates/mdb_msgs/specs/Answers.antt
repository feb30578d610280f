-- What a command may be answered with, beside ACK: the form of the data and its number of bytes.
use Rattle.std.specs.Prelude.{◌≡◌, ℕ, ◌≤◌, Bool, true, false, Option, Some, None, IsSome}
use Rattle.mdb_msgs.specs.declared.answer.DataForm.{DataForm}
use Rattle.mdb_msgs.specs.declared.answer.DataForm.TheVariants as form
use Rattle.mdb_msgs.specs.declared.command.Command.{Command}
use Rattle.mdb_msgs.specs.declared.command.Command.TheVariants as command
use Rattle.mdb_msgs.specs.declared.command.ChangerCommand.{ChangerCommand}
use Rattle.mdb_msgs.specs.declared.command.ChangerCommand.TheVariants as changer
use Rattle.mdb_msgs.specs.declared.command.BillCommand.{BillCommand}
use Rattle.mdb_msgs.specs.declared.command.BillCommand.TheVariants as bill
use Rattle.mdb_msgs.specs.declared.command.ReaderCommand.{ReaderCommand}
use Rattle.mdb_msgs.specs.declared.command.ReaderCommand.TheVariants as reader

-- the data answers of the changer (MDB/ICP 4.3, coin changer)
abbrev pub changer_form_of : ChangerCommand → Option DataForm
changer_form_of changer.Setup = Some form.ChangerSetup
changer_form_of changer.TubeStatus = Some form.TubeStatus
changer_form_of changer.Poll = Some form.ChangerPoll
changer_form_of changer.Identification = Some form.ChangerIdentification
changer_form_of _ = None

-- those of the validator (MDB/ICP 4.3, bill validator)
abbrev pub bill_form_of : BillCommand → Option DataForm
bill_form_of bill.Setup = Some form.BillSetup
bill_form_of bill.Poll = Some form.BillPoll
bill_form_of bill.Stacker = Some form.Stacker
bill_form_of bill.Identification = Some form.BillIdentification
bill_form_of bill.IdentificationWithOptions = Some form.BillIdentificationWithOptions
bill_form_of _ = None

-- a reader may answer every command with a list of messages: RESET, DISABLE, ENABLE and ENABLE
-- OPTIONS by this profile, the others by MDB/ICP 4.3, cashless device
abbrev pub form_of : Command → Option DataForm
form_of (command.Changer c) = changer_form_of c
form_of (command.Bill c) = bill_form_of c
form_of (command.Reader unit c) = Some form.Reader

-- the least and the greatest number of data bytes, without the sum. The greatest ones of setup and
-- tube status have 16 credits or counts (MDB/ICP 4.3); that each may be left out from the last on,
-- down to none, and that a reader's list may have any number that a block can carry, is this
-- profile's
abbrev pub lengths_of : DataForm → ℕ × ℕ
lengths_of form.ChangerSetup = (7, 23)
lengths_of form.TubeStatus = (2, 18)
lengths_of form.ChangerPoll = (1, 16)
lengths_of form.ChangerIdentification = (33, 33)
lengths_of form.BillSetup = (11, 27)
lengths_of form.BillPoll = (1, 16)
lengths_of form.Stacker = (2, 2)
lengths_of form.BillIdentification = (29, 29)
lengths_of form.BillIdentificationWithOptions = (33, 33)
lengths_of form.Reader = (1, 35)

-- an answer of this form may have so many data bytes
abbrev pub IsDataLength : DataForm → ℕ → Type 0
IsDataLength form count = ((lengths_of form).0 ≤ count) × (count ≤ (lengths_of form).1)

-- some data block may answer the command
abbrev pub MayHaveData : Command → Type 0
MayHaveData command = IsSome (form_of command)

-- so many data bytes may answer the command
abbrev pub HasDataAnswer : Command → ℕ → Type 0
HasDataAnswer command count =
    (form : DataForm) × (form_of command ≡ Some form) × IsDataLength form count

-- whether answers to the command may tell of sessions and sales by the base profile: POLL, and the
-- five commands of a session, VEND REQUEST to SESSION COMPLETE, alone: 12 and 13 00 to 13 04 to the
-- first reader, 62 and 63 00 to 63 04 to the second (this profile)
abbrev pub reader_may_tell_of_sales : ReaderCommand → Bool
reader_may_tell_of_sales reader.Poll = true
reader_may_tell_of_sales (reader.VendRequest price item) = true
reader_may_tell_of_sales reader.VendCancel = true
reader_may_tell_of_sales (reader.VendSuccess item) = true
reader_may_tell_of_sales reader.VendFailure = true
reader_may_tell_of_sales reader.SessionComplete = true
reader_may_tell_of_sales _ = false

-- the same of any command: to changer and validator there are none
abbrev pub may_tell_of_sales : Command → Bool
may_tell_of_sales (command.Reader unit c) = reader_may_tell_of_sales c
may_tell_of_sales _ = false
