-- The states of a cashless reader, and what commands and messages make of them (MDB/ICP 4.3,
-- cashless device, for Inactive, Disabled, Enabled, Idle and Vend; Approved, Ending and where a
-- reader returns to, this profile).
use Rattle.std.specs.Prelude.{Bool, true, false, List, [], ◌∷◌, Option, Some, None, if◌then◌else◌}
use Rattle.mdb_msgs.specs.declared.command.ReaderCommand.{ReaderCommand}
use Rattle.mdb_msgs.specs.declared.command.ReaderCommand.TheVariants as reader
use Rattle.mdb_cashless.specs.declared.reader.device.DeviceState.{DeviceState}
use Rattle.mdb_cashless.specs.declared.reader.device.DeviceState.TheVariants.{Inactive, Disabled, Enabled, Idle, Vend, Approved, Ending}
use Rattle.mdb_cashless.specs.declared.reader.device.Home.{Home}
use Rattle.mdb_cashless.specs.declared.reader.device.Home.TheVariants as home
use Rattle.mdb_cashless.specs.declared.reader.messages.ReaderActivity.{ReaderActivity}
use Rattle.mdb_cashless.specs.declared.reader.messages.ReaderActivity.TheVariants.{SessionBegun, SessionBegunLong, VendApproved, VendDenied, SessionEnded}
use Rattle.mdb_cashless.specs.declared.reader.transaction.Transaction.{Transaction}
use Rattle.mdb_cashless.specs.Transactions.{is_request}

-- What a command makes of the reader that takes it, where that has an effect. SETUP config makes it
-- Disabled without SETUP prices. In a session READER ENABLE and READER DISABLE change where the
-- reader returns to, which all others keep.
abbrev pub effect : ReaderCommand → DeviceState → DeviceState
effect reader.Reset before = Inactive
effect (reader.SetupConfig level columns rows display) Inactive = Disabled
effect reader.Enable Disabled = Enabled
effect reader.Enable (Idle back) = Idle home.Enabled
effect reader.Enable (Vend back) = Vend home.Enabled
effect reader.Enable (Approved back) = Approved home.Enabled
effect reader.Enable (Ending back) = Ending home.Enabled
effect reader.Disable Enabled = Disabled
effect reader.Disable (Idle back) = Idle home.Disabled
effect reader.Disable (Vend back) = Vend home.Disabled
effect reader.Disable (Approved back) = Approved home.Disabled
effect reader.Disable (Ending back) = Ending home.Disabled
effect (reader.VendRequest price item) (Idle back) = Vend back
effect (reader.VendRequest price item) (Vend back) = Vend back
effect (reader.VendRequest price item) (Approved back) = Vend back
effect reader.VendCancel (Idle back) = Vend back
effect reader.VendCancel (Vend back) = Vend back
effect reader.VendCancel (Approved back) = Vend back
effect (reader.VendSuccess item) (Approved back) = Idle back
effect reader.VendFailure (Approved back) = Idle back
effect reader.SessionComplete (Idle back) = Ending back
effect reader.SessionComplete (Vend back) = Ending back
effect reader.SessionComplete (Approved back) = Ending back
effect reader.SessionComplete (Ending back) = Ending back
effect command before = before

-- whether the reader has approved a sale that hasn't ended
abbrev pub has_approved : DeviceState → Bool
has_approved (Approved back) = true
has_approved before = false

-- the state in which a session leaves the reader
abbrev pub returned : Home → DeviceState
returned home.Disabled = Disabled
returned home.Enabled = Enabled

-- What a new kept message needs of the reader, and what it makes of it, where this was the last
-- transaction taken: 03 needs Enabled; 05 needs Vend, and that the last transaction is a VEND
-- REQUEST; 06 needs Vend; 07 needs Ending. Elsewhere the message is impossible.
abbrev pub told : Option Transaction → ReaderActivity → DeviceState → Option DeviceState
told last (SessionBegun funds) Enabled = Some (Idle home.Enabled)
told last (SessionBegunLong funds media kind details) Enabled = Some (Idle home.Enabled)
told last (VendApproved amount) (Vend back) =
    if is_request last then Some (Approved back) else None
told last VendDenied (Vend back) = Some (Idle back)
told last SessionEnded (Ending back) = Some (returned back)
told last message before = None

-- what may come of what came of something, if anything
abbrev pub then_by : {X Y : Type 0} → Option X → (X → Option Y) → Option Y
then_by None next = None
then_by (Some x) next = next x

-- what new kept messages make of the reader, one after another
abbrev pub all_told : Option Transaction → List ReaderActivity → DeviceState → Option DeviceState
all_told last [] before = Some before
all_told last (message ∷ news) before =
    then_by (told last message before) (all_told last news)
