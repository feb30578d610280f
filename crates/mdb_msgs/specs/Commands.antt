-- The commands of the controller as bytes (MDB/ICP 4.3, coin changer, bill validator, cashless
-- device).
use Rattle.std.specs.Prelude.{◌≡◌, ℕ, ◌+◌, ◌<◌, ◌⊎◌, Bool, true, false, IsBitSet, List, [], ◌∷◌, ◌++◌, length, slice_index, All}
use Rattle.mdb_words.specs.Block.{block_of}
use Rattle.mdb_msgs.specs.declared.command.Device.{Device}
use Rattle.mdb_msgs.specs.declared.command.Device.TheVariants as device
use Rattle.mdb_msgs.specs.declared.command.Command.{Command}
use Rattle.mdb_msgs.specs.declared.command.Command.TheVariants.{Changer, Bill, Reader}
use Rattle.mdb_msgs.specs.declared.command.ChangerCommand.{ChangerCommand}
use Rattle.mdb_msgs.specs.declared.command.ChangerCommand.TheVariants as changer
use Rattle.mdb_msgs.specs.declared.command.BillCommand.{BillCommand}
use Rattle.mdb_msgs.specs.declared.command.BillCommand.TheVariants as bill
use Rattle.mdb_msgs.specs.declared.command.ReaderUnit.{ReaderUnit}
use Rattle.mdb_msgs.specs.declared.command.ReaderUnit.TheVariants.{First, Second}
use Rattle.mdb_msgs.specs.declared.command.ReaderCommand.{ReaderCommand}
use Rattle.mdb_msgs.specs.declared.command.ReaderCommand.TheVariants as reader
use Rattle.mdb_msgs.specs.TwoBytes.{two_bytes}

-- whose command it is
abbrev pub device_of : Command → Device
device_of (Changer command) = device.Changer
device_of (Bill command) = device.Bill
device_of (Reader unit command) = device.Reader unit

-- the POLL of a device
abbrev pub poll_of : Device → Command
poll_of device.Changer = Changer changer.Poll
poll_of device.Bill = Bill bill.Poll
poll_of (device.Reader unit) = Reader unit reader.Poll

-- to the coin changer, 08
abbrev pub changer_bytes : ChangerCommand → List ℕ
changer_bytes changer.Reset = 0x08 ∷ []
changer_bytes changer.Setup = 0x09 ∷ []
changer_bytes changer.TubeStatus = 0x0A ∷ []
changer_bytes changer.Poll = 0x0B ∷ []
changer_bytes (changer.CoinType enable manual) = 0x0C ∷ two_bytes enable ++ two_bytes manual
changer_bytes (changer.Dispense coins) = 0x0D ∷ coins ∷ []
changer_bytes changer.Identification = 0x0F ∷ 0x00 ∷ []
changer_bytes (changer.Features features) = 0x0F ∷ 0x01 ∷ features

-- to the bill validator, 30
abbrev pub bill_bytes : BillCommand → List ℕ
bill_bytes bill.Reset = 0x30 ∷ []
bill_bytes bill.Setup = 0x31 ∷ []
bill_bytes (bill.Security levels) = 0x32 ∷ levels
bill_bytes bill.Poll = 0x33 ∷ []
bill_bytes (bill.BillType enable escrow) = 0x34 ∷ two_bytes enable ++ two_bytes escrow
bill_bytes (bill.Escrow order) = 0x35 ∷ order ∷ []
bill_bytes bill.Stacker = 0x36 ∷ []
bill_bytes bill.Identification = 0x37 ∷ 0x00 ∷ []
bill_bytes (bill.Features features) = 0x37 ∷ 0x01 ∷ features
bill_bytes bill.IdentificationWithOptions = 0x37 ∷ 0x02 ∷ []

-- where a cashless reader is: cashless device #1 and cashless device #2
abbrev pub reader_address : ReaderUnit → ℕ
reader_address First = 0x10
reader_address Second = 0x60

-- to the cashless reader at an address
abbrev pub reader_bytes : ℕ → ReaderCommand → List ℕ
reader_bytes address reader.Reset = address ∷ []
reader_bytes address (reader.SetupConfig level columns rows display) =
    (address + 1) ∷ 0x00 ∷ level ∷ columns ∷ rows ∷ display ∷ []
reader_bytes address (reader.SetupPrices maximum minimum) =
    (address + 1) ∷ 0x01 ∷ two_bytes maximum ++ two_bytes minimum
reader_bytes address reader.Poll = (address + 2) ∷ []
reader_bytes address (reader.VendRequest price item) =
    (address + 3) ∷ 0x00 ∷ two_bytes price ++ two_bytes item
reader_bytes address reader.VendCancel = (address + 3) ∷ 0x01 ∷ []
reader_bytes address (reader.VendSuccess item) = (address + 3) ∷ 0x02 ∷ two_bytes item
reader_bytes address reader.VendFailure = (address + 3) ∷ 0x03 ∷ []
reader_bytes address reader.SessionComplete = (address + 3) ∷ 0x04 ∷ []
reader_bytes address (reader.CashSale price item) =
    (address + 3) ∷ 0x05 ∷ two_bytes price ++ two_bytes item
reader_bytes address reader.Disable = (address + 4) ∷ 0x00 ∷ []
reader_bytes address reader.Enable = (address + 4) ∷ 0x01 ∷ []
reader_bytes address reader.Cancel = (address + 4) ∷ 0x02 ∷ []
reader_bytes address (reader.RequestId identity) = (address + 7) ∷ 0x00 ∷ identity
reader_bytes address (reader.EnableOptions options) = (address + 7) ∷ 0x04 ∷ options

-- the bytes of a command, without their sum
abbrev pub command_bytes : Command → List ℕ
command_bytes (Changer command) = changer_bytes command
command_bytes (Bill command) = bill_bytes command
command_bytes (Reader unit command) = reader_bytes (reader_address unit) command

-- a field that is one byte
abbrev pub IsByte : ℕ → Type 0
IsByte byte = byte < 256

-- a field that is a two-byte number
abbrev pub IsNumber : ℕ → Type 0
IsNumber number = number < 65536

-- a field of so many bytes
abbrev pub AreBytes : ℕ → List ℕ → Type 0
AreBytes count bytes = (length bytes ≡ count) × All IsByte bytes

-- the fields of a command to the changer are in range
abbrev pub HasChangerFields : ChangerCommand → Type 0
HasChangerFields (changer.CoinType enable manual) = IsNumber enable × IsNumber manual
HasChangerFields (changer.Dispense coins) = IsByte coins
HasChangerFields (changer.Features features) = AreBytes 4 features
HasChangerFields _ = Unit {0}

-- the fields of a command to the validator are in range
abbrev pub HasBillFields : BillCommand → Type 0
HasBillFields (bill.Security levels) = AreBytes 2 levels
HasBillFields (bill.BillType enable escrow) = IsNumber enable × IsNumber escrow
HasBillFields (bill.Escrow order) = IsByte order
HasBillFields (bill.Features features) = AreBytes 4 features
HasBillFields _ = Unit {0}

-- the fields of a command to a reader are in range
abbrev pub HasReaderFields : ReaderCommand → Type 0
HasReaderFields (reader.SetupConfig level columns rows display) =
    IsByte level × IsByte columns × IsByte rows × IsByte display
HasReaderFields (reader.SetupPrices maximum minimum) = IsNumber maximum × IsNumber minimum
HasReaderFields (reader.VendRequest price item) = IsNumber price × IsNumber item
HasReaderFields (reader.VendSuccess item) = IsNumber item
HasReaderFields (reader.CashSale price item) = IsNumber price × IsNumber item
HasReaderFields (reader.RequestId identity) = AreBytes 29 identity
HasReaderFields (reader.EnableOptions options) = AreBytes 4 options
HasReaderFields _ = Unit {0}

-- the fields of a command are in range
abbrev pub HasFields : Command → Type 0
HasFields (Changer command) = HasChangerFields command
HasFields (Bill command) = HasBillFields command
HasFields (Reader unit command) = HasReaderFields command

-- a command and its block
pub record Spells (command : Command) (block : List ℕ) : Type 0 where
  pub fields : HasFields command
  pub bytes : block ≡ block_of (command_bytes command)

-- whether it is ENABLE OPTIONS
abbrev pub is_enable_options : Command → Bool
is_enable_options (Reader unit (reader.EnableOptions options)) = true
is_enable_options _ = false

-- options that ask for other money, by Y5: of 32 bits, or of several currencies
abbrev pub AskForOtherMoney : List ℕ → Type 0
AskForOtherMoney options = IsBitSet (slice_index options 3) 1 ⊎ IsBitSet (slice_index options 3) 2

-- a command that asks for what this profile doesn't follow: ENABLE OPTIONS with other money
abbrev pub EnablesMore : Command → Type 0
EnablesMore (Reader unit (reader.EnableOptions options)) = AskForOtherMoney options
EnablesMore _ = ⊥
