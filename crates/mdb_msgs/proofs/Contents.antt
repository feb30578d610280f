-- Bytes that are as long as they need to be are those of a command.
use Rattle.mdb_msgs.proofs.Words.{◌≡◌, ◌*◌, length, AllByRecursion, common_steps, All-from_recursion, recursion_from_All, block_of, Command, ChangerCommand, BillCommand, Device, Exactly, IsByte, Spells, reader_address, bill_need, changer_need, device_at, need_for, needed, reader_need, ◌+◌, ◌%◌, ℕ, List, [], ◌∷◌, arith, refl, ap, ◌∙◌, All, slice_index, slice_get, drop, if◌then◌else◌, ◌==◌, Option, Some, None, ReaderCommand, HasBillFields, HasChangerFields, HasReaderFields, bill_bytes, changer_bytes, reader_bytes}
use Rattle.mdb_msgs.specs.declared.command.Command.TheVariants.{Changer, Bill, Reader}
use Rattle.mdb_msgs.proofs.Addresses.{of_reader}

-- the two-byte number at an index
abbrev pub number_at : List ℕ → ℕ → ℕ
number_at bytes i = 256 * slice_index bytes i + slice_index bytes (i + 1)

abbrev pub changer_at : List ℕ → ChangerCommand
changer_at content =
    if slice_index content 0 == 0x08 then ChangerCommand.Reset
    else if slice_index content 0 == 0x09 then ChangerCommand.Setup
    else if slice_index content 0 == 0x0A then ChangerCommand.TubeStatus
    else if slice_index content 0 == 0x0B then ChangerCommand.Poll
    else if slice_index content 0 == 0x0C then ChangerCommand.CoinType (number_at content 1)
    (number_at content 3)
    else if slice_index content 0 == 0x0D then ChangerCommand.Dispense (slice_index content 1)
    else if slice_index content 1 == 0x00 then ChangerCommand.Identification
    else ChangerCommand.Features (drop 2 content)

changer_spelled : (content : List ℕ) → AllByRecursion IsByte content
    → changer_need (slice_index content 0) (slice_get content 1) ≡ Exactly (length content + 1)
    → HasChangerFields (changer_at content) × (content ≡ changer_bytes (changer_at content))
changer_spelled (a ∷ b ∷ c ∷ d ∷ e ∷ f ∷ []) low told =
    grind (arith, common_steps, All-from_recursion IsByte (c ∷ d ∷ e ∷ f ∷ []) low.1.1)
changer_spelled content low told = grind (arith, common_steps)

abbrev pub bill_at : List ℕ → BillCommand
bill_at content =
    if slice_index content 0 == 0x30 then BillCommand.Reset
    else if slice_index content 0 == 0x31 then BillCommand.Setup
    else if slice_index content 0 == 0x32 then BillCommand.Security (drop 1 content)
    else if slice_index content 0 == 0x33 then BillCommand.Poll
    else if slice_index content 0 == 0x34 then BillCommand.BillType (number_at content 1)
    (number_at content 3)
    else if slice_index content 0 == 0x35 then BillCommand.Escrow (slice_index content 1)
    else if slice_index content 0 == 0x36 then BillCommand.Stacker
    else if slice_index content 1 == 0x00 then BillCommand.Identification
    else if slice_index content 1 == 0x01 then BillCommand.Features (drop 2 content)
    else BillCommand.IdentificationWithOptions

bill_spelled : (content : List ℕ) → AllByRecursion IsByte content
    → bill_need (slice_index content 0) (slice_get content 1) ≡ Exactly (length content + 1)
    → HasBillFields (bill_at content) × (content ≡ bill_bytes (bill_at content))
bill_spelled (a ∷ b ∷ c ∷ []) low told =
    grind (arith, common_steps, All-from_recursion IsByte (b ∷ c ∷ []) low.1)
bill_spelled (a ∷ b ∷ c ∷ d ∷ e ∷ f ∷ []) low told =
    grind (arith, common_steps, All-from_recursion IsByte (c ∷ d ∷ e ∷ f ∷ []) low.1.1)
bill_spelled content low told = grind (arith, common_steps)

-- by the lower three bits of the first byte, and the bytes after it
abbrev pub reader_at : ℕ → List ℕ → ReaderCommand
reader_at command fields =
    if command == 0 then ReaderCommand.Reset
    else if command == 1 then (if slice_index fields 0 == 0x00 then ReaderCommand.SetupConfig
    (slice_index fields 1) (slice_index fields 2) (slice_index fields 3) (slice_index fields 4)
    else ReaderCommand.SetupPrices (number_at fields 1) (number_at fields 3))
    else if command == 2 then ReaderCommand.Poll
    else if command == 3 then
    (if slice_index fields 0 == 0x00 then ReaderCommand.VendRequest (number_at fields 1)
    (number_at fields 3)
    else if slice_index fields 0 == 0x01 then ReaderCommand.VendCancel
    else if slice_index fields 0 == 0x02 then ReaderCommand.VendSuccess (number_at fields 1)
    else if slice_index fields 0 == 0x03 then ReaderCommand.VendFailure
    else if slice_index fields 0 == 0x04 then ReaderCommand.SessionComplete
    else ReaderCommand.CashSale (number_at fields 1) (number_at fields 3))
    else if command == 4 then
    (if slice_index fields 0 == 0x00 then ReaderCommand.Disable
    else if slice_index fields 0 == 0x01 then ReaderCommand.Enable
    else ReaderCommand.Cancel)
    else if slice_index fields 0 == 0x00 then ReaderCommand.RequestId (drop 1 fields)
    else ReaderCommand.EnableOptions (drop 1 fields)

reader_spelled : (address command : ℕ) (fields : List ℕ) → AllByRecursion IsByte fields
    → reader_need command (slice_get fields 0) ≡ Exactly (length fields + 2)
    → HasReaderFields (reader_at command fields)
    × ((address + command) ∷ fields ≡ reader_bytes address (reader_at command fields))
reader_spelled address command (a ∷ b ∷ c ∷ d ∷ e ∷ []) low told =
    grind (arith, common_steps, All-from_recursion IsByte (b ∷ c ∷ d ∷ e ∷ []) low.1)
reader_spelled address command (a ∷ b ∷ c ∷ d ∷ e ∷ f ∷ rest) low told =
    grind (arith, common_steps, All-from_recursion IsByte (b ∷ c ∷ d ∷ e ∷ f ∷ rest) low.1)
reader_spelled address command fields low told = grind (arith, common_steps)

module _ (first : ℕ) (rest : List ℕ) (low : AllByRecursion IsByte (first ∷ rest)) where
  -- for which device they are
  by_device : (device : Option Device) → device_at first ≡ device
      → need_for device first (slice_get (first ∷ rest) 1) ≡ Exactly (length (first ∷ rest) + 1)
      → (command : Command) × Spells command (block_of (first ∷ rest))
  by_device (Some Device.Changer) at told =
      let it = changer_spelled (first ∷ rest) low told in
      (Changer (changer_at (first ∷ rest)), record { fields = it.0; bytes = ap block_of it.1 })
  by_device (Some Device.Bill) at told =
      let found = bill_spelled (first ∷ rest) low told in
      (Bill (bill_at (first ∷ rest)), record { fields = found.0; bytes = ap block_of found.1 })
  by_device (Some (Device.Reader unit)) at told =
      let found = reader_spelled (reader_address unit) (first % 8) rest low.1
      (told ∙ ap Exactly (omega arith)) in (
        Reader unit (reader_at (first % 8) rest),
        record {
          fields = found.0;
          bytes = ap (λ byte. block_of (byte ∷ rest)) (of_reader first unit at)
              ∙ ap block_of found.1;
        },
      )
  by_device None at told = cc

pub spelled : (content : List ℕ) → All IsByte content
    → needed content ≡ Exactly (length content + 1)
    → (command : Command) × Spells command (block_of content)
spelled [] bytes told = cc
spelled (first ∷ rest) bytes told =
    by_device first rest (recursion_from_All IsByte (first ∷ rest) bytes) (device_at first) refl
    told
