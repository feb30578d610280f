-- That the bytes of a command's block are bytes.
use Rattle.mdb_msgs.proofs.Words.{◌≤◌, AllByRecursion, recursion_from_All, All-from_recursion, All-append, block_of, Command, ChangerCommand, BillCommand, First, Second, IsByte, Spells, command_bytes, arith, ◌%◌, ℕ, List, [], ◌∷◌, ◌++◌, sum, All, ReaderCommand, HasBillFields, HasChangerFields, HasReaderFields, bill_bytes, changer_bytes, reader_bytes}
use Rattle.mdb_msgs.specs.declared.command.Command.TheVariants.{Changer, Bill, Reader}
use Rattle.mdb_msgs.specs.Commands.{HasFields}

-- the bytes of a command are bytes
changer_low : (command : ChangerCommand) → HasChangerFields command
    → AllByRecursion IsByte (changer_bytes command)
changer_low ChangerCommand.Reset fields = (omega arith, tt)
changer_low command fields = search (arith, recursion_from_All)

bill_low : (command : BillCommand) → HasBillFields command
    → AllByRecursion IsByte (bill_bytes command)
bill_low BillCommand.Reset fields = (omega arith, tt)
bill_low command fields = search (arith, recursion_from_All)

reader_low : (address : ℕ) (command : ReaderCommand) → address ≤ 0x60 → HasReaderFields command
    → AllByRecursion IsByte (reader_bytes address command)
reader_low address ReaderCommand.Reset low fields = (omega arith, tt)
reader_low address command low fields = search (arith, recursion_from_All)

-- the bytes of a block are bytes
block_low : (content : List ℕ) → AllByRecursion IsByte content → All IsByte (block_of content)
block_low content low =
    let last : IsByte (sum content % 256) = omega arith in
    All-append IsByte content (sum content % 256 ∷ []) (All-from_recursion IsByte content low)
    (All-from_recursion IsByte (sum content % 256 ∷ []) (last, tt))

pub spelled_low : (command : Command) (block : List ℕ) → Spells command block → All IsByte block
spelled_low command block spells =
    rw spells.bytes (block_low (command_bytes command) (low command spells.fields))
  where
    low : (command : Command) → HasFields command → AllByRecursion IsByte (command_bytes command)
    low (Changer command) fields = changer_low command fields
    low (Bill command) fields = bill_low command fields
    low (Reader First command) fields = reader_low 0x10 command (omega arith) fields
    low (Reader Second command) fields = reader_low 0x60 command (omega arith) fields

-- what holds of each element holds of each in a front
front_low : (xs ys : List ℕ) → AllByRecursion IsByte (xs ++ ys) → AllByRecursion IsByte xs
front_low [] ys all = tt
front_low (x ∷ xs) ys all = (all.0, front_low xs ys all.1)

-- so are those of what begins such a block
pub begun_low : (command : Command) (bytes rest : List ℕ) → Spells command (bytes ++ rest)
    → AllByRecursion IsByte bytes
begun_low command bytes rest spells =
    front_low bytes rest
    (recursion_from_All IsByte (bytes ++ rest) (spelled_low command (bytes ++ rest) spells))

pub whole_low : (command : Command) (block : List ℕ) → Spells command block
    → AllByRecursion IsByte block
whole_low command block spells = recursion_from_All IsByte block (spelled_low command block spells)
