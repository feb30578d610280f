-- What the first bytes of a block tell of its length.
use Rattle.mdb_msgs.proofs.Words.{◌≡◌, length, common_steps, Command, Device, First, Second, Exactly, Spells, device_at, need_for, needed, IsTold, TellsLength, ◌<◌, ℕ, List, [], ◌∷◌, ◌++◌, Option, Some, None, arith, refl, BillCommand, ReaderCommand}
use Rattle.mdb_msgs.specs.declared.command.Command.TheVariants.{Changer, Bill, Reader}

-- the first two bytes of a command's block tell its length
pub whole : (block : List ℕ) (command : Command) → Spells command block
    → needed block ≡ Exactly (length block)
whole block (Changer command) spelled = grind (arith, common_steps)
whole block (Bill BillCommand.Reset) spelled = grind (arith, common_steps)
whole block (Reader First ReaderCommand.Reset) spelled = grind (arith, common_steps)
whole block (Reader Second ReaderCommand.Reset) spelled = grind (arith, common_steps)
whole block command spelled = grind (arith, common_steps)

-- what two bytes tell, the first tells or leaves to the second
first_byte : (device : Option Device) (first second n : ℕ)
    → need_for device first (Some second) ≡ Exactly n → IsTold (need_for device first None) 1 n
first_byte (Some Device.Changer) first second n told = grind (arith, common_steps)
first_byte device first second n told = grind (arith, common_steps)

-- no block has one byte
none_alone : (device : Option Device) (first : ℕ) → need_for device first None ≡ Exactly 1 → ⊥
none_alone (Some Device.Changer) first told = grind (arith, common_steps)
none_alone device first told = grind (arith, common_steps)

pub first_bytes : (prefix rest : List ℕ) (command : Command) → 0 < length prefix
    → Spells command (prefix ++ rest) → TellsLength prefix (length (prefix ++ rest))
first_bytes [] rest command some spelled = absurd (omega arith)
first_bytes (first ∷ []) [] command some spelled =
    absurd (none_alone (device_at first) first (whole (first ∷ []) command spelled))
first_bytes (first ∷ []) (second ∷ rest) command some spelled =
    first_byte (device_at first) first second (length (first ∷ second ∷ rest))
    (whole (first ∷ second ∷ rest) command spelled)
first_bytes (first ∷ second ∷ bytes) rest command some spelled =
    rw (whole (first ∷ second ∷ (bytes ++ rest)) command spelled) refl
