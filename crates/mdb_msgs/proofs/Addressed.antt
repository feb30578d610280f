-- The first byte of a command's block is to its device.
use Rattle.mdb_msgs.proofs.Words.{◌≡◌, block_of, Command, First, Second, Spells, command_bytes, device_of, is_to_one_of, ap, refl, ◌∙◌, ℕ, List, slice_index, BillCommand, ChangerCommand, ReaderCommand}
use Rattle.mdb_msgs.specs.declared.command.Command.TheVariants.{Changer, Bill, Reader}
use Rattle.mdb_msgs.specs.declared.device_set.DeviceSet.{DeviceSet}
use Rattle.mdb_msgs.specs.DeviceSets.{has}

its_own : (set : DeviceSet) (command : Command)
    → is_to_one_of set (slice_index (block_of (command_bytes command)) 0)
    ≡ has set (device_of command)
its_own set (Changer ChangerCommand.Reset) = refl
its_own set (Bill BillCommand.Reset) = refl
its_own set (Reader First ReaderCommand.Reset) = refl
its_own set (Reader Second ReaderCommand.Reset) = refl
its_own set command = refl

pub first_tells : (block : List ℕ) (command : Command) → Spells command block → (set : DeviceSet)
    → is_to_one_of set (slice_index block 0) ≡ has set (device_of command)
first_tells block command spells set =
    ap (λ (bytes : List ℕ). is_to_one_of set (slice_index bytes 0)) spells.bytes
    ∙ its_own set command
