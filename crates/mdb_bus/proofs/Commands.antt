-- The bytes of commands.
use Rattle.mdb_bus.proofs.Words.{[], arith, Command, command_bytes, Device, length, More, need_for, needed_in, None, Option, profile_of, refl, Scope, Some, sym, ℕ, ◌<◌, ◌∙◌, ◌∷◌, ◌≡◌, ◌≤◌}
use Rattle.mdb_msgs.specs.Needs.{device_at}
use Rattle.mdb_msgs.specs.declared.command.Command.TheVariants.{Changer, Bill, Reader}
use Rattle.mdb_msgs.proofs.Addresses.{low}
use Rattle.mdb_msgs.specs.declared.command.ChangerCommand.TheVariants as changer
use Rattle.mdb_msgs.specs.declared.command.BillCommand.TheVariants as bill
use Rattle.mdb_msgs.specs.declared.command.ReaderCommand.TheVariants as reader
use Rattle.mdb_bus.proofs.Masked.{one_need}
use Rattle.mdb_bus.proofs.Followed.{within}

-- a command has bytes
pub command_some : (command : Command) → 1 ≤ length (command_bytes command)
command_some (Changer changer.Reset) = omega arith
command_some (Bill bill.Reset) = omega arith
command_some (Reader unit reader.Reset) = omega arith
command_some command = omega arith

-- a first byte that leaves its length to the second is a byte
by_device : (first : ℕ) (device : Option Device) → device_at first ≡ device
    → need_for device first None ≡ More → first < 256
by_device first (Some device) at more = low first device at
by_device first None at more = cc more

pub more_low : (scope : Scope) (first : ℕ) → needed_in scope (first ∷ []) ≡ More → first < 256
more_low scope first more =
    by_device first (device_at first) refl (sym (one_need (profile_of scope.begins) first)
    ∙ (within scope (first ∷ []) More more (λ same. cc same)).1)
