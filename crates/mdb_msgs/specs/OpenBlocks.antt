-- What the first bytes of a block tell of its length, and which want more bytes.
use Rattle.std.specs.Prelude.{◌≡◌, ◌<◌, ℕ, length, List, slice_index, if◌then◌else◌}
use Rattle.mdb_msgs.specs.declared.device_set.DeviceSet.{DeviceSet}
use Rattle.mdb_msgs.specs.declared.need.Need.{Need}
use Rattle.mdb_msgs.specs.declared.need.Need.TheVariants.{More, Exactly, Foreign}
use Rattle.mdb_msgs.specs.Needs.{is_to_one_of, needed}

-- The same where devices are left out: whatever is said to one of them is foreign, by its first
-- byte.
abbrev pub needed_without : DeviceSet → List ℕ → Need
needed_without left_out prefix =
    if is_to_one_of left_out (slice_index prefix 0) then Foreign else needed prefix

-- the need of so many first bytes of a block tells its length, but one byte may leave that to the
-- second
abbrev pub IsTold : Need → ℕ → ℕ → Type 0
IsTold (Exactly n) count whole = n ≡ whole
IsTold More count whole = count ≡ 1
IsTold _ count whole = ⊥

-- the first bytes of a block tell its length
abbrev pub TellsLength : List ℕ → ℕ → Type 0
TellsLength prefix whole = IsTold (needed prefix) (length prefix) whole

-- a block needs more than so many first bytes of it: more bytes, or, after its first, its
-- subcommand
abbrev pub IsShort : Need → ℕ → Type 0
IsShort (Exactly n) count = count < n
IsShort More count = count ≡ 1
IsShort _ count = ⊥

-- bytes that want more for a command
abbrev pub IsOpen : List ℕ → Type 0
IsOpen bytes = IsShort (needed bytes) (length bytes)
