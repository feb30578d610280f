-- What the first bytes of a block of the controller tell (MDB/ICP 4.3, commands of the four
-- devices; what is outside and what is foreign, this profile).
use Rattle.std.specs.Prelude.{ℕ, ◌/◌, ◌%◌, ◌==◌, ◌||◌, ◌&&◌, Bool, false, List, Option, Some, None, slice_index, slice_get, if◌then◌else◌}
use Rattle.mdb_msgs.specs.declared.command.Device.{Device}
use Rattle.mdb_msgs.specs.declared.command.Device.TheVariants as device
use Rattle.mdb_msgs.specs.declared.command.ReaderUnit.TheVariants.{First, Second}
use Rattle.mdb_msgs.specs.declared.device_set.DeviceSet.{DeviceSet}
use Rattle.mdb_msgs.specs.declared.need.Need.{Need}
use Rattle.mdb_msgs.specs.declared.need.Need.TheVariants.{More, Exactly, Foreign, Outside}
use Rattle.mdb_msgs.specs.DeviceSets.{has}

-- what a subcommand tells, once it is there
abbrev pub by_subcommand : (ℕ → Need) → Option ℕ → Need
by_subcommand told None = More
by_subcommand told (Some second) = told second

-- EXPANSION to the coin changer
abbrev pub changer_expansion : ℕ → Need
changer_expansion second =
    if second == 0x00 then Exactly 3
    else if second == 0x01 then Exactly 7
    else if second == 0x02 then Outside
    else if second == 0x03 then Outside
    else if second == 0x04 then Outside
    else Foreign

-- blocks to the coin changer, by their first byte
abbrev pub changer_need : ℕ → Option ℕ → Need
changer_need first second =
    if first == 0x08 then Exactly 2
    else if first == 0x09 then Exactly 2
    else if first == 0x0A then Exactly 2
    else if first == 0x0B then Exactly 2
    else if first == 0x0C then Exactly 6
    else if first == 0x0D then Exactly 3
    else if first == 0x0E then Outside
    else if first == 0x0F then by_subcommand changer_expansion second
    else Foreign

-- EXPANSION to the bill validator
abbrev pub bill_expansion : ℕ → Need
bill_expansion second =
    if second == 0x00 then Exactly 3
    else if second == 0x01 then Exactly 7
    else if second == 0x02 then Exactly 3
    else Foreign

-- blocks to the bill validator, by their first byte
abbrev pub bill_need : ℕ → Option ℕ → Need
bill_need first second =
    if first == 0x30 then Exactly 2
    else if first == 0x31 then Exactly 2
    else if first == 0x32 then Exactly 4
    else if first == 0x33 then Exactly 2
    else if first == 0x34 then Exactly 6
    else if first == 0x35 then Exactly 3
    else if first == 0x36 then Exactly 2
    else if first == 0x37 then by_subcommand bill_expansion second
    else Foreign

-- SETUP to a cashless reader
abbrev pub setup_need : ℕ → Need
setup_need second =
    if second == 0x00 then Exactly 7
    else if second == 0x01 then Exactly 7
    else Outside

-- VEND to a cashless reader
abbrev pub vend_need : ℕ → Need
vend_need second =
    if second == 0x00 then Exactly 7
    else if second == 0x01 then Exactly 3
    else if second == 0x02 then Exactly 5
    else if second == 0x03 then Exactly 3
    else if second == 0x04 then Exactly 3
    else if second == 0x05 then Exactly 7
    else Outside

-- READER to a cashless reader
abbrev pub enable_need : ℕ → Need
enable_need second =
    if second == 0x00 then Exactly 3
    else if second == 0x01 then Exactly 3
    else if second == 0x02 then Exactly 3
    else Outside

-- EXPANSION to a cashless reader
abbrev pub reader_expansion : ℕ → Need
reader_expansion second =
    if second == 0x00 then Exactly 32
    else if second == 0x04 then Exactly 7
    else Foreign

-- blocks to a cashless reader, by the lower three bits of their first byte
abbrev pub reader_need : ℕ → Option ℕ → Need
reader_need command second =
    if command == 0 then Exactly 2
    else if command == 1 then by_subcommand setup_need second
    else if command == 2 then Exactly 2
    else if command == 3 then by_subcommand vend_need second
    else if command == 4 then by_subcommand enable_need second
    else if command == 5 then Outside
    else if command == 6 then Outside
    else if command == 7 then by_subcommand reader_expansion second
    else Foreign

-- a first byte is for a device where its upper five bits are those of the device's address
abbrev pub is_for : ℕ → ℕ → Bool
is_for address first = first / 8 == address / 8

-- the device that a block is for, by its first byte
abbrev pub device_at : ℕ → Option Device
device_at first =
    if is_for 0x08 first then Some device.Changer
    else if is_for 0x10 first then Some (device.Reader First)
    else if is_for 0x30 first then Some device.Bill
    else if is_for 0x60 first then Some (device.Reader Second)
    else None

-- blocks for a device, by their first byte and their second, where there is one
abbrev pub need_for : Option Device → ℕ → Option ℕ → Need
need_for (Some device.Changer) first second = changer_need first second
need_for (Some device.Bill) first second = bill_need first second
need_for (Some (device.Reader unit)) first second = reader_need (first % 8) second
need_for None first second = Foreign

-- blocks of the controller, likewise
abbrev pub need : ℕ → Option ℕ → Need
need first second = need_for (device_at first) first second

-- what a block that begins with these bytes needs
abbrev pub needed : List ℕ → Need
needed prefix = need (slice_index prefix 0) (slice_get prefix 1)

-- whether a block that begins with this byte is to a device of a set
abbrev pub is_to_one_of : DeviceSet → ℕ → Bool
is_to_one_of set first =
    elim (device_at first) [ Some device ↦ has set device | None ↦ false ]

-- whether bytes begin as ENABLE OPTIONS does: by 17 04 or 67 04
abbrev pub begins_options : List ℕ → Bool
begins_options bytes =
    (slice_index bytes 0 == 0x17 || slice_index bytes 0 == 0x67)
    && elim (slice_get bytes 1) [ Some second ↦ second == 0x04 | None ↦ false ]
