-- Leaving out further devices: what becomes of an act list when a recording is read without them
-- (this profile). Lists of pieces and of acts are written newest first, lists of events oldest
-- first.
use Rattle.std.specs.Prelude.{◌≡◌, ◌-◌, Bool, true, false, ◌&&◌, nat_le, if◌then◌else◌}
use Rattle.std.specs.Prelude.{List, [], ◌∷◌, Option, Some, None, slice_index}
use Rattle.std.specs.List.{filter}
use Rattle.mdb_words.specs.declared.event.Event.{Event}
use Rattle.mdb_words.specs.declared.event.Event.TheVariants.{Word}
use Rattle.mdb_words.specs.declared.word.Line.TheVariants.{Controller}
use Rattle.mdb_msgs.specs.declared.command.Device.{Device}
use Rattle.mdb_msgs.specs.Commands.{device_of}
use Rattle.mdb_msgs.specs.Devices.{same_device}
use Rattle.mdb_msgs.specs.DeviceSets.{has}
use Rattle.mdb_msgs.specs.Needs.{is_to_one_of}
use Rattle.mdb_bus.specs.declared.act.Act.{Act}
use Rattle.mdb_bus.specs.declared.act.Act.TheVariants as acts
use Rattle.mdb_bus.specs.declared.scope.Scope.{Scope}
use Rattle.mdb_bus.specs.ActLists.{Piece, Whole, AskTail, ReplyTail, RepeatTail, Position, InForeign, first_position, left_by, piece_events}

-- the device that an act names, by its command
abbrev pub device_in : Act → Option Device
device_in (acts.Ask command) = Some (device_of command)
device_in (acts.Ack command) = Some (device_of command)
device_in (acts.Nak command) = Some (device_of command)
device_in (acts.Reply command reply) = Some (device_of command)
device_in (acts.VmcAck command reply) = Some (device_of command)
device_in (acts.VmcNak command reply) = Some (device_of command)
device_in (acts.VmcRet command reply) = Some (device_of command)
device_in (acts.Repeat command reply) = Some (device_of command)
device_in acts.Foreign = None
device_in (acts.Break length) = None

-- whether a device is left out, if there is one
abbrev pub is_one_left_out : Scope → Option Device → Bool
is_one_left_out scope None = false
is_one_left_out scope (Some device) = has scope.without device

-- whether events begin by the marked word of a block to a device that is left out: a marked word is
-- 256 and its byte
abbrev pub begin_left_out : Scope → List Event → Bool
begin_left_out scope (Word at Controller word ∷ events) =
    nat_le 256 word && is_to_one_of scope.without (word - 256)
begin_left_out scope _ = false

-- whether a piece is of a device that is left out: said to it, or by it
abbrev pub is_left_out : Scope → Piece → Bool
is_left_out scope (Whole acts.Foreign events) = begin_left_out scope events
is_left_out scope (Whole act events) = is_one_left_out scope (device_in act)
is_left_out scope (AskTail bytes events) = is_to_one_of scope.without (slice_index bytes 0)
is_left_out scope (ReplyTail command bytes events) = has scope.without (device_of command)
is_left_out scope (RepeatTail command reply words events) = has scope.without (device_of command)

-- pieces and then these events, each a foreign act by itself
abbrev pub with_foreign : List Event → List Piece → List Piece
with_foreign [] pieces = pieces
with_foreign (event ∷ events) pieces =
    with_foreign events (Whole acts.Foreign (event ∷ []) ∷ pieces)

-- Pieces without the devices that are left out: each row of what is said to one of them, or by one,
-- is a foreign act, and all else stands as it is.
abbrev pub leave_out : Scope → List Piece → List Piece
leave_out scope [] = []
leave_out scope (piece ∷ pieces) =
    if is_left_out scope piece then with_foreign (piece_events piece) (leave_out scope pieces)
    else piece ∷ leave_out scope pieces

-- where the bus is after these: in foreign traffic, where the newest piece is of such a device
abbrev pub position_without : Scope → List Piece → Position
position_without scope [] = first_position scope.begins
position_without scope (piece ∷ pieces) =
    if is_left_out scope piece then InForeign else left_by piece

-- whether a device is this one, if there is one
abbrev pub is_this : Device → Option Device → Bool
is_this device None = false
is_this device (Some other) = same_device device other

-- whether an act is a break
abbrev pub is_break : Act → Bool
is_break (acts.Break length) = true
is_break _ = false

-- whether a device has a part in an act: the act names it, or is a break, which is of all devices
abbrev pub has_part : Device → Act → Bool
has_part device (acts.Break length) = true
has_part device act = is_this device (device_in act)

-- the acts in which a device has a part
abbrev pub acts_with : Device → List Act → List Act
acts_with device = filter (has_part device)

-- the breaks among acts
abbrev pub breaks_among : List Act → List Act
breaks_among = filter is_break

abbrev pub IsLeftOut : Scope → Device → Type 0
IsLeftOut scope device = has scope.without device ≡ true

-- A recording is read twice, and once without further devices: it begins alike, the same levels
-- were told before it, and each device that the one scope leaves out the other leaves
-- out too.
pub record LeavesOutMore (less more : Scope) : Type 0 where
  pub begins : less.begins ≡ more.begins
  pub levels : less.levels ≡ more.levels
  pub left_out : (device : Device) → IsLeftOut less device → IsLeftOut more device
