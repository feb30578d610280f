-- How the bytes of a reply are read by the extended profile (this profile): by the feature levels
-- that reader and controller have told each other.
use Rattle.std.specs.Prelude.{◌≡◌, ◌≢◌, ◌⊎◌, ℕ, nat_lt, ◌||◌, true, false, List, [], ◌∷◌, Option, Some, None, if◌then◌else◌}
use Rattle.mdb_msgs.specs.declared.command.Command.{Command}
use Rattle.mdb_msgs.specs.declared.fault.MsgFault.{MsgFault}
use Rattle.mdb_msgs.specs.declared.fault.MsgFault.TheVariants.{Profile as Left}
use Rattle.mdb_msgs.specs.declared.reading.Ids.{Ids}
use Rattle.mdb_msgs.specs.declared.reading.Ids.TheVariants.{ByNext, Full}
use Rattle.mdb_msgs.specs.declared.reading.Reading.{Reading}
use Rattle.mdb_msgs.specs.declared.reply.Reply.{Reply}
use Rattle.mdb_msgs.specs.Readings.{is_extended}
use Rattle.mdb_msgs.specs.Replies.{IsIn, IsReadFault, IsReplyTo, reply_bytes}
use Rattle.mdb_bus.specs.declared.format.Format.{Format}
use Rattle.mdb_bus.specs.declared.format.Format.TheVariants.{Or, Open}
use Rattle.mdb_bus.specs.declared.scope.Beginning.{Beginning}
use Rattle.mdb_bus.specs.declared.scope.Beginning.TheVariants.{PowerOn, Joined}
use Rattle.mdb_bus.specs.ExtendedCounts.{what_counts}

-- the readings of feature level 1 and of levels 2 and 3, with one way to read identifications
abbrev pub short : Ids → Reading
short ids = record { is_long = false; ids = ids }

abbrev pub long : Ids → Reading
long ids = record { is_long = true; ids = ids }

-- by the level that the controller told and the one that the reader told, where both are 2 or more:
-- long first. Where one is below 3, a full identification is known by its next byte
abbrev pub long_format : ℕ → ℕ → Format
long_format asked told =
    let ids = if nat_lt asked 3 || nat_lt told 3 then ByNext else Full in Or (long ids) (short ids)

-- short first, where the controller told a level below 2, and else this one
abbrev pub by_asked : ℕ → Format → Format
by_asked asked format = if nat_lt asked 2 then Or (short ByNext) (long ByNext) else format

-- short alone, where the reader told a level below 2, and else this one
abbrev pub by_told : ℕ → Format → Format
by_told told format = if nat_lt told 2 then Or (short ByNext) (short ByNext) else format

-- the format where neither level tells it
abbrev pub untold_format : Beginning → Format
untold_format (PowerOn profile) = Or (short Full) (long Full)
untold_format (Joined setups profile) = Open

-- by the level that the controller told and the one that the reader told, as far as they are known,
-- and where they don't tell it this one
abbrev pub format_at : Format → Option ℕ → Option ℕ → Format
format_at untold (Some asked) (Some told) = by_told told (by_asked asked (long_format asked told))
format_at untold (Some asked) None = by_asked asked untold
format_at untold None (Some told) = by_told told untold
format_at untold None None = untold

-- a reply is one of some reading of the extended profile
abbrev pub IsInSome : Command → Reply → Type 0
IsInSome command reply =
    (reading : Reading) × (is_extended reading ≡ true) × IsIn reading command reply

-- data bytes are a reply to a command in some such reading
abbrev pub AreSome : Command → List ℕ → Reply → Type 0
AreSome command bytes reply =
    IsInSome command reply × IsReplyTo command reply × (bytes ≡ reply_bytes reply)

-- the four readings of the extended profile, in their order
abbrev pub readings : List Reading
readings = long Full ∷ long ByNext ∷ short Full ∷ short ByNext ∷ []

-- a reply is that of the first of these readings in which its bytes have no fault
abbrev pub IsFirst : List Reading → Command → Reply → Type 0
IsFirst [] command reply = ⊥
IsFirst (reading ∷ readings) command reply =
    IsIn reading command reply
    ⊎ (((fault : MsgFault) × IsReadFault reading command (reply_bytes reply) fault)
    × IsFirst readings command reply)

-- all replies that data bytes are in the readings of the extended profile say the same of what
-- counts
abbrev pub SayTheSame : Command → List ℕ → Type 0
SayTheSame command bytes =
    (one other : Reply) → AreSome command bytes one → AreSome command bytes other
    → what_counts one ≡ what_counts other

-- Open bytes are read in the first of the four in which they have no fault, where all replies that
-- they are say the same of what counts.
abbrev pub IsReadOpen : Command → Reply → Type 0
IsReadOpen command reply = IsFirst readings command reply × SayTheSame command (reply_bytes reply)

-- data bytes have a fault in each reading of the extended profile
abbrev pub HaveFaults : Command → List ℕ → Type 0
HaveFaults command bytes =
    (reading : Reading) → is_extended reading ≡ true
    → (fault : MsgFault) × IsReadFault reading command bytes fault

-- data bytes are two replies that don't say the same of what counts
abbrev pub AreTwo : Command → List ℕ → Type 0
AreTwo command bytes =
    (one other : Reply) × AreSome command bytes one × AreSome command bytes other
    × (what_counts one ≢ what_counts other)

-- Open bytes have a fault where they have one in each reading, or where they are two replies.
abbrev pub HasOpenFault : Command → List ℕ → MsgFault → Type 0
HasOpenFault command bytes Left =
    (HaveFaults command bytes
    × (reading : Reading) × (is_extended reading ≡ true) × IsReadFault reading command bytes Left)
    ⊎ AreTwo command bytes
HasOpenFault command bytes fault =
    (reading : Reading) → is_extended reading ≡ true → IsReadFault reading command bytes fault

-- A reply is read in the first of two readings; or in the second, where its bytes have a fault in
-- the first. Bytes that are read as open ones are read so at any levels: nothing that counts hangs
-- on these, and an end of a recording that hides them has the same reply.
abbrev pub IsReadInEither : Reading → Reading → Command → Reply → Type 0
IsReadInEither first second command reply =
    (told : Reply) × IsFirst (first ∷ second ∷ []) command told × IsReplyTo command told
    × (reply_bytes told ≡ reply_bytes reply)
    × (IsReadOpen command reply
    ⊎ ((told ≡ reply)
    × (fault : MsgFault) × HasOpenFault command (reply_bytes reply) fault))

-- data bytes have this fault in the first reading, and some fault in the second
abbrev pub HasFaultInBoth : Reading → Reading → Command → List ℕ → MsgFault → Type 0
HasFaultInBoth first second command bytes fault =
    IsReadFault first command bytes fault
    × (other : MsgFault) × IsReadFault second command bytes other
