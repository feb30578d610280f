-- Rows out of their time. By the extended profile a row that breaks a limit of time of the base
-- profile alone is no offence: such rows are counted, by who sent them (this profile). Lists of
-- pieces are written newest first.
use Rattle.std.specs.Prelude.{ℕ, ◌+◌, ◌≤◌, nat_lt, Bool, false, List, [], ◌∷◌, Option, Some, None, if◌then◌else◌}
use Rattle.mdb_words.specs.declared.event.Event.{Event}
use Rattle.mdb_words.specs.declared.event.Event.TheVariants.{Word, Break}
use Rattle.mdb_words.specs.declared.word.Line.TheVariants.{Controller, Peripheral}
use Rattle.mdb_words.specs.Event.{start_of, end_of}
use Rattle.mdb_msgs.specs.declared.command.Device.{Device}
use Rattle.mdb_bus.specs.declared.fault.Blame.{Blame}
use Rattle.mdb_bus.specs.declared.fault.Blame.TheVariants as blame
use Rattle.mdb_bus.specs.declared.scope.Profile.{Profile}
use Rattle.mdb_bus.specs.declared.scope.Profile.TheVariants.{Base, Extended}
use Rattle.mdb_bus.specs.declared.scope.Scope.{Scope}
use Rattle.mdb_bus.specs.declared.untimely.Untimely.{Untimely}
use Rattle.mdb_bus.specs.ActLists.{Piece, Position, InAsk, Asked, InReply, Replied, Returned, InRepeat, events_of, last_of, piece_events, position_of}
use Rattle.mdb_bus.specs.ExtendedHaste.{is_before}
use Rattle.mdb_bus.specs.LinkFaults.{asked_device, blame_on}
use Rattle.mdb_bus.specs.Scopes.{profile_of}
use Rattle.mdb_bus.specs.Times.{answer_most, block_most, block_rest, break_least}

-- the gap from the row before, if there is one, is more than so long, where there is a limit
abbrev pub is_past : Option ℕ → Option Event → Event → Bool
is_past (Some most) (Some from) to = nat_lt (end_of from + most) (start_of to)
is_past most from to = false

-- Whether a row breaks a limit of the base profile: a break is short; an answer, or a further word
-- of a block, comes late; a block of the controller comes early.
abbrev pub is_untimely : Position → Option Event → Event → Bool
is_untimely position from (Break at length) = nat_lt length (break_least Base)
is_untimely (InAsk bytes) from to = is_past (block_most Base) from to
is_untimely (InReply command bytes) from to = is_past (block_most Base) from to
is_untimely (InRepeat command reply words) from to = is_past (block_most Base) from to
is_untimely (Asked command) from (Word at Peripheral word) =
    is_past (answer_most Base) from (Word at Peripheral word)
is_untimely (Returned command reply) from (Word at Peripheral word) =
    is_past (answer_most Base) from (Word at Peripheral word)
is_untimely (Replied command reply) from (Word at Controller word) =
    if nat_lt word 256 then is_past (answer_most Base) from (Word at Controller word)
    else is_before (block_rest (Replied command reply) Base from) from (Word at Controller word)
is_untimely position from (Word at Controller word) =
    is_before (block_rest position Base from) from (Word at Controller word)
is_untimely position from to = false

-- who sent a row, where this device was asked last
abbrev pub sender_by : Option Device → Event → Blame
sender_by asked (Word at Peripheral word) = blame_on asked
sender_by asked row = blame.Controller

-- who sent a row after pieces out of its time, if it is
abbrev pub untimely_sender : Scope → List Piece → Event → Option Blame
untimely_sender scope pieces row =
    if is_untimely (position_of scope pieces) (last_of (events_of pieces)) row
    then Some (sender_by (asked_device pieces) row) else None

-- no row
abbrev pub no_untimely : Untimely
no_untimely = record { controller = 0; changer = 0; bill = 0; cashless = 0; cashless2 = 0 }

-- with so many rows more of a sender
abbrev pub with_untimely : ℕ → Blame → Untimely → Untimely
with_untimely n blame.Controller counts = record counts { controller = counts.controller + n }
with_untimely n blame.Changer counts = record counts { changer = counts.changer + n }
with_untimely n blame.Bill counts = record counts { bill = counts.bill + n }
with_untimely n blame.Cashless counts = record counts { cashless = counts.cashless + n }
with_untimely n blame.Cashless2 counts = record counts { cashless2 = counts.cashless2 + n }
with_untimely n blame.Other counts = counts

-- with one row more, if it is out of its time
abbrev pub with_sender : Option Blame → Untimely → Untimely
with_sender None counts = counts
with_sender (Some sender) counts = with_untimely 1 sender counts

-- how many words of an act come too late after the word before them
abbrev pub far_apart : List Event → ℕ
far_apart (event ∷ next ∷ events) =
    (if is_past (block_most Base) (Some event) next then 1 else 0) + far_apart (next ∷ events)
far_apart events = 0

-- the rows of an act with those that are out of their time, where it begins at a position
abbrev pub with_rows : Position → Option Event → Option Device → List Event → Untimely → Untimely
with_rows position from asked [] counts = counts
with_rows position from asked (first ∷ others) counts =
    with_untimely ((if is_untimely position from first then 1 else 0) + far_apart (first ∷ others))
    (sender_by asked first) counts

-- how many rows of pieces are out of their time, by who sent them
abbrev pub untimely_of : Scope → List Piece → Untimely
untimely_of scope [] = no_untimely
untimely_of scope (piece ∷ pieces) =
    with_rows (position_of scope pieces) (last_of (events_of pieces)) (asked_device pieces)
    (piece_events piece) (untimely_of scope pieces)

-- by the base profile nothing is counted
abbrev pub counted_for : Profile → Untimely → Option Untimely
counted_for Base counts = None
counted_for Extended counts = Some counts

-- what is counted of the times of pieces
abbrev pub times_of : Scope → List Piece → Option Untimely
times_of scope pieces = counted_for (profile_of scope.begins) (untimely_of scope pieces)

-- no count is more than so many
pub record AreFew (most : ℕ) (counts : Untimely) : Type 0 where
  pub controller : counts.controller ≤ most
  pub changer : counts.changer ≤ most
  pub bill : counts.bill ≤ most
  pub cashless : counts.cashless ≤ most
  pub cashless2 : counts.cashless2 ≤ most
