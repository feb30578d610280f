-- Silences: how often a device left the controller's asks without an answer for too long, as far as
-- a later ask shows it: a device that is asked once and never again isn't counted (limits, MDB/ICP
-- 4.3; what counts, this profile). Pieces stand newest first, and so do lists of asks and the asks
-- in a list.
use Rattle.std.specs.Prelude.{ℕ, ◌+◌, nat_lt, count_by, Bool, true, false}
use Rattle.std.specs.Prelude.{List, [], ◌∷◌, Option, Some, None, if◌then◌else◌}
use Rattle.std.specs.List.{list_any}
use Rattle.mdb_words.specs.declared.event.Event.{Event}
use Rattle.mdb_words.specs.Event.{start_of}
use Rattle.mdb_msgs.specs.declared.command.Device.{Device}
use Rattle.mdb_msgs.specs.Commands.{device_of}
use Rattle.mdb_msgs.specs.Devices.{same_device}
use Rattle.mdb_bus.specs.declared.act.Act.{Act}
use Rattle.mdb_bus.specs.declared.act.Act.TheVariants as acts
use Rattle.mdb_bus.specs.ActLists.{Piece, Whole, acts_of, last_of}
use Rattle.mdb_bus.specs.declared.scope.Beginning.{Beginning}
use Rattle.mdb_follow.specs.declared.silence.AskCounts.{AskCounts}
use Rattle.mdb_follow.specs.ReportedDevices.{reported_of}

-- how long a device may be silent after these acts, in a recording that begins so, by what it has
-- told
abbrev pub limit_of : Beginning → Device → List Act → ℕ
limit_of begins device acts = (reported_of device).limit ((reported_of device).known begins acts)

-- whether an act asks a device
abbrev pub asks : Device → Act → Bool
asks device (acts.Ask command) = same_device device (device_of command)
asks device _ = false

-- whether an act ends a list of asks to a device: an answer of the device, by ACK, NAK or data,
-- or a break; what the controller answers, a repeat and foreign traffic end none
abbrev pub ends_asking : Device → Act → Bool
ends_asking device (acts.Ack command) = same_device device (device_of command)
ends_asking device (acts.Nak command) = same_device device (device_of command)
ends_asking device (acts.Reply command reply) = same_device device (device_of command)
ends_asking device (acts.Break length) = true
ends_asking device _ = false

-- when the last word of an act started
abbrev pub last_start : List Event → ℕ
last_start events = elim (last_of events) [ Some event ↦ start_of event | None ↦ 0 ]

-- An ask to a device: when its last word started, and how long the device may then be silent.
pub record TimedAsk : Type 0 where
  pub at : ℕ
  pub limit : ℕ

-- an ask of these words to a device, after pieces of a recording that begins so
abbrev pub timed_ask : Beginning → Device → List Event → List Piece → TimedAsk
timed_ask begins device events pieces =
    record { at = last_start events; limit = limit_of begins device (acts_of pieces) }

-- lists of asks with one more in the newest of them
abbrev pub with_ask : TimedAsk → List (List TimedAsk) → List (List TimedAsk)
with_ask ask [] = (ask ∷ []) ∷ []
with_ask ask (list ∷ lists) = (ask ∷ list) ∷ lists

-- The lists of asks to a device: its answers and breaks part them, and nothing else does. A list
-- may be empty.
abbrev pub asks_of : Beginning → Device → List Piece → List (List TimedAsk)
asks_of begins device [] = [] ∷ []
asks_of begins device (Whole act events ∷ pieces) =
    if ends_asking device act then [] ∷ asks_of begins device pieces
    else if asks device act then
    with_ask (timed_ask begins device events pieces) (asks_of begins device pieces)
    else asks_of begins device pieces
asks_of begins device (piece ∷ pieces) = asks_of begins device pieces

-- the first ask of a list, which stands last
abbrev pub first_ask : List TimedAsk → Option TimedAsk
first_ask [] = None
first_ask (ask ∷ []) = Some ask
first_ask (ask ∷ earlier ∷ list) = first_ask (earlier ∷ list)

-- Whether a list of asks is a silence: some ask of it comes more than the limit after the first,
-- by the starts of their last words. The limit is that at the first ask.
abbrev pub is_silence : List TimedAsk → Bool
is_silence list =
    elim (first_ask list) [
      | Some first ↦ list_any (λ ask. nat_lt (first.at + first.limit) ask.at) list
      | None ↦ false
    ]

-- what is counted of lists of asks to a device: how many are silences
abbrev pub counts_of : List (List TimedAsk) → AskCounts
counts_of lists = record { silences = count_by is_silence lists }

-- what is counted of no asks
abbrev pub no_counts : AskCounts
no_counts = record { silences = 0 }

-- each count
abbrev pub each_count : AskCounts → List ℕ
each_count counts = counts.silences ∷ []

-- how many silences of a device there are: each list counts once
abbrev pub silences : Beginning → Device → List Piece → ℕ
silences begins device pieces = (counts_of (asks_of begins device pieces)).silences
