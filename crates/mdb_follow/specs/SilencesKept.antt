-- What is kept of silences: of the asks of a device, what counts for those to come.
use Rattle.std.specs.Prelude.{◌≡◌, ◌≢◌, ◌+◌, ◌≤◌, ℕ, true, false, List, [], ◌∷◌, Some, None}
use Rattle.std.specs.Prelude.{get_or}
use Rattle.std.specs.List.{AllByRecursion}
use Rattle.mdb_msgs.specs.declared.command.Device.{Device}
use Rattle.mdb_follow.specs.declared.silence.AskCounts.{AskCounts}
use Rattle.mdb_follow.specs.declared.silence.Silence.{Silence}
use Rattle.mdb_follow.specs.declared.silence.Silences.{Silences}
use Rattle.mdb_follow.specs.declared.silence.Unanswered.{Unanswered}
use Rattle.mdb_follow.specs.declared.silence.Unanswered.TheVariants.{Nothing, Until, Counted}
use Rattle.mdb_follow.specs.ReportedDevices.{device_place}
use Rattle.mdb_follow.specs.Silences.{TimedAsk, counts_of, each_count, first_ask, is_silence}
use Rattle.mdb_follow.specs.Silences.{no_counts}

-- the newest list, or no asks
abbrev pub newest_list : List (List TimedAsk) → List TimedAsk
newest_list [] = []
newest_list (list ∷ lists) = list

-- after which time a further ask makes a list too long; 0 where there is no ask
abbrev pub deadline_of : List TimedAsk → ℕ
deadline_of list = elim (first_ask list) [ Some first ↦ first.at + first.limit | None ↦ 0 ]

-- what is kept of the newest list
abbrev pub IsUnanswered : Unanswered → List TimedAsk → Type 0
IsUnanswered Nothing list = list ≡ []
IsUnanswered (Until time) list =
    (list ≢ []) × (time ≡ deadline_of list) × (is_silence list ≡ false)
IsUnanswered Counted list = (list ≢ []) × (is_silence list ≡ true)

-- What is kept of a device's asks stands for its lists of asks: what is kept of the newest, and
-- what is counted of them all.
pub record StandsForAsks (silence : Silence) (lists : List (List TimedAsk)) : Type 0 where
  pub unanswered : IsUnanswered silence.unanswered (newest_list lists)
  pub counts : silence.counts ≡ counts_of lists

-- no count is more than so many
abbrev pub AreAtMost : ℕ → AskCounts → Type 0
AreAtMost most counts = AllByRecursion (λ count. count ≤ most) (each_count counts)

-- what is kept of a device
abbrev pub silence_in : Silences → Device → Silence
silence_in silences device =
    get_or silences.of (device_place device) (record { unanswered = Nothing; counts = no_counts })

-- the silences of each device stand for its lists
abbrev pub AllStandForAsks : Silences → (Device → List (List TimedAsk)) → Type 0
AllStandForAsks silences lists =
    (device : Device) → StandsForAsks (silence_in silences device) (lists device)
