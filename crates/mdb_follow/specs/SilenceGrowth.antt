-- How silences go on by an act. This serves `Follower` and private functions.
use Rattle.std.specs.Prelude.{◌+◌, ℕ, option_map, List, [], ◌∷◌, if◌then◌else◌}
use Rattle.mdb_msgs.specs.declared.command.Device.{Device}
use Rattle.mdb_msgs.specs.declared.command.Device.TheVariants as devices
use Rattle.mdb_msgs.specs.declared.command.ReaderUnit.TheVariants.{First, Second}
use Rattle.mdb_bus.specs.declared.act.Act.{Act}
use Rattle.mdb_cashless.specs.declared.by_profile.facts.KnownByProfile.{KnownByProfile}
use Rattle.mdb_cashless.specs.ByProfileValues as reader_values
use Rattle.mdb_cashless.specs.ByProfileFacts.{config_of}
use Rattle.mdb_follow.specs.declared.silence.Silence.{Silence}
use Rattle.mdb_follow.specs.declared.silence.Silences.{Silences}
use Rattle.mdb_follow.specs.declared.silence.TheConstants.{CHANGER_SILENCE_MAX, BILL_SILENCE_MAX}
use Rattle.mdb_follow.specs.ReportedDevices.{reader_limit}
use Rattle.mdb_follow.specs.Silences.{TimedAsk, asks, ends_asking, with_ask}
use Rattle.mdb_follow.specs.SilencesKept.{AreAtMost, StandsForAsks, silence_in}
use Rattle.mdb_follow.specs.ByDevice.{OneGoes}

-- how long a device may be silent, by what is known of the two readers
abbrev pub limit_by : KnownByProfile → ℕ
limit_by facts =
    reader_limit (option_map (λ config. config.response)
    (config_of (reader_values.known_in facts)))

abbrev pub limit_in : KnownByProfile → KnownByProfile → Device → ℕ
limit_in first second devices.Changer = CHANGER_SILENCE_MAX
limit_in first second devices.Bill = BILL_SILENCE_MAX
limit_in first second (devices.Reader First) = limit_by first
limit_in first second (devices.Reader Second) = limit_by second

-- the ask of a device, of whose words the last started at a time
abbrev pub ask_in : KnownByProfile → KnownByProfile → ℕ → Device → TimedAsk
ask_in first second at device = record { at = at; limit = limit_in first second device }

-- lists of asks to a device after one act more, which is this ask if it asks the device
abbrev pub asks_after : Device → Act → TimedAsk → List (List TimedAsk) → List (List TimedAsk)
asks_after device act ask lists =
    if ends_asking device act then [] ∷ lists
    else if asks device act then with_ask ask lists
    else lists

-- lists of asks after an answer or a break
abbrev pub ended : List (List TimedAsk) → List (List TimedAsk)
ended lists = [] ∷ lists

-- What is kept of a device has gone on as its lists did, with at most one more of each count.
pub record SilenceGoesOn (further : List (List TimedAsk) → List (List TimedAsk))
    (old new : Silence) : Type 0 where
  pub stands : (lists : List (List TimedAsk)) → StandsForAsks old lists
      → StandsForAsks new (further lists)
  pub few : (most : ℕ) → AreAtMost most old.counts → AreAtMost (most + 1) new.counts

-- what is kept of one device has, and of each other it is what it was
abbrev pub OneGoesOn : (Device → List (List TimedAsk) → List (List TimedAsk)) → Device
    → Silences → Silences → Type 0
OneGoesOn further device old new =
    OneGoes (λ other. Silence) (λ other. SilenceGoesOn (further other)) device (silence_in old)
    (silence_in new)

-- what is kept of each device has
abbrev pub AllGoOn : (Device → List (List TimedAsk) → List (List TimedAsk)) → Silences → Silences
    → Type 0
AllGoOn further old new =
    (device : Device)
    → SilenceGoesOn (further device) (silence_in old device) (silence_in new device)

-- Silences have followed an act whose last word started at a time, with what is known of the two
-- readers after it.
abbrev pub SilencesFollow : Silences → Act → ℕ → KnownByProfile → KnownByProfile → Silences → Type 0
SilencesFollow old act at first second new =
    AllGoOn (λ device. asks_after device act (ask_in first second at device)) old new

-- no count of a device is more than so many
abbrev pub AreFew : ℕ → Silences → Type 0
AreFew most silences = (device : Device) → AreAtMost most (silence_in silences device).counts
