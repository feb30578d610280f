-- What is kept of silences goes on as the lists of asks do: of one device, and of each.
use Rattle.mdb_follow.proofs.Words.{sym, inl, inr, ◌∙◌, ◌≡◌, ◌+◌, ◌≤◌, ℕ, List, arith, length, set, get_or, if◌then◌else◌, false_from_ne_true, Device, same_device, is_one, says, Silence, Silences, Nothing, device_place, TimedAsk, no_counts, AreAtMost, silence_in, SilenceGoesOn, get_or-set_other, AllGoOn, OneGoesOn}
use Rattle.std.proofs.lemmas.Grind.{get_or-set_at}
use Rattle.mdb_follow.specs.declared.silence.AskCounts.{AskCounts}
use Rattle.mdb_follow.proofs.ByDevice.{below, one_place, same_or_not}

-- what stands for that of a device that a list lacks; silences lack none
abbrev pub no_silence : Silence
no_silence = record { unanswered = Nothing; counts = no_counts }

-- what is kept of one device is put in its place
pub one-goes-on : (further : Device → List (List TimedAsk) → List (List TimedAsk))
    (device : Device) (old : Silences) (place : ℕ) (one : Silence) → place ≡ device_place device
    → length old.of ≡ 4 → SilenceGoesOn (further device) (get_or old.of place no_silence) one
    → OneGoesOn further device old (record { of = set old.of place one })
one-goes-on further device old place one here long goes = record {
  own = rw (get_or-set_at old.of place (device_place device) one _ (sym here)
      (let less = below device in omega (arith, here, long, less))) (rw here at goes);
  others = λ other apart. get_or-set_other old.of place (device_place other) one _
      (λ same. apart (one_place other device (same ∙ here)));
}

-- what is at most so many is at most more
pub at-most-weaker : (counts : AskCounts) (most more : ℕ) → most ≤ more → AreAtMost most counts
    → AreAtMost more counts
at-most-weaker counts most more le few = (omega (arith, few.0), tt)

pub at-most-more : (counts : AskCounts) (most : ℕ) → AreAtMost most counts
    → AreAtMost (most + 1) counts
at-most-more counts most = at-most-weaker counts most (most + 1) (omega arith)

-- no list goes on
stays : (silence : Silence) → SilenceGoesOn (λ lists. lists) silence silence
stays silence = record { stands = λ lists on. on; few = at-most-more silence.counts }

-- those of one device do
pub all-go-on : (further : Device → List (List TimedAsk) → List (List TimedAsk))
    (which : Device) (old new : Silences) → OneGoesOn further which old new
    → AllGoOn (λ device lists. if same_device device which then further device lists else lists)
    old new
all-go-on further which old new one device = elim (same_or_not device which) [
  | inl same ↦ rw ((says device which).1 same) (rw same one.own)
  | inr apart ↦ rw (false_from_ne_true (same_device device which)
      (λ same. apart (is_one device which same)))
      (rw (one.others device apart) (stays (silence_in old device)))
]
