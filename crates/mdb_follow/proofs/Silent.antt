-- What is kept of silences goes on with an ask that finds one unanswered.
use Rattle.mdb_follow.proofs.Words.{counts_of, cond, nat_tests, refl, sym, ◌∙◌, ◌≡◌, ◌≢◌, ◌<◌, ◌≤◌, ◌+◌, ℕ, true, false, nat_lt, ◌||◌, List, [], ◌∷◌, Some, arith, sum_by-cons, count_by, Silence, Until, Counted, TimedAsk, first_ask, is_silence, with_ask, StandsForAsks, deadline_of}

-- a list with an ask has a first one
first-of : (ask : TimedAsk) (list : List TimedAsk)
    → (first : TimedAsk) × (first_ask (ask ∷ list) ≡ Some first)
first-of ask [] = (ask, refl)
first-of ask (earlier ∷ list) = first-of earlier list

-- one ask more makes a silence of a list that has asks where it comes after the deadline
more : (ask : TimedAsk) (list : List TimedAsk) → list ≢ []
    → is_silence (ask ∷ list) ≡ (nat_lt (deadline_of list) ask.at || is_silence list)
more ask [] some = absurd (some refl)
more ask (earlier ∷ list) some = rw ((first-of earlier list).1, is_silence, deadline_of)

-- and it leaves the deadline
same-deadline : (ask : TimedAsk) (list : List TimedAsk) → list ≢ []
    → deadline_of (ask ∷ list) ≡ deadline_of list
same-deadline ask [] some = absurd (some refl)
same-deadline ask (earlier ∷ list) some = refl

-- how many silences there are, where one more ask makes none
count-same : (ask : TimedAsk) (list : List TimedAsk) (lists : List (List TimedAsk))
    → is_silence (ask ∷ list) ≡ is_silence list
    → counts_of ((ask ∷ list) ∷ lists) ≡ counts_of (list ∷ lists)
count-same ask list lists same =
    let count = sum_by-cons (λ list. cond (is_silence list) 1 0) in
    rw (count (ask ∷ list) lists, count list lists, same)

-- a list that has counted stays one that counts
pub counted-more : (silence : Silence) (lists : List (List TimedAsk)) (ask : TimedAsk)
    → silence.unanswered ≡ Counted → StandsForAsks silence lists
    → StandsForAsks silence (with_ask ask lists)
counted-more silence [] ask is on = absurd ((rw is at on.unanswered).0 refl)
counted-more silence (list ∷ lists) ask is on =
    let was = rw is at on.unanswered in
    let longer = more ask list was.0 in
    let counts : is_silence (ask ∷ list) ≡ true = grind (arith, nat_tests, was.1) in
    record {
      unanswered = rw is ((λ same. cc same), counts);
      counts = on.counts ∙ sym (count-same ask list lists (counts ∙ sym was.1));
    }

-- an ask that comes in time changes nothing
pub in-time : (silence : Silence) (lists : List (List TimedAsk)) (ask : TimedAsk) (time : ℕ)
    → silence.unanswered ≡ Until time → ask.at ≤ time → StandsForAsks silence lists
    → StandsForAsks silence (with_ask ask lists)
in-time silence [] ask time is early on = absurd ((rw is at on.unanswered).0 refl)
in-time silence (list ∷ lists) ask time is early on =
    let was = rw is at on.unanswered in
    let longer = more ask list was.0 in
    let none : is_silence (ask ∷ list) ≡ false = grind (arith, nat_tests, was.1, was.2) in
    record {
      unanswered = rw is ((λ same. cc same), was.1 ∙ sym (same-deadline ask list was.0), none);
      counts = on.counts ∙ sym (count-same ask list lists (none ∙ sym was.2));
    }

-- one that comes after the deadline makes a silence
pub too-late : (silence new : Silence) (lists : List (List TimedAsk)) (ask : TimedAsk) (time : ℕ)
    → silence.unanswered ≡ Until time → time < ask.at → new.unanswered ≡ Counted
    → new.counts ≡ record { silences = silence.counts.silences + 1 } → StandsForAsks silence lists
    → StandsForAsks new (with_ask ask lists)
too-late silence new [] ask time is late counts one on =
    absurd ((rw is at on.unanswered).0 refl)
too-late silence new (list ∷ lists) ask time is late counts one on =
    let was = rw is at on.unanswered in
    let longer = more ask list was.0 in
    let silent : is_silence (ask ∷ list) ≡ true = grind (arith, nat_tests, was.1, was.2) in
    let count = sum_by-cons (λ list. cond (is_silence list) 1 0) in
    let more : count_by is_silence (list ∷ lists) + 1 ≡ count_by is_silence ((ask ∷ list) ∷ lists) =
    grind (arith, nat_tests, was.2, count list lists, count (ask ∷ list) lists) in
    record {
      unanswered = rw counts ((λ same. cc same), silent);
      counts = rw (one, on.counts, more);
    }
