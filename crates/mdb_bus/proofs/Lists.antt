-- Lists of events and of words, with their last element apart, or with one more.
use Rattle.mdb_bus.proofs.Words.{[], All, ap, append_assoc, AreSpaced, arith, Beginning, block_of, Break, Controller, controller_words, Event, first_position, get_or-append-add, get_or_append_left, InBlockTime, InForeign, IsBlockWord, Joined, last_of, length, length-append, length-map, Line, List, map-append, Option, Peripheral, peripheral_words, Position, PowerOn, Profile, Quiet, refl, said_by, Say, Some, subst, sum, sym, Word, ℕ, ◌%◌, ◌++◌, ◌+◌, ◌↔◌, ◌∙◌, ◌∷◌, ◌≡◌, ◌≢◌, ◌≤◌}

-- a recording begins in quiet or in foreign traffic
pub at_first : (P : Position → Type 0) → P Quiet → P InForeign → (begins : Beginning)
    → P (first_position begins)
at_first P quiet foreign (PowerOn profile) = quiet
at_first P quiet foreign (Joined setups profile) = foreign

-- a list that isn't empty has a last element
pub front_and_last : {X : Type 0} (xs : List X) → xs ≢ [] → (front : List X) × (last : X)
    × (xs ≡ front ++ last ∷ [])
front_and_last [] some = absurd (some refl)
front_and_last (x ∷ []) some = ([], x, refl)
front_and_last (x ∷ y ∷ ys) some =
    let rest = front_and_last (y ∷ ys) (λ none. cc) in
    (x ∷ rest.0, rest.1, ap (λ zs. x ∷ zs) rest.2)

-- a list with an element after it has elements
pub not_empty : {X : Type 0} (xs : List X) (x : X) → xs ++ x ∷ [] ≢ []
not_empty [] x none = cc
not_empty (y ∷ xs) x none = cc

-- a list begins with what it begins with when an element stands after it
pub first_stays : {X : Type 0} (xs : List X) (x to : X) (back : List X) → xs ≢ []
    → xs ++ x ∷ [] ≡ to ∷ back → (rest : List X) × (xs ≡ to ∷ rest)
first_stays [] x to back some is = absurd (some refl)
first_stays (y ∷ ys) x to back some is = (ys, cc)

-- a list that is as long as a part of it has nothing after the part
pub nothing_after : {X : Type 0} (xs ys : List X) → length xs ≡ length (xs ++ ys) → ys ≡ []
nothing_after xs [] same = refl
nothing_after xs (y ∷ ys) same = absurd (omega (arith, same, length-append xs (y ∷ ys)))

-- the length of a list that isn't empty
pub some_length : {X : Type 0} (xs : List X) → xs ≢ [] → 1 ≤ length xs
some_length [] some = absurd (some refl)
some_length (x ∷ xs) some = omega arith

-- and a list that has a length isn't empty
pub some_there : {X : Type 0} (xs : List X) → 1 ≤ length xs → xs ≢ []
some_there [] some none = absurd (omega (arith, some))
some_there (x ∷ xs) some none = cc none

-- the last row is the one after the others
pub last_push : (events : List Event) (event : Event) → last_of (events ++ event ∷ []) ≡ Some event
last_push [] event = refl
last_push (x ∷ []) event = refl
last_push (x ∷ y ∷ ys) event = last_push (y ∷ ys) event

-- an event that says a word is that word
pub heard : (event : Event) (line : Line) (word : ℕ) → said_by event ≡ Some (line, word)
    → (at : ℕ) × (event ≡ Word at line word)
heard (Word at on said) line word says =
    let one : Line × ℕ = (on, said) in
    let other : Line × ℕ = (line, word) in
    let same : one ≡ other = cc in
    (at, ap (λ (p : Line × ℕ). Word at p.0 p.1) same)
heard (Break at length) line word says = cc

-- events say as many words as they are
pub say_length : (line : Line) (words : List ℕ) (events : List Event) → Say line words events
    → length words ≡ length events
say_length line words events says =
    sym (length-map words (λ word. Some (line, word)))
    ∙ (sym (ap length says) ∙ length-map events said_by)

-- the words of events that end in one
pub say_last : (line : Line) (words : List ℕ) (events : List Event) (event : Event)
    → Say line words (events ++ event ∷ [])
    → (front : List ℕ) × (word : ℕ) × (words ≡ front ++ word ∷ []) × Say line front events
    × (said_by event ≡ Some (line, word))
say_last line [] [] event says = cc
say_last line (w ∷ []) [] event says = ([], w, refl, refl, cc)
say_last line (w ∷ words) (f ∷ events) event says =
    let rest = say_last line words events event (cc) in
    let whole : words ≡ rest.0 ++ rest.1 ∷ [] = rest.2 in
    (w ∷ rest.0, rest.1, cc, cc, rest.4)
say_last line words events event says = cc

-- one word is one event
pub one_alone : (line : Line) (word : ℕ) (front : List Event) (event : Event) → Say line (word ∷ [])
    (front ++ event ∷ []) → front ≡ []
one_alone line word [] event says = refl
one_alone line word (f ∷ []) event says = cc
one_alone line word front event says = cc

-- the controller's words that end in one, after others: the last is no marked one
pub record ControllerEnd (bytes : List ℕ) (front : List Event) (event : Event) : Type 0 where
  pub start : List ℕ
  pub byte : ℕ
  pub is : bytes ≡ start ++ byte ∷ []
  pub some : start ≢ []
  pub says : Say Controller (controller_words start) front
  pub said : said_by event ≡ Some (Controller, byte)

pub controller_last : (bytes : List ℕ) (front : List Event) (event : Event) → front ≢ []
    → Say Controller (controller_words bytes) (front ++ event ∷ [])
    → ControllerEnd bytes front event
controller_last bytes [] event some says = absurd (some refl)
controller_last [] (f ∷ front) event some says = cc
controller_last (b ∷ bytes) (f ∷ front) event some says =
    let rest = say_last Controller bytes front event (cc) in
    let first : said_by f ≡ Some (Controller, 256 + b) = cc in
    let others : Say Controller rest.0 front = rest.3 in
    let whole : bytes ≡ rest.0 ++ rest.1 ∷ [] = rest.2 in
    record {
      start = b ∷ rest.0;
      byte = rest.1;
      is = cc;
      some = λ none. cc;
      says = cc;
      said = rest.4;
    }

-- the controller's words are as many as the bytes
pub controller_length : (bytes : List ℕ) → length (controller_words bytes) ≡ length bytes
controller_length [] = refl
controller_length (byte ∷ bytes) = refl

-- a peripheral marks the last of its words alone
pub peripheral_push : (bytes : List ℕ) (byte : ℕ) → peripheral_words (bytes ++ byte ∷ [])
    ≡ bytes ++ (256 + byte) ∷ []
peripheral_push [] byte = refl
peripheral_push (x ∷ []) byte = refl
peripheral_push (x ∷ y ∷ ys) byte = ap (λ ws. x ∷ ws) (peripheral_push (y ∷ ys) byte)

-- events after others, with one more, are spaced where they are and it comes in time
module _ (profile : Profile) (event : Event) where
  abbrev IsGap : List Event → Option Event → Type 0
  IsGap front from = AreSpaced profile (front ++ event ∷ [])
      ↔ (AreSpaced profile front × InBlockTime profile from event)

  pub spaced_on : (before front : List Event) → front ≢ [] → IsGap front (last_of (before ++ front))
  spaced_on before [] some = absurd (some refl)
  spaced_on before (f ∷ []) some =
      subst (IsGap (f ∷ [])) (sym (last_push before f)) (λ s. (tt, s.0), λ s. (s.1, tt))
  spaced_on before (f ∷ g ∷ front) some =
      let rest = subst (λ es. IsGap (g ∷ front) (last_of es)) (append_assoc before (f ∷ [])
      (g ∷ front)) (spaced_on (before ++ f ∷ []) (g ∷ front) (λ none. cc)) in
      (λ s. let r = rest.0 s.1 in ((s.0, r.0), r.1), λ s. (s.0.0, rest.1 (s.0.1, s.1)))

pub inside : (profile : Profile) (before front : List Event) (event : Event) → front ≢ []
    → AreSpaced profile (front ++ event ∷ [])
    → AreSpaced profile front × InBlockTime profile (last_of (before ++ front)) event
inside profile before front event some = (spaced_on profile event before front some).0

-- what holds of each element holds of each in a front, and of the last
pub all_front : (P : ℕ → Type 0) (xs ys : List ℕ) → All P (xs ++ ys) → All P xs
all_front P xs ys all k d lt =
    rw (get_or_append_left xs ys d k lt) at (all k d (omega (arith, length-append xs ys)))

pub all_last : (P : ℕ → Type 0) (xs : List ℕ) (x : ℕ) → All P (xs ++ x ∷ []) → P x
all_last P xs x all =
    rw (get_or-append-add xs (x ∷ []) 0 x) at
    (all (length xs + 0) x (omega (arith, length-append xs (x ∷ []))))

-- words with one more, as it stands in a row, are said by events with one more
pub say_word : (line : Line) (words : List ℕ) (events : List Event) (at word : ℕ)
    → Say line words events → Say line (words ++ word ∷ []) (events ++ Word at line word ∷ [])
say_word line words events at word says =
    let meant = map-append (λ w. Some (line, w)) words (word ∷ []) in
    rw (map-append, says) (sym meant)

-- a block of the controller with one byte more
pub say_byte : (bytes : List ℕ) (events : List Event) (at word : ℕ) → bytes ≢ []
    → Say Controller (controller_words bytes) events
    → Say Controller (controller_words (bytes ++ word ∷ []))
    (events ++ Word at Controller word ∷ [])
say_byte [] events at word some says = absurd (some refl)
say_byte (byte ∷ bytes) events at word some says = say_word Controller ((256 + byte) ∷ bytes) events
    at word says

-- data bytes and the marked word of their sum are the words of their block
pub say_sum : (bytes : List ℕ) (events : List Event) (at word : ℕ) → word ≡ 256 + sum bytes % 256
    → Say Peripheral bytes events
    → Say Peripheral (peripheral_words (block_of bytes)) (events ++ Word at Peripheral word ∷ [])
say_sum bytes events at word is says =
    rw (peripheral_push, ← is) (say_word Peripheral bytes events at word says)

-- the first event of a block of the controller is a marked word
pub begins_block : (bytes : List ℕ) (first : Event) (others : List Event) → bytes ≢ []
    → Say Controller (controller_words bytes) (first ∷ others) → IsBlockWord first
begins_block [] first others some says = absurd (some refl)
begins_block (byte ∷ bytes) first others some says =
    let is = heard first Controller (256 + byte) (cc) in rw is.1 (omega arith)
