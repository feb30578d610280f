-- What one byte does to csv's machine under the default settings.
use Rattle.mdb_records.proofs.Words.{◌≡◌, ◌≤◌, ◌<◌, ℕ, Bool, true, false, refl, arith, ◌==◌, ◌||◌, if◌then◌else◌, nat_tests, ends_at_end, in_field, is_end, step, default_config, State, Action}
use Rattle.csv.specs.declared.parser.State.TheVariants as st
use Rattle.csv.specs.declared.parser.Action.TheVariants as act
use Rattle.csv.specs.declared.parser.Terminator.TheVariants as term

-- the states that the default settings reach
abbrev pub is_plain : State → Bool
is_plain st.InComment = false
is_plain _ = true

-- the states in which a record has begun
abbrev pub is_inside : State → Bool
is_inside st.StartRecord = false
is_inside st.InComment = false
is_inside st.AfterCr = false
is_inside _ = true

-- the state after a byte that is no delimiter, no quote and no line's end
abbrev pub after_copy : State → State
after_copy st.InQuoted = st.InQuoted
after_copy st.InEscape = st.InQuoted
after_copy st.InComment = st.InComment
after_copy _ = st.InField

-- between records the machine is in one of these states
pub plain-between : (s : State) → ends_at_end s ≡ false → is_plain s ≡ true
plain-between st.InComment e = cc
plain-between s e = refl

-- a record that has begun is given at the end of the text
pub inside-ends : (s : State) → is_inside s ≡ true → ends_at_end s ≡ true
inside-ends st.StartRecord e = cc
inside-ends st.AfterCr e = cc
inside-ends s e = refl

-- such a byte leads to one of the settings' states
pub plain-after_copy : (s : State) → is_plain s ≡ true → is_plain (after_copy s) ≡ true
plain-after_copy st.InComment e = e
plain-after_copy s e = refl

-- and a record has begun then
pub inside-after_copy : (s : State) → is_plain s ≡ true → is_inside (after_copy s) ≡ true
inside-after_copy st.InComment e = e
inside-after_copy s e = refl

-- a number above another is not that one
apart : (c n : ℕ) → n < c → (c == n) ≡ false
apart c n h = grind (arith, nat_tests)

-- a byte that is no comma, no quote and no end of a line joins the field at hand
pub step-other : (s : State) (c : ℕ) → (c == 44) ≡ false → (c == 34) ≡ false → (c == 13) ≡ false
    → (c == 10) ≡ false
    → is_plain s ≡ true → step default_config s c ≡ (after_copy s, act.Copy)
step-other st.InComment c comma quote cr lf p = cc
step-other st.InEscape c comma quote cr lf p = refl
step-other s c comma quote cr lf p = cc

-- bytes above ASCII, and the mark, join the field at hand
pub step-copy : (s : State) (c : ℕ) → 128 ≤ c → is_plain s ≡ true
    → step default_config s c ≡ (after_copy s, act.Copy)
step-copy s c h e =
    step-other s c (apart c 44 (omega arith)) (apart c 34 (omega arith)) (apart c 13 (omega arith))
    (apart c 10 (omega arith)) e

-- what a state and an action after one byte keep: the settings' states, a record that has begun,
-- and its end
pub record Steps (inside : Bool) (next : State × Action) : Type 0 where
  pub plain : is_plain next.0 ≡ true
  pub stays : is_end next.1 ≡ false → inside ≡ true → is_inside next.0 ≡ true
  pub ends : is_end next.1 ≡ true → ends_at_end next.0 ≡ false

-- a step by a test
either : {inside : Bool} (test : Bool) {first other : State × Action} → Steps inside first
    → Steps inside other → Steps inside (if test then first else other)
either true f o = f
either false f o = o

-- a byte that ends no record
goes : {inside : Bool} {s : State} {a : Action} → is_plain s ≡ true → is_end a ≡ false
    → (inside ≡ true → is_inside s ≡ true) → Steps inside (s, a)
goes p e i = record { plain = p; stays = λ _. i; ends = λ f. cc }

-- a byte of a field; after a line's end no record has begun
field-steps : (inside : Bool) (c : ℕ) → Steps inside (in_field default_config c)
field-steps inside c =
    either (c == 44) (goes refl refl (λ _. refl))
    (either ((c == 13) || (c == 10)) (after-end (c == 13)) (goes refl refl (λ _. refl)))
  where
    after-end : (b : Bool)
        → Steps inside ((if b then st.AfterCr else st.StartRecord), act.EndRecord)
    after-end true = record { plain = refl; stays = λ e. cc; ends = λ _. refl }
    after-end false = record { plain = refl; stays = λ e. cc; ends = λ _. refl }

-- a byte before a record
start-steps : (c : ℕ) → Steps false (step default_config st.StartRecord c)
start-steps c =
    either ((c == 13) || (c == 10)) (goes refl refl (λ e. cc))
    (either (c == 34) (goes refl refl (λ _. refl)) (field-steps false c))

-- each byte, in each state of these settings
pub step-steps : (s : State) (c : ℕ) → is_plain s ≡ true
    → Steps (is_inside s) (step default_config s c)
step-steps st.StartRecord c e = start-steps c
step-steps st.StartField c e =
    either (c == 34) (goes refl refl (λ _. refl)) (field-steps true c)
step-steps st.InField c e = field-steps true c
step-steps st.InQuoted c e =
    either (c == 34) (goes refl refl (λ _. refl)) (goes refl refl (λ _. refl))
step-steps st.AfterQuote c e =
    either (c == 34) (goes refl refl (λ _. refl)) (field-steps true c)
step-steps st.InEscape c e = goes refl refl (λ _. refl)
step-steps st.InComment c e = cc
step-steps st.AfterCr c e = either (c == 10) (goes refl refl (λ e. cc)) (start-steps c)
