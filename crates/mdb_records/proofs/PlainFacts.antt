-- How csv's machine reads a line with no quote.
use Rattle.std.proofs.lemmas.Bool.{or_parts}
use Rattle.mdb_records.proofs.Words.{◌≡◌, ◌≤◌, ◌<◌, ◌+◌, ◌-◌, ℕ, zero, suc, true, false, List, [], ◌∷◌, ◌++◌, take, drop, get_or, length, length-drop, length-take, Some, refl, ap, arith, ◌∙◌, append_assoc, All, ◌==◌, ◌||◌, drop_more, get_or-drop, take_more, All-append, All-cons, All-head, All-nil, All-tail, Runs, next_record, step, default_config, State, part-rest, run-copies, is_special}
use Rattle.csv.specs.declared.parser.State.TheVariants as st
use Rattle.csv.specs.declared.parser.Action.TheVariants as act
use Rattle.mdb_records.proofs.StepFacts.{after_copy, is_plain, step-other}

-- a byte that means itself alone joins the field at hand
step-own : (s : State) (c : ℕ) → is_special c ≡ false → is_plain s ≡ true
    → step default_config s c ≡ (after_copy s, act.Copy)
step-own s c h p =
    let fourth = or_parts (((c == 44) || (c == 34)) || (c == 13)) (c == 10) h in
    let third = or_parts ((c == 44) || (c == 34)) (c == 13) fourth.0 in
    let second = or_parts (c == 44) (c == 34) third.0 in
    step-other s c second.0 second.1 third.1 fourth.1 p

-- bytes that mean themselves alone
abbrev pub IsOwn : ℕ → Type 0
IsOwn b = is_special b ≡ false

-- a text from a place on, up to another
abbrev pub part : List ℕ → ℕ → ℕ → List ℕ
part text from to = take (to - from) (drop from text)

-- one more such byte after those from a place on
pub own-more : (text : List ℕ) (from end : ℕ) → from ≤ end → end < length text
    → IsOwn (get_or text end 0) → All IsOwn (part text from end)
    → All IsOwn (part text from (end + 1))
own-more text from end low high own h =
    let one : end + 1 - from ≡ (end - from) + 1 = omega arith in
    let at : from + (end - from) ≡ end = omega arith in
    let last : get_or (drop from text) (end - from) 0 ≡ get_or text end 0 =
    get_or-drop from text (end - from) 0 ∙ ap (λ n. get_or text n 0) at in
    rw (one, take_more (drop from text) (end - from) 0 (omega (arith, length-drop from text)), last)
    (All-append IsOwn _ (get_or text end 0 ∷ []) h
    (All-cons IsOwn (get_or text end 0) [] own (All-nil IsOwn)))

-- the first bytes are those from no place on
pub own-front : (count : ℕ) (text : List ℕ) → All IsOwn (take count text)
    → All IsOwn (part text 0 count)
own-front count text own = let all : count - 0 ≡ count = omega arith in rw all own

-- no byte is no other
pub none-own : (from : ℕ) (text : List ℕ) → All IsOwn (part text from from)
none-own from text = let none : from - from ≡ 0 = omega arith in rw none (All-nil IsOwn)

-- such bytes only join it
runs-own : (run : List ℕ) → All IsOwn run → Runs default_config st.InField run
unfolding Runs
runs-own [] h = tt
runs-own (c ∷ run) h =
    (step-own st.InField c (All-head IsOwn c run h) refl, runs-own run (All-tail IsOwn c run h))

-- the state before a field, of the first line of a text, that begins after so many bytes
abbrev pub state_before : ℕ → State
state_before zero = st.StartRecord
state_before (suc n) = st.StartField

-- csv reads the first line of a text so: it has read these fields of it, and goes on at this place
abbrev pub ReadsOnAt : List ℕ → ℕ → List (List ℕ) → Type 0
ReadsOnAt text at fields =
    (later : List ℕ) → next_record default_config st.StartRecord [] [] (text ++ later)
    ≡ next_record default_config (state_before at) fields [] (drop at text ++ later)

module _ (fields : List (List ℕ)) where
  -- the bytes of a field
  field-read : (n : ℕ) (c : ℕ) (run rest : List ℕ) → All IsOwn (c ∷ run)
      → next_record default_config (state_before n) fields [] ((c ∷ run) ++ rest)
      ≡ next_record default_config st.InField fields (c ∷ run) rest
  unfolding next_record
  field-read n c run rest h =
      rw (step-own (state_before n) c (All-head IsOwn c run h) (plain n), copies n)
      (run-copies default_config st.InField fields (c ∷ []) run rest
      (runs-own run (All-tail IsOwn c run h)))
    where
      plain : (n : ℕ) → is_plain (state_before n) ≡ true
      plain zero = refl
      plain (suc n) = refl

      copies : (n : ℕ) → after_copy (state_before n) ≡ st.InField
      copies zero = refl
      copies (suc n) = refl

  -- a field that a comma ends
  pub comma-read : (n : ℕ) (run rest : List ℕ) → All IsOwn run
      → next_record default_config (state_before n) fields [] (run ++ 44 ∷ rest)
      ≡ next_record default_config st.StartField (fields ++ run ∷ []) [] rest
  unfolding next_record
  comma-read n (c ∷ run) rest h = field-read n c run (44 ∷ rest) h
  comma-read zero [] rest h = refl
  comma-read (suc n) [] rest h = refl

  -- a field that ends with its line, which is more than an end
  pub line-read : (n : ℕ) (run rest : List ℕ) → 0 < n + length run → All IsOwn run
      → next_record default_config (state_before n) fields [] (run ++ 10 ∷ rest)
      ≡ Some (fields ++ run ∷ [], st.StartRecord, rest)
  unfolding next_record
  line-read n (c ∷ run) rest some h = field-read n c run (10 ∷ rest) h
  line-read zero [] rest some h = absurd (omega arith)
  line-read (suc n) [] rest some h = refl

module _ (text : List ℕ) (from to : ℕ) (fields : List (List ℕ)) (low : from ≤ to)
    (high : to < length text) where
  -- a text is read on by the place of a byte after those that were read
  at-part : (c : ℕ) → get_or text to 0 ≡ c → ReadsOnAt text from fields → (later : List ℕ)
      → next_record default_config st.StartRecord [] [] (text ++ later)
      ≡ next_record default_config (state_before from) fields []
      (part text from to ++ c ∷ (drop (to + 1) text ++ later))
  at-part c is h later =
      let at : from + (to - from) ≡ to = omega arith in
      h later
      ∙ ap (λ l. next_record default_config (state_before from) fields [] (l ++ later))
      (part-rest from (to - from) text
      ∙ ap (λ k. part text from to ++ drop k text) at
      ∙ ap (λ l. part text from to ++ l) (drop_more text to 0 high))
      ∙ ap (λ l. next_record default_config (state_before from) fields [] l)
      (append_assoc (part text from to) (get_or text to 0 ∷ drop (to + 1) text) later
      ∙ ap (λ b. part text from to ++ b ∷ (drop (to + 1) text ++ later)) is)

  -- one field more
  pub reads-field : get_or text to 0 ≡ 44 → All IsOwn (part text from to)
      → ReadsOnAt text from fields
      → ReadsOnAt text (to + 1) (fields ++ part text from to ∷ [])
  reads-field comma own h = λ later.
      let next : suc to ≡ to + 1 = omega arith in
      at-part 44 comma h later
      ∙ comma-read fields from (part text from to) (drop (to + 1) text ++ later) own
      ∙ ap (λ s. next_record default_config s (fields ++ part text from to ∷ []) []
      (drop (to + 1) text ++ later)) (ap state_before next)

  -- the last field of the line
  pub reads-line : 0 < to → get_or text to 0 ≡ 10 → All IsOwn (part text from to)
      → ReadsOnAt text from fields → (later : List ℕ)
      → next_record default_config st.StartRecord [] [] (text ++ later)
      ≡ Some (fields ++ part text from to ∷ [], st.StartRecord, drop (to + 1) text ++ later)
  reads-line some lf own h later =
      let size : length (part text from to) ≡ to - from =
      grind (arith, length-take, length-drop) in
      at-part 10 lf h later
      ∙ line-read fields from (part text from to) (drop (to + 1) text ++ later) (omega arith) own
