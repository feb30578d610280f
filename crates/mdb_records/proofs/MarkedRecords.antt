-- What csv reads from a text with the mark: the records before the mark, or a record that holds it.
use Rattle.mdb_records.proofs.Words.{◌≡◌, ◌≤◌, ◌<◌, ◌⊎◌, inl, inr, ℕ, Bool, List, [], ◌∷◌, ◌++◌, Option, Some, None, true, false, refl, sym, ap, arith, ◌∙◌, All, if◌then◌else◌, All-head, All-tail, Read, ends_at_end, field_after, fields_after, is_end, next_record, step, default_config, State, Action, mark, All-pop}
use Rattle.csv.specs.declared.parser.Config.{Config}
use Rattle.csv.specs.declared.parser.Action.TheVariants as act
use Rattle.mdb_records.proofs.StepFacts.{after_copy, inside-after_copy, inside-ends, is_inside, is_plain, plain-after_copy, step-copy, step-steps}

-- each number is a byte
abbrev pub IsBytes : List ℕ → Type 0
IsBytes bytes = All (λ b. b < 256) bytes

-- each field is of bytes
abbrev pub AreBytes : List (List ℕ) → Type 0
AreBytes fields = All (λ field. All (λ b. b < 256) field) fields

-- the last of such items, and those before it
pop : {X : Type 0} (P : X → Type 0) (xs : List X) (x : X) → All P (xs ++ x ∷ []) → All P xs × P x
pop P xs x h = All-pop P (xs ++ x ∷ []) xs (Some x) refl h

-- which of two it was that was read
pub chosen : (test : Bool) (x : Read) (other : Option Read) (p : Read)
    → (if test then Some x else other) ≡ Some p
    → ((test ≡ true) × (x ≡ p)) ⊎ ((test ≡ false) × (other ≡ Some p))
chosen true x other p e = inl (refl, cc)
chosen false x other p e = inr (refl, e)

-- where nothing was read
chosen-none : (test : Bool) (x : Read) (other : Option Read)
    → (if test then Some x else other) ≡ None → (test ≡ false) × (other ≡ None)
chosen-none true x other e = cc
chosen-none false x other e = (refl, e)

-- the fields before the byte that ends a record
bytes-at-end : (a : Action) (fields : List (List ℕ)) (field : List ℕ) → is_end a ≡ true
    → AreBytes (fields_after a fields field) → AreBytes fields × IsBytes field
bytes-at-end act.Skip fields field e h = cc
bytes-at-end act.Copy fields field e h = cc
bytes-at-end act.EndField fields field e h = cc
bytes-at-end act.EndRecord fields field e h = pop (All (λ b. b < 256)) fields field h

-- the fields before any other byte
bytes-before : (a : Action) (c : ℕ) (fields : List (List ℕ)) (field : List ℕ)
    → AreBytes (fields_after a fields field) × IsBytes (field_after a c field)
    → AreBytes fields × IsBytes field
bytes-before act.Skip c fields field h = h
bytes-before act.Copy c fields field h = (h.0, (pop (λ b. b < 256) field c h.1).0)
bytes-before act.EndField c fields field h = pop (All (λ b. b < 256)) fields field h.0
bytes-before act.EndRecord c fields field h = pop (All (λ b. b < 256)) fields field h.0

-- what is in a record stays in it, so where the record is of bytes its beginning was too
record-bytes : (cfg : Config) (s : State) (fields : List (List ℕ)) (field xs : List ℕ) (p : Read)
    → next_record cfg s fields field xs ≡ Some p
    → AreBytes p.0 → AreBytes fields × IsBytes field
unfolding next_record
record-bytes cfg s fields field [] p e h =
    elim (chosen (ends_at_end s) _ _ p e) [
      | inl q ↦ pop (All (λ b. b < 256)) fields field (rw (← q.1) at h)
      | inr q ↦ cc
    ]
record-bytes cfg s fields field (c ∷ xs) p e h =
    elim (chosen (is_end (step cfg s c).1) _ _ p e) [
      | inl q ↦ bytes-at-end (step cfg s c).1 fields field q.0 (rw (← q.1) at h)
      | inr q ↦ bytes-before (step cfg s c).1 c fields field
          (record-bytes cfg (step cfg s c).0 _ _ xs p q.1 h)
    ]

-- a byte that joins the field at hand
next-copy : (s : State) (fields : List (List ℕ)) (field : List ℕ) (c : ℕ) (rest : List ℕ) → 128 ≤ c
    → is_plain s ≡ true
    → next_record default_config s fields field (c ∷ rest)
    ≡ next_record default_config (after_copy s) fields (field ++ c ∷ []) rest
unfolding next_record
next-copy s fields field c rest h e = rw (step-copy s c h e) refl

-- the mark is in the record that is read from it on
mark-spoils : (s : State) (fields : List (List ℕ)) (field after : List ℕ) (p : Read)
    → is_plain s ≡ true
    → next_record default_config s fields field (mark ∷ after) ≡ Some p → AreBytes p.0 → ⊥
mark-spoils s fields field after p plain e h =
    let copied = sym (next-copy s fields field mark after (omega arith) plain) ∙ e in
    let all = record-bytes default_config _ _ _ after p copied h in
    let below : mark < 256 = (pop (λ b. b < 256) field mark all.1).1 in
    absurd (omega arith)

-- a record that has begun is given
begun-given : (s : State) (fields : List (List ℕ)) (field xs : List ℕ) → is_inside s ≡ true
    → is_plain s ≡ true
    → next_record default_config s fields field xs ≡ None → ⊥
unfolding next_record
begun-given s fields field [] inside plain e =
    let ended = chosen-none (ends_at_end s) _ _ e in
    cc (inside-ends s inside)
begun-given s fields field (c ∷ xs) inside plain e =
    let goes = chosen-none (is_end (step default_config s c).1) _ _ e in
    let steps = step-steps s c plain in
    begun-given (step default_config s c).0 _ _ xs (steps.stays goes.0 inside) steps.plain goes.1

-- there is a record at the mark or before it
pub marked-none : (s : State) (fields : List (List ℕ)) (field before after : List ℕ)
    → is_plain s ≡ true
    → next_record default_config s fields field (before ++ mark ∷ after) ≡ None → ⊥
unfolding next_record
marked-none s fields field [] after plain e =
    begun-given (after_copy s) fields (field ++ mark ∷ []) after (inside-after_copy s plain)
    (plain-after_copy s plain)
    (sym (next-copy s fields field mark after (omega arith) plain) ∙ e)
marked-none s fields field (c ∷ before) after plain e =
    let goes = chosen-none (is_end (step default_config s c).1) _ _ e in
    marked-none (step default_config s c).0 _ _ before after (step-steps s c plain).plain goes.1

-- a record of bytes ends before the mark, so the whole text has it too
pub marked-some : (s : State) (fields : List (List ℕ)) (field before after : List ℕ) (p : Read)
    → is_plain s ≡ true
    → next_record default_config s fields field (before ++ mark ∷ after) ≡ Some p → AreBytes p.0
    → (left : List ℕ) × (p.2 ≡ left ++ mark ∷ after)
    × (next_record default_config s fields field (before ++ after)
    ≡ Some (p.0, p.1, left ++ after))
unfolding next_record
marked-some s fields field [] after p plain e h =
    absurd (mark-spoils s fields field after p plain e h)
marked-some s fields field (c ∷ before) after p plain e h =
    elim (chosen (is_end (step default_config s c).1) _ _ p e) [
      | inl q ↦ (
        before,
        sym (ap (λ (r : Read). r.2) q.1),
        rw q.0 (ap (λ (r : Read). Some (r.0, r.1, before ++ after)) q.1),
      )
      | inr q ↦
          let next = (step default_config s c).0 in
          let more = marked-some next _ _ before after p (step-steps s c plain).plain q.1 h in
          (more.0, more.1, rw q.0 more.2)
    ]

-- after bytes above ASCII alone every record holds the mark
pub cut-some : (s : State) (fields : List (List ℕ)) (field before after : List ℕ) (p : Read)
    → is_plain s ≡ true → All (λ b. 128 ≤ b) before
    → next_record default_config s fields field (before ++ mark ∷ after) ≡ Some p → AreBytes p.0 → ⊥
cut-some s fields field [] after p plain high e h = mark-spoils s fields field after p plain e h
cut-some s fields field (c ∷ before) after p plain high e h =
    let first = All-head (λ b. 128 ≤ b) c before high in
    cut-some (after_copy s) fields (field ++ c ∷ []) before after p (plain-after_copy s plain)
    (All-tail (λ b. 128 ≤ b) c before high)
    (sym (next-copy s fields field c (before ++ mark ∷ after) first plain) ∙ e) h
