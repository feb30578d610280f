-- What the limit makes of a text at whose start a byte order mark may stand.
use Rattle.std.proofs.lemmas.Bool.{and_parts}
use Rattle.std.proofs.Math.Bool.{and-false}
use Rattle.mdb_records.proofs.Words.{◌<◌, length, ◌≡◌, ◌≤◌, ◌⊎◌, inl, inr, ℕ, zero, suc, Bool, List, [], ◌∷◌, ◌++◌, true, false, refl, ap, arith, eqb-true, All, if◌then◌else◌, All-cons, All-nil, is_bom, strip_bom, mark, marked, Gives, HasMark}

-- one more byte before the mark
pub gives-cons : (b : ℕ) (text given : List ℕ) → (given ≡ text) ⊎ HasMark text given
    → ((b ∷ given) ≡ (b ∷ text)) ⊎ HasMark (b ∷ text) (b ∷ given)
gives-cons b text given (inl e) = inl (ap (λ r. b ∷ r) e)
gives-cons b text given (inr m) = inr (b ∷ m.0, m.1, ap (λ r. b ∷ r) m.2, ap (λ r. b ∷ r) m.3)

-- the mark is put in or not
marked-gives : (left : ℕ) (text : List ℕ)
    → (marked left text ≡ text) ⊎ HasMark text (marked left text)
unfolding marked
marked-gives zero (b ∷ text) = inr ([], b ∷ text, refl, refl)
marked-gives (suc left) (b ∷ text) = gives-cons b text (marked left text) (marked-gives left text)
marked-gives left [] = inl refl

-- either way the text is given
pub whole : (text given : List ℕ) → (given ≡ text) ⊎ HasMark text given → Gives text given
whole text given (inl e) = inl e
whole text given (inr m) = inr (inl m)

-- the bytes of a byte order mark are above ASCII
bom-high : (a b c : ℕ) → is_bom a b c ≡ true → (128 ≤ a) × (128 ≤ b)
bom-high a b c e =
    let outer = and_parts _ _ e in
    let inner = and_parts _ _ outer.0 in
    let first : a ≡ 0xEF = eqb-true a 0xEF inner.0 in
    let second : b ≡ 0xBB = eqb-true b 0xBB inner.1 in
    (omega arith, omega arith)

-- a text that the limit leaves as it is up to its fourth byte
past-bom : (a b c left : ℕ) (rest : List ℕ) → (bom : Bool)
    → Gives (if bom then rest else a ∷ b ∷ c ∷ rest)
    (if bom then marked left rest else a ∷ b ∷ c ∷ marked left rest)
past-bom a b c left rest true = whole _ _ (marked-gives left rest)
past-bom a b c left rest false =
    whole _ _ (gives-cons a _ _ (gives-cons b _ _ (gives-cons c _ _ (marked-gives left rest))))

-- a text that the limit cuts before its fourth byte
at-bom : (before after rest given : List ℕ) → (bom : Bool)
    → (bom ≡ true → All (λ b. 128 ≤ b) before) → given ≡ before ++ mark ∷ after
    → Gives (if bom then rest else before ++ after) given
at-bom before after rest given true high e = inr (inr (before, after, high refl, e))
at-bom before after rest given false high e = inr (inl (before, after, refl, e))

-- what is given of a text with no byte order mark
pub gives-stripped : (limit : ℕ) (text : List ℕ)
    → Gives (strip_bom text) (strip_bom (marked limit text))
unfolding strip_bom marked
gives-stripped zero (a ∷ []) = inr (inl ([], a ∷ [], refl, refl))
gives-stripped zero (a ∷ b ∷ []) = inr (inl ([], a ∷ b ∷ [], refl, refl))
gives-stripped zero (a ∷ b ∷ c ∷ rest) =
    at-bom [] (a ∷ b ∷ c ∷ rest) rest _ (is_bom a b c) (λ _. All-nil (λ b. 128 ≤ b)) refl
gives-stripped (suc zero) (a ∷ b ∷ []) = inr (inl (a ∷ [], b ∷ [], refl, rw and-false refl))
gives-stripped (suc zero) (a ∷ b ∷ c ∷ rest) =
    at-bom (a ∷ []) (b ∷ c ∷ rest) rest _ (is_bom a b c)
    (λ e. All-cons (λ b. 128 ≤ b) a [] (bom-high a b c e).0 (All-nil (λ b. 128 ≤ b)))
    (rw and-false refl)
gives-stripped (suc (suc zero)) (a ∷ b ∷ c ∷ rest) =
    at-bom (a ∷ b ∷ []) (c ∷ rest) rest _ (is_bom a b c)
    (λ e. All-cons (λ b. 128 ≤ b) a (b ∷ []) (bom-high a b c e).0
    (All-cons (λ b. 128 ≤ b) b [] (bom-high a b c e).1 (All-nil (λ b. 128 ≤ b))))
    (rw and-false refl)
gives-stripped (suc (suc (suc limit))) (a ∷ b ∷ c ∷ rest) = past-bom a b c limit rest (is_bom a b c)
gives-stripped limit text = inl refl

-- no mark is put into a text within the limit
pub marked-within : (limit : ℕ) (text : List ℕ) → length text ≤ limit → marked limit text ≡ text
unfolding marked
marked-within zero (b ∷ text) h = absurd (omega arith)
marked-within (suc limit) (b ∷ text) h = ap (λ r. b ∷ r) (marked-within limit text (omega arith))
marked-within limit [] h = refl

-- the mark is put into a text that is longer than the limit
marked-over : (limit : ℕ) (text : List ℕ) → limit < length text
    → (before after : List ℕ) × (marked limit text ≡ before ++ mark ∷ after)
unfolding marked
marked-over limit [] h = absurd (omega arith)
marked-over zero (b ∷ text) h = ([], b ∷ text, refl)
marked-over (suc limit) (b ∷ text) h =
    let m = marked-over limit text (omega arith) in (b ∷ m.0, m.1, ap (λ r. b ∷ r) m.2)

-- the mark after the third byte
over-bom : (a b c limit : ℕ) (rest : List ℕ) → limit < length rest → (bom : Bool)
    → (before after : List ℕ)
    × ((if bom then marked limit rest else a ∷ b ∷ c ∷ marked limit rest)
    ≡ before ++ mark ∷ after)
over-bom a b c limit rest h true = marked-over limit rest h
over-bom a b c limit rest h false =
    let m = marked-over limit rest h in (a ∷ b ∷ c ∷ m.0, m.1, ap (λ r. a ∷ b ∷ c ∷ r) m.2)

-- and it stays where a byte order mark is taken off
pub stripped-over : (limit : ℕ) (text : List ℕ) → limit < length text
    → (before after : List ℕ) × (strip_bom (marked limit text) ≡ before ++ mark ∷ after)
unfolding strip_bom marked
stripped-over zero (a ∷ []) h = ([], a ∷ [], refl)
stripped-over zero (a ∷ b ∷ []) h = ([], a ∷ b ∷ [], refl)
stripped-over zero (a ∷ b ∷ c ∷ rest) h = ([], a ∷ b ∷ c ∷ rest, refl)
stripped-over (suc zero) (a ∷ b ∷ []) h = (a ∷ [], b ∷ [], rw and-false refl)
stripped-over (suc zero) (a ∷ b ∷ c ∷ rest) h = (a ∷ [], b ∷ c ∷ rest, rw and-false refl)
stripped-over (suc (suc zero)) (a ∷ b ∷ c ∷ rest) h = (a ∷ b ∷ [], c ∷ rest, rw and-false refl)
stripped-over (suc (suc (suc limit))) (a ∷ b ∷ c ∷ rest) h =
    over-bom a b c limit rest (omega arith) (is_bom a b c)
stripped-over limit text h = absurd (omega arith)
