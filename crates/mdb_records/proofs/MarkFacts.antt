-- How a limited reader's reads follow the text with the mark.
use Rattle.mdb_records.proofs.Words.{◌≡◌, ◌≤◌, ◌<◌, ◌+◌, ◌-◌, ℕ, zero, suc, List, [], ◌∷◌, ◌++◌, take, length, Option, Some, None, false, refl, sym, ap, arith, ◌∙◌, get_or, take-append-le, is_some, Consumes, IsAtEnd, Keeps, prepend_known, given_of, mark, marked}
use Rattle.std.proofs.lemmas.List.{length-take}

-- there is no mark at the end
marked-nil : (left : ℕ) → marked left [] ≡ []
unfolding marked
marked-nil zero = refl
marked-nil (suc left) = refl

-- bytes before the limit
marked-append : (bs rest : List ℕ) (left after : ℕ) → left ≡ length bs + after
    → marked left (bs ++ rest) ≡ bs ++ marked after rest
unfolding marked
marked-append [] rest left after e =
    let same : left ≡ after = omega arith in ap (λ n. marked n rest) same
marked-append (b ∷ bs) rest zero after e = absurd (omega arith)
marked-append (b ∷ bs) rest (suc left) after e =
    ap (λ r. b ∷ r) (marked-append bs rest left after (omega arith))

-- bytes before the limit, where the bytes are known
consumes-marked : (old new : Option (List ℕ)) (bs : List ℕ) (left after : ℕ) (held : Option ℕ)
    → is_some held ≡ false → left ≡ length bs + after
    → Consumes old new bs → Consumes (given_of old left held) (given_of new after held) bs
consumes-marked old new bs left after (Some b) unheld e h = cc
consumes-marked None new bs left after None unheld e h = tt
consumes-marked (Some xs) None bs left after None unheld e h = h
consumes-marked (Some xs) (Some ys) bs left after None unheld e h =
    ap (marked left) h ∙ marked-append bs ys left after e

-- the end, where the bytes are known
end-marked : (new : Option (List ℕ)) (left : ℕ) (held : Option ℕ) → is_some held ≡ false
    → IsAtEnd new → IsAtEnd (given_of new left held)
end-marked new left (Some b) unheld h = cc
end-marked None left None unheld h = tt
end-marked (Some xs) left None unheld h = ap (marked left) h ∙ marked-nil left

-- the mark stands before the first byte past the limit
marked-at-limit : (b : ℕ) (rest : List ℕ) (left : ℕ) → left ≡ 0
    → marked left (b ∷ rest) ≡ mark ∷ b ∷ rest
unfolding marked
marked-at-limit b rest zero e = refl
marked-at-limit b rest (suc left) e = absurd (omega arith)

-- the byte that is held is put back after the mark
keeps-held : (old new : Option (List ℕ)) (left : ℕ) (held : Option ℕ) (b : ℕ) → is_some held ≡ false
    → left ≡ 0
    → Consumes old new (b ∷ []) → Keeps (given_of old left held) (prepend_known (mark ∷ b ∷ []) new)
keeps-held old new left (Some c) b unheld e h = cc
keeps-held None new left None b unheld e h = tt
keeps-held (Some xs) None left None b unheld e h = h
keeps-held (Some xs) (Some ys) left None b unheld e h =
    sym (ap (marked left) h ∙ marked-at-limit b ys left e)

-- a read of one byte
one-taken : (given : ℕ) (part : List ℕ) → (given ≡ 0 → ⊥) → given ≤ length part → length part ≡ 1
    → take given part ≡ get_or part 0 0 ∷ []
one-taken given [] some fits one = absurd (omega arith)
one-taken given (b ∷ c ∷ rest) some fits one = absurd (omega arith)
one-taken given (b ∷ []) some fits one = let single : given ≡ 1 = omega arith in rw single refl

-- a read of the reader below
module _ (old new : Option (List ℕ)) (left given : ℕ) (held : Option ℕ) (part : List ℕ)
    (unheld : is_some held ≡ false)
    (read : Consumes old new (take given part) × (given ≡ 0 → 0 < length part → IsAtEnd new)) where
  -- one under the limit
  pub under-limit : (tail : List ℕ) → given ≤ length part → given ≤ left → 0 < length part
      → Consumes (given_of old left held) (given_of new (left - given) held)
      (take given (part ++ tail))
      × (given ≡ 0 → 0 < length (part ++ tail) → IsAtEnd (given_of new (left - given) held))
  under-limit tail fits low some =
      let first = take-append-le given part tail fits in
      let size = length-take given part in (
        rw first (consumes-marked old new (take given part) left (left - given) held unheld
            (omega arith) read.0),
        λ none _. end-marked new (left - given) held unheld (read.1 none some),
      )

  -- the end of the text at the limit
  pub end-at-limit : (size : ℕ) → given ≡ 0 → 0 < length part
      → Consumes (given_of old left held) (given_of new left held) []
      × (◌≡◌ {A = ℕ} 0 0 → 0 < size → IsAtEnd (given_of new left held))
  end-at-limit size none some =
      let none_taken : take given part ≡ [] = rw none refl in (
        consumes-marked old new [] left left held unheld (omega arith) (rw none_taken at read.0),
        λ _ _. end-marked new left held unheld (read.1 none some),
      )

  -- a byte past the limit is held
  pub past-limit : left ≡ 0 → (given ≡ 0 → ⊥) → given ≤ length part → length part ≡ 1
      → Keeps (given_of old left held) (prepend_known (mark ∷ get_or part 0 0 ∷ []) new)
  past-limit e some fits one =
      keeps-held old new left held (get_or part 0 0) unheld e
      (rw (one-taken given part some fits one) at read.0)
