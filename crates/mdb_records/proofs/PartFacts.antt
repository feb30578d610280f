-- The parts of a text, one more, and the one at a place.
use Rattle.mdb_records.proofs.Words.{◌≡◌, ◌≤◌, ◌<◌, ◌+◌, ◌-◌, ℕ, zero, suc, List, [], ◌∷◌, ◌++◌, take, drop, get_or, length, None, Some, refl, ap, arith, IsSome, field_at, AreWithin, parted, start_at, reader_in, ends_on, line_on, Stage}
use Rattle.mdb_records.specs.declared.stage.Stage.TheVariants.{Between, Csv, Lines}

-- where the part after those begins that end at these places
unfoldable pub next_start : ℕ → List ℕ → ℕ
next_start start [] = start
next_start start (end ∷ ends) = next_start (end + 1) ends

-- one part more
pub parted-more : (start : ℕ) (ends : List ℕ) (end : ℕ) (text : List ℕ)
    → parted start (ends ++ end ∷ []) text
    ≡ parted start ends text
    ++ take (end - next_start start ends) (drop (next_start start ends) text) ∷ []
unfolding parted next_start
parted-more start [] end text = refl
parted-more start (e ∷ ends) end text =
    ap (λ l. take (e - start) (drop start text) ∷ l) (parted-more (e + 1) ends end text)

-- and where the next one begins
pub next-after : (start : ℕ) (ends : List ℕ) (end : ℕ)
    → next_start start (ends ++ end ∷ []) ≡ end + 1
unfolding next_start
next-after start [] end = refl
next-after start (e ∷ ends) end = next-after (e + 1) ends end

-- there are as many parts as places
pub length-parted : (start : ℕ) (ends text : List ℕ) → length (parted start ends text) ≡ length ends
unfolding parted
length-parted start [] text = refl
length-parted start (e ∷ ends) text = ap suc (length-parted (e + 1) ends text)

-- no part stands past the last place
pub none-at : (start : ℕ) (ends text : List ℕ) (place : ℕ) → length ends ≤ place
    → None ≡ field_at (parted start ends text) place
unfolding parted field_at
none-at start [] text place h = refl
none-at start (e ∷ ends) text zero h = absurd (omega arith)
none-at start (e ∷ ends) text (suc place) h = none-at (e + 1) ends text place (omega arith)

-- the part at a place
pub part-at : (start : ℕ) (ends text : List ℕ) (place : ℕ) → place < length ends
    → Some (take (get_or ends place 0 - start_at start ends place)
    (drop (start_at start ends place) text)) ≡ field_at (parted start ends text) place
unfolding parted field_at
part-at start [] text place h = absurd (omega arith)
part-at start (e ∷ ends) text zero h = refl
part-at start (e ∷ ends) text (suc zero) h = part-at (e + 1) ends text zero (omega arith)
part-at start (e ∷ ends) text (suc (suc place)) h =
    part-at (e + 1) ends text (suc place) (omega arith)

-- where it begins, if it isn't the first
pub start-after : (ends : List ℕ) (place : ℕ) → 0 < place
    → start_at 0 ends place ≡ get_or ends (place - 1) 0 + 1
start-after ends zero h = absurd (omega arith)
start-after ends (suc place) h = let same : suc place - 1 ≡ place = omega arith in rw same refl

-- no parts lie within anything
pub none_within : (size : ℕ) → AreWithin [] size
none_within size place inside = absurd (omega arith)

-- and they lie within more bytes too
pub within-more : (ends : List ℕ) (size more : ℕ) → AreWithin ends size → size ≤ more
    → AreWithin ends more
within-more ends size more h below place inside =
    let at = h place inside in (at.0, omega (arith, at.1))

-- the parts from a start on lie within so many bytes
abbrev pub LiesWithin : ℕ → List ℕ → ℕ → Type 0
LiesWithin start ends size = (place : ℕ) → place < length ends
    → (start_at start ends place ≤ get_or ends place 0) × (get_or ends place 0 < size)

-- and so they do with one part more
pub within-push : (start : ℕ) (ends : List ℕ) (end : ℕ) → LiesWithin start ends end
    → next_start start ends ≤ end → LiesWithin start (ends ++ end ∷ []) (end + 1)
unfolding next_start
within-push start [] end h low zero inside = (low, omega arith)
within-push start [] end h low (suc place) inside = absurd (omega arith)
within-push start (e ∷ ends) end h low zero inside =
    let at = h zero (omega arith) in (at.0, omega (arith, at.1))
within-push start (e ∷ ends) end h low (suc place) inside =
    let rest = within-push (e + 1) ends end (behind e ends end h) low place (omega arith) in
    (begins place rest.0, rest.1)
  where
    behind : (e : ℕ) (ends : List ℕ) (end : ℕ) → LiesWithin start (e ∷ ends) end
        → LiesWithin (e + 1) ends end
    behind e ends end h zero inside = h 1 (omega arith)
    behind e ends end h (suc place) inside = h (suc (suc place)) (omega arith)

    begins : (place : ℕ) → start_at (e + 1) (ends ++ end ∷ []) place
        ≤ get_or (ends ++ end ∷ []) place 0
        → start_at start (e ∷ (ends ++ end ∷ [])) (suc place) ≤ get_or (ends ++ end ∷ []) place 0
    begins zero h = h
    begins (suc place) h = h

-- where csv reads, no line was taken
pub csv-within : {R : Type 0} (stage : Stage R) (ends : List ℕ) → IsSome (reader_in stage)
    → AreWithin (ends_on stage ends) (length (line_on stage))
csv-within (Lines lines) ends h = cc h
csv-within (Csv reader before) ends h = none_within 0
csv-within Between ends h = cc h
