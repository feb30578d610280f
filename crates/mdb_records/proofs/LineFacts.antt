-- What a reader of lines takes and gives, where the bytes below it are known.
use Rattle.mdb_records.proofs.Words.{◌≡◌, ◌≤◌, ◌<◌, ◌+◌, ◌-◌, ℕ, Bool, true, false, List, [], ◌∷◌, ◌++◌, take, drop, length, Option, Some, None, refl, sym, ap, arith, ◌∙◌, append_assoc, length-take-le, drop-drop, take-append-drop, take-take, IfSome, ◌==◌, option_map, slice_set, Consumes, IsAtEnd, Keeps, prepend_known, nat_tests, drop-take, take-append-le, next_record, default_config, strip_bom, TakesLine, end_of_last, BeginsLow, HasFront}
use Rattle.std.proofs.Math.Seq.{take-append-add}
use Rattle.csv.specs.declared.parser.State.TheVariants as st
use Rattle.mdb_records.specs.declared.plain.Front.TheVariants as front
use Rattle.mdb_records.proofs.RowFacts.{after-line}

-- no byte order mark begins with a byte of ASCII
pub strip-low : (c : ℕ) (text : List ℕ) → c < 128 → strip_bom (c ∷ text) ≡ c ∷ text
unfolding strip_bom
strip-low c [] h = refl
strip-low c (a ∷ []) h = refl
strip-low c (a ∷ b ∷ text) h = let no : (c == 0xEF) ≡ false = grind (arith, nat_tests) in rw no refl

-- nor with the end of a line
strip-line : (text : List ℕ) → strip_bom (10 ∷ text) ≡ 10 ∷ text
strip-line text = strip-low 10 text (omega arith)

-- a line at the front of what is unread is taken
pub takes-line : (begun : Bool) (text : List ℕ) (count : ℕ) (fields : List (List ℕ))
    (known : Option (List ℕ))
    → (begun ≡ false → BeginsLow text) → HasFront text (front.Line count) fields
    → TakesLine
    (option_map strip_bom (prepend_known (end_of_last begun) (prepend_known text known)))
    (option_map strip_bom
    (prepend_known (end_of_last true) (prepend_known (drop count text) known))) fields
unfolding next_record
takes-line begun text count fields None low h = tt
takes-line true text count fields (Some later) low h = (
  drop count text ++ later,
  strip-line _,
  ap (next_record default_config st.StartRecord [] []) (strip-line (text ++ later))
      ∙ after-line (text ++ later) ∙ h.1 later,
)
takes-line false [] count fields (Some later) low h = let none = h.1 [] in absurd cc
takes-line false (c ∷ text) count fields (Some later) low h = (
  drop count (c ∷ text) ++ later,
  strip-line _,
  ap (next_record default_config st.StartRecord [] [])
      (strip-low c (text ++ later) (low refl)) ∙ h.1 later,
)

-- what is unread after a part of it was taken
pub unread-dropped : (at filled count : ℕ) (buffer : List ℕ) → count ≤ filled - at
    → drop count (take (filled - at) (drop at buffer))
    ≡ take (filled - (at + count)) (drop (at + count) buffer)
unread-dropped at filled count buffer h =
    let whole : filled - at ≡ count + (filled - (at + count)) = omega arith in
    ap (λ n. drop count (take n (drop at buffer))) whole
    ∙ drop-take count (filled - (at + count)) (drop at buffer)
    ∙ ap (take (filled - (at + count))) (drop-drop count at buffer)

-- bytes that were read stand after what is unread
pub filled-keeps : (begun : Bool) (unread got : List ℕ) (old new : Option (List ℕ))
    → Consumes old new got
    → Keeps (option_map strip_bom (prepend_known (end_of_last begun) (prepend_known unread old)))
    (option_map strip_bom (prepend_known (end_of_last begun) (prepend_known (unread ++ got) new)))
filled-keeps begun unread got None new h = tt
filled-keeps begun unread got (Some xs) None h = h
filled-keeps begun unread got (Some xs) (Some ys) h = rw (h, append_assoc unread got ys) refl

-- they do so where they were read into the buffer
pub filled-unread : (filled count : ℕ) (buffer got rest : List ℕ) → filled ≤ length buffer
    → count ≤ length got
    → take (filled + count) (take filled buffer ++ (got ++ rest))
    ≡ take filled buffer ++ take count got
filled-unread filled count buffer got rest fits low =
    ap (λ n. take (n + count) (take filled buffer ++ (got ++ rest)))
    (sym (length-take-le filled buffer fits))
    ∙ take-append-add (take filled buffer) (got ++ rest) count
    ∙ ap (λ l. take filled buffer ++ l) (take-append-le count got rest low)

-- what is copied of the unread bytes is their front
pub copied-front : (at filled count : ℕ) (buffer got rest : List ℕ) → count ≤ filled - at
    → count ≤ length got
    → got ≡ take (at + count - at) (drop at buffer)
    → take count (got ++ rest) ≡ take count (take (filled - at) (drop at buffer))
copied-front at filled count buffer got rest low long e =
    let same : at + count - at ≡ count = omega arith in
    take-append-le count got rest long
    ∙ ap (take count) (e ∙ ap (λ n. take n (drop at buffer)) same)
    ∙ take-take count count (drop at buffer) (omega arith)
    ∙ sym (take-take count (filled - at) (drop at buffer) low)

-- no record comes at the end of a text, be it after a line
pub ends-text : (begun : Bool) (before : Option (List ℕ)) (known : Option (List ℕ)) → IsAtEnd known
    → Keeps before
    (option_map strip_bom (prepend_known (end_of_last begun) (prepend_known [] known)))
    → IfSome before (λ given. next_record default_config st.StartRecord [] [] given ≡ None)
unfolding next_record strip_bom
ends-text begun None known h k = tt
ends-text begun (Some given) None h k = absurd k
ends-text true (Some given) (Some rest) h k = rw (sym k, h) refl
ends-text false (Some given) (Some rest) h k = rw (sym k, h) refl

-- the end of the last line is given first
pub gives-end : (known : Option (List ℕ)) (buf : List ℕ) → 0 < length buf
    → Consumes (prepend_known (end_of_last true) known) (prepend_known (end_of_last false) known)
    (take 1 (slice_set buf 0 10))
gives-end None buf h = tt
gives-end (Some xs) [] h = absurd (omega arith)
gives-end (Some xs) (b ∷ buf) h = refl

-- then what is unread
pub gives-unread : (unread : List ℕ) (count : ℕ) (known : Option (List ℕ))
    → Consumes (prepend_known (end_of_last false) (prepend_known unread known))
    (prepend_known (end_of_last false) (prepend_known (drop count unread) known))
    (take count unread)
gives-unread unread count None = tt
gives-unread unread count (Some xs) =
    ap (λ l. l ++ xs) (sym (take-append-drop count unread))
    ∙ append_assoc (take count unread) (drop count unread) xs

-- and then what the reader underneath gives
pub gives-below : (known : Option (List ℕ))
    → prepend_known (end_of_last false) (prepend_known [] known) ≡ known
gives-below None = refl
gives-below (Some xs) = refl
