-- How a line ends.
use Rattle.mdb_page.proofs.Words.{List, MatchOption, None, Option, Some, [], ap, arith, get_or, get_or_past, length, length-append, same_from_push, sym, ℕ, ◌++◌, ◌∙◌, ◌∷◌, ◌≡◌, ◌≢◌, ◌≤◌}

-- no CR ends a line that another byte ends
pub other_end : (line front : List ℕ) (byte : ℕ) → line ≡ front ++ byte ∷ [] → byte ≢ 13
    → (bare : List ℕ) → line ≡ bare ++ 13 ∷ [] → ⊥
other_end line front byte is other bare returned =
    other (same_from_push front bare byte 13 (sym is ∙ returned)).1

-- no CR ends a line without bytes
pub no_end_of_none : (line : List ℕ) → length line ≡ 0 → (bare : List ℕ) → line ≡ bare ++ 13 ∷ []
    → ⊥
no_end_of_none line none bare is = omega (arith, none, ap length is, length-append bare (13 ∷ []))

-- what is told where no value is
pub none_told : {X N : Type 0} (S : X → Type 0) (found : Option X) → MatchOption found N S
    → found ≡ None → N
none_told S None told is = told
none_told S (Some x) told is = absurd cc

-- the third byte of a text that has fewer
pub no_third : (text : List ℕ) → (3 ≤ length text → ⊥) → get_or text 2 0 ≡ 191 → ⊥
no_third text few is =
    let none = get_or_past text 2 0 (omega (arith, few)) in omega (arith, none, is)
