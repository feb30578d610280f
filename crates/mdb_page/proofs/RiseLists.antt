-- How entries of rises are listed.
use Rattle.mdb_page.proofs.Words.{Account, AccountName, HasListed, IsRangeWithin, List, None, PageRise, Range, Report, RiseListing, SFits, Some, [], account_of, account_place, ap, append-nil, append_assoc, arith, cond, false, flat_map, flat_map_more, get_or, get_or-set_other, get_or-set_same, get_or_append_left, inl, inr, ints, length, length-append, length-set, neg_ℤ, negsuc, of_z, pos, refl, rise, rise_of, rises_in, set, subst, sym, take, take_all, take_more, to_z, to_z-of_z, true, w64, ℕ, ℤ, ◌++◌, ◌+◌, ◌-ℤ◌, ◌<◌, ◌^◌, ◌∙◌, ◌∷◌, ◌≡◌, ◌≤ℤ◌, ◌≤◌, ◌⊎◌}
use Rattle.std.proofs.Math.Seq.{get_or-append_seam}
use Rattle.std.specs.Ordering.{int_eq}
use Rattle.mdb_page.specs.Rises.{AreListed}
use Rattle.mdb_page.specs.inner.Rising.{Moves}
use Rattle.mdb_page.proofs.Ring.{less_or_not}

-- nothing is listed at first
pub starts_empty : (skip : ℕ) (before : List PageRise) → AreListed skip [] before before
starts_empty skip before = record {
  room = refl;
  put = λ place other within room. absurd (omega (arith, within));
  kept = λ place other past. refl;
}

-- one entry more, after all
one_longer : (all : List PageRise) (rise : PageRise) → length (all ++ rise ∷ []) ≡ length all + 1
one_longer all rise = length-append all (rise ∷ [])

module _ {skip : ℕ} {all before after : List PageRise} (rise : PageRise)
    (are : AreListed skip all before after) where
  -- one entry more is put at its place
  listed_at : (place : ℕ) → skip + place ≡ length all → place < length after
      → AreListed skip (all ++ rise ∷ []) before (set after place rise)
  listed_at place here inside = record {
    room = length-set after place rise ∙ are.room;
    put = λ at other within room. elim (less_or_not at place) [
      | inl less ↦
          get_or-set_other after place at rise other (λ same. omega (arith, same, less))
          ∙ (are.put at other (omega (arith, less, here)) room
          ∙ sym (get_or_append_left all (rise ∷ []) other (skip + at) (omega (arith, less, here))))
      | inr not ↦ put_here at other (omega (arith, not, within, here, one_longer all rise))
    ];
    kept = λ at other past.
        get_or-set_other after place at rise other
        (λ same. omega (arith, same, past, here, one_longer all rise))
        ∙ are.kept at other (omega (arith, past, one_longer all rise));
  }
    where
      put_here : (at : ℕ) (other : PageRise) → at ≡ place
          → get_or (set after place rise) at other
          ≡ get_or (all ++ rise ∷ []) (skip + at) other
      put_here at other same =
          rw same (get_or-set_same after place rise other inside
          ∙ (sym (get_or-append_seam all rise [] other)
          ∙ ap (λ n. get_or (all ++ rise ∷ []) n other) (sym here)))

  -- one entry more has no place: it is passed over, or there is no room
  listed_not : (length all < skip) ⊎ (skip + length after ≤ length all)
      → AreListed skip (all ++ rise ∷ []) before after
  listed_not out = record {
    room = are.room;
    put = λ at other within room.
        let earlier = older out at within room in
        are.put at other earlier room
        ∙ sym (get_or_append_left all (rise ∷ []) other (skip + at) earlier);
    kept = λ at other past. are.kept at other (omega (arith, past, one_longer all rise));
  }
    where
      older : (length all < skip) ⊎ (skip + length after ≤ length all) → (at : ℕ)
          → skip + at < length (all ++ rise ∷ []) → at < length before
          → skip + at < length all
      older (inl passed) at within room = omega (arith, one_longer all rise)
      older (inr full) at within room = omega (arith, are.room, one_longer all rise)

-- a listing puts one entry more, or not
module _ {skip : ℕ} {all before after : List PageRise} {listing next : RiseListing}
    (rise : PageRise) (has : HasListed skip all listing before after) where
  pub puts : (place : ℕ) → Moves (length after) listing next (Some place)
      → HasListed skip (all ++ rise ∷ []) next before (set after place rise)
  puts place moves = record {
    same = moves.same ∙ has.same;
    number = moves.counted ∙ (ap (λ n. n + 1) has.number ∙ sym (one_longer all rise));
    entries = listed_at rise has.entries place
        (omega (arith, moves.at.0, has.same, has.number)) moves.at.1;
  }

  pub puts_not : Moves (length after) listing next None
      → HasListed skip (all ++ rise ∷ []) next before after
  puts_not moves = record {
    same = moves.same ∙ has.same;
    number = moves.counted ∙ (ap (λ n. n + 1) has.number ∙ sym (one_longer all rise));
    entries = listed_not rise has.entries (elim moves.at [
      | inl passed ↦ inl (omega (arith, passed, has.same, has.number))
      | inr full ↦ inr (omega (arith, full, has.same, has.number))
    ]);
  }

-- What a row lists of a range.

-- a number so near to 0 is one of 64 bits
fits : (z : ℤ) → neg_ℤ (pos (2 ^ 62)) ≤ℤ z → z ≤ℤ pos (2 ^ 62) → SFits w64 z
fits (pos n) low high = record { sfits = omega (arith, ints) }
fits (negsuc n) low high = record { sfits = omega (arith, ints) }

-- an end less another
less : (end other : ℤ) → neg_ℤ (pos (2 ^ 60)) ≤ℤ end → end ≤ℤ pos (2 ^ 60)
    → neg_ℤ (pos (2 ^ 60)) ≤ℤ other → other ≤ℤ pos (2 ^ 60)
    → to_z w64 (of_z w64 (to_z w64 (of_z w64 end) -ℤ to_z w64 (of_z w64 other))) ≡ end -ℤ other
less end other low high other_low other_high =
    let one = fits end (omega (arith, ints)) (omega (arith, ints)) in
    let two = fits other (omega (arith, ints)) (omega (arith, ints)) in
    let both = fits (end -ℤ other) (omega (arith, ints)) (omega (arith, ints)) in
    rw (to_z-of_z w64 end one, to_z-of_z w64 other two) (to_z-of_z w64 (end -ℤ other) both)

-- the ends of a range less those of another
pub rises_so : (was is : Range) → IsRangeWithin (2 ^ 60) was → IsRangeWithin (2 ^ 60) is
    → record {
      least = to_z w64 (of_z w64 (to_z w64 (of_z w64 is.least) -ℤ to_z w64 (of_z w64 was.least)));
      greatest = to_z w64 (of_z w64
          (to_z w64 (of_z w64 is.greatest) -ℤ to_z w64 (of_z w64 was.greatest)));
    } ≡ rise was is
rises_so was is before after =
    let made : ℤ → ℤ → Range = λ l g. record { least = l; greatest = g } in
    ap (λ l. made l (to_z w64 (of_z w64
    (to_z w64 (of_z w64 is.greatest) -ℤ to_z w64 (of_z w64 was.greatest)))))
    (less is.least was.least after.least_low after.least_high before.least_low before.least_high)
    ∙ ap (λ g. made (is.least -ℤ was.least) g)
    (less is.greatest was.greatest after.greatest_low after.greatest_high before.greatest_low
    before.greatest_high)

-- what a rise is as a number of 64 bits
pub stays_so : (was is risen : Range) → IsRangeWithin (2 ^ 60) was → IsRangeWithin (2 ^ 60) is
    → risen ≡ rise was is → (to_z w64 (of_z w64 risen.least) ≡ risen.least)
    × (to_z w64 (of_z w64 risen.greatest) ≡ risen.greatest)
stays_so was is risen before after so =
    rw so (
      to_z-of_z w64 (is.least -ℤ was.least) (fits (is.least -ℤ was.least)
          (omega (arith, ints, after.least_low, before.least_high))
          (omega (arith, ints, after.least_high, before.least_low))),
      to_z-of_z w64 (is.greatest -ℤ was.greatest) (fits (is.greatest -ℤ was.greatest)
          (omega (arith, ints, after.greatest_low, before.greatest_high))
          (omega (arith, ints, after.greatest_high, before.greatest_low))),
    )

-- the entry of a range whose ends rose so
abbrev pub entry_of : ℕ → ℕ → ℕ → ℤ → ℤ → PageRise
entry_of number account side least greatest = record {
  row = number;
  least = least;
  greatest = greatest;
  account = account;
  side = side;
}

-- what is listed of a range that rose so
abbrev chosen : ℕ → ℕ → ℕ → Range → List PageRise
chosen number account side risen = cond (int_eq risen.least risen.greatest) []
    (entry_of number account side risen.least risen.greatest ∷ [])

-- what is listed of a range that rose so, or alike
abbrev IsListed : ℕ → List PageRise → RiseListing → List PageRise → List PageRise
    → List PageRise → Type 0
IsListed skip all listing before now its = HasListed skip (all ++ its) listing before now

module _ (number account side : ℕ) (was is risen : Range) (so : risen ≡ rise was is) where
  -- its ends rose differently
  pub lists_range : {skip : ℕ} {before now : List PageRise} {listing : RiseListing}
      {least greatest : ℤ} (all : List PageRise)
      → (least ≡ risen.least) × (greatest ≡ risen.greatest)
      → int_eq risen.least risen.greatest ≡ false
      → HasListed skip (all ++ entry_of number account side least greatest ∷ []) listing before now
      → HasListed skip (all ++ rise_of number account side was is) listing before now
  lists_range {skip} {before} {now} {listing} all ends differ has =
      let its = rw (ends.0, ends.1) at has in
      subst (λ range. IsListed skip all listing before now (chosen number account side range)) so
      (rw differ its)

  -- they rose alike
  pub lists_no_range : {skip : ℕ} {before now : List PageRise} {listing : RiseListing}
      (all : List PageRise) → int_eq risen.least risen.greatest ≡ true
      → HasListed skip all listing before now
      → HasListed skip (all ++ rise_of number account side was is) listing before now
  lists_no_range {skip} {before} {now} {listing} all alike has =
      subst (λ range. IsListed skip all listing before now (chosen number account side range)) so
      (rw (alike, append-nil all) has)

-- what is listed of both sides of an account is what a row lists of it
pub lists_account : {skip : ℕ} (all : List PageRise) {before now : List PageRise}
    {listing : RiseListing} (row place : ℕ) (last report : Report) (name : AccountName)
    (was is : Account)
    → was ≡ account_of name last → is ≡ account_of name report → row ≡ report.rows
    → place ≡ account_place name
    → HasListed skip ((all ++ rise_of row place 0 was.device is.device)
    ++ rise_of row place 1 was.controller is.controller) listing before now
    → HasListed skip (all ++ rises_in last report name) listing before now
lists_account {skip} all {before} {now} {listing} row place last report name was is was_so is_so
    row_so place_so has =
    rw (← was_so, ← is_so, ← row_so, ← place_so)
    (rw (append_assoc all (rise_of row place 0 was.device is.device)
    (rise_of row place 1 was.controller is.controller)) at has)

-- one account more
pub one_name_more : {skip : ℕ} (all : List PageRise) {before now : List PageRise}
    {listing : RiseListing} (made : AccountName → List PageRise) (names : List AccountName) (i : ℕ)
    (d : AccountName)
    (its : List PageRise) → i < length names → its ≡ made (get_or names i d)
    → HasListed skip ((all ++ flat_map made (take i names)) ++ its) listing before now
    → HasListed skip (all ++ flat_map made (take (i + 1) names)) listing before now
one_name_more {skip} all {before} {now} {listing} made names i d its below same has =
    rw (take_more names i d below)
    (rw (same, flat_map_more made all (take i names) (get_or names i d)) at has)

-- all accounts
pub all_names : {skip : ℕ} (all : List PageRise) {before now : List PageRise}
    {listing next : RiseListing} (made : AccountName → List PageRise) (names : List AccountName)
    (i : ℕ) → length names ≤ i
    → next.skip ≡ listing.skip → next.count ≡ listing.count
    → HasListed skip (all ++ flat_map made (take i names)) listing before now
    → HasListed skip (all ++ flat_map made names) next before now
all_names all made names i past skips counts has =
    let whole = rw (take_all i names past) at has in
    record {
      same = skips ∙ whole.same;
      number = counts ∙ whole.number;
      entries = whole.entries;
    }
