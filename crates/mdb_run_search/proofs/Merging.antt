-- Lists of marks as one: it has their elements, and it rises where they do.
use Rattle.mdb_run_search.proofs.Words.{ap, arith, refl, sym, ◌≡◌, ◌⊎◌, inl, inr, ℕ, ◌+◌, ◌<◌, ◌≤◌, List, [], ◌∷◌, get_or, All, Contains, if◌then◌else◌, false_from_ne_true, Contains-get_or, Device, same_device, device_place, below, earlier, same_or_not, Mark, Rise, IsMergeOf, IsOfBoth, Merges, of_one, of_other, contains-cases, contains-here, contains-none, contains-there, AreApart, IsFront, IsMergeBelow, is_one, says}
use Rattle.mdb_run_search.specs.inner.Merges.{nothing}
use Rattle.mdb_run_search.proofs.MarkedRuns.{later_in, rise_cases}

-- the two lists can change places
turned : {one other both : List (ℕ × Mark)} → Merges one other both → Merges other one both
turned nothing = nothing
turned (of_one mark ones others rest front is) = of_other mark others ones rest front (turned is)
turned (of_other mark ones others rest front is) = of_one mark others ones rest front (turned is)

-- what is in the one is in both
from_one : {one other both : List (ℕ × Mark)} → Merges one other both → (mark : ℕ × Mark)
    → Contains one mark → Contains both mark
from_one nothing mark has = has
from_one (of_one first ones others rest front is) mark has =
    grind (
      arith,
      contains-cases first ones mark has,
      from_one is mark,
      contains-here first rest mark,
      contains-there first rest mark,
    )
from_one (of_other first ones others rest front is) mark has =
    contains-there first rest mark (from_one is mark has)

-- and nothing else, but for what is in the other
from_some : {one other both : List (ℕ × Mark)} → Merges one other both → (mark : ℕ × Mark)
    → Contains both mark → Contains one mark ⊎ Contains other mark
from_some nothing mark has = inl has
from_some (of_one first ones others rest front is) mark has =
    grind (arith, contains-cases, from_some is mark, contains-here, contains-there)
from_some (of_other first ones others rest front is) mark has =
    grind (arith, contains-cases, from_some is mark, contains-here, contains-there)

-- a row that is at most that of the first of marks that rise is at most that of each
at_most : (mark later : ℕ × Mark) (others : List (ℕ × Mark)) → Rise others → IsFront mark others
    → Contains others later → mark.0 ≤ later.0
at_most mark later [] rise front has = absurd (contains-none later has)
at_most mark later (first ∷ others) rise front has =
    grind (arith, rise_cases first later others rise has, front)

-- a mark stands before all that it goes before, where no other has its row
goes_first : (mark : ℕ × Mark) (one other : List (ℕ × Mark)) {both : List (ℕ × Mark)}
    → Merges one other both → Rise (mark ∷ one) → Rise other → IsFront mark other
    → AreApart (mark ∷ one) other → All (λ later. mark.0 < later.0) both
goes_first mark one other {both} is rise also front apart k d inside =
    let later = get_or both k d in
    grind (
      arith,
      from_some is later (Contains-get_or both k d inside),
      later_in mark later one rise,
      at_most mark later other also front,
      apart mark later (contains-here mark one mark refl),
    )

-- they are one list that rises, where both do and are apart
rises : {one other both : List (ℕ × Mark)} → Merges one other both → Rise one → Rise other
    → AreApart one other → Rise both
rises nothing rise also apart = tt
rises (of_one mark ones others rest front is) rise also apart = (
  goes_first mark ones others is rise also front apart,
  rises is rise.1 also (λ m next has. apart m next (contains-there mark ones m has)),
)
rises (of_other mark ones others rest front is) rise also apart = (
  goes_first mark others ones (turned is) also rise front
      (λ m next has its same. apart next m its has (sym same)),
  rises is rise also.1 (λ m next has its. apart m next has (contains-there mark others next its)),
)

-- so two lists become one that is of both
pub of_both : {one other both : List (ℕ × Mark)} → Merges one other both → IsOfBoth one other both
of_both is =
    record {
      ones = from_one is;
      others = from_one (turned is);
      some = from_some is;
      rise = rises is;
    }

-- the marks of a device in place of those that it has
abbrev pub with_own : Device → List (ℕ × Mark) → (Device → List (ℕ × Mark)) → Device
    → List (ℕ × Mark)
with_own next own all device = if same_device device next then own else all device

-- no device has a place below 0
pub merged_none : (all : Device → List (ℕ × Mark)) → IsMergeBelow 0 all []
merged_none all = record {
  own = λ device less mark has. absurd (omega (arith, less));
  some = λ mark has. absurd (contains-none mark has);
  rise = λ rise apart. tt;
}

module _ (next : Device) (own : List (ℕ × Mark)) (all : Device → List (ℕ × Mark)) where
  pub its_own : (device : Device) → device ≡ next → with_own next own all device ≡ own
  its_own device same = rw ((says device next).1 same)

  pub anothers : (device : Device) → (device ≡ next → ⊥)
      → with_own next own all device ≡ all device
  anothers device apart =
      rw (false_from_ne_true (same_device device next) (λ same. apart (is_one device next same)))

  module _ (count : ℕ) (at : device_place next ≡ count) where
    -- a device whose place is below that of another isn't that one
    pub not_next : (device : Device) → device_place device < count → device ≡ next → ⊥
    not_next device less same = let place = ap device_place same in omega (arith, at, less, place)

    -- so it has what it had
    was : (device : Device) → device_place device < count
        → with_own next own all device ≡ all device
    was device less = anothers device (not_next device less)

    -- with the marks of the next device, all are those of one device more
    pub merged_more : (marks both : List (ℕ × Mark)) → IsMergeBelow count all marks
        → IsOfBoth marks own both → IsMergeBelow (count + 1) (with_own next own all) both
    merged_more marks both merge is = record {
      own = λ device less mark has. elim (same_or_not device next) [
        | inl same ↦ is.others mark (rw (its_own device same) at has)
        | inr apart ↦ is.ones mark (merge.own device (earlier count next device at less apart) mark
            (rw (anothers device apart) at has))
      ];
      some = λ mark has. elim (is.some mark has) [
        | inl before ↦
            let found = merge.some mark before in
            (found.0, omega (arith, found.1), rw (was found.0 found.1) found.2)
        | inr its ↦ (next, omega (arith, at), rw (its_own next refl) its)
      ];
      rise = λ rise apart.
          let last : device_place next < count + 1 = omega (arith, at) in
          is.rise
          (merge.rise (λ device less. rw (was device less) at (rise device (omega (arith, less))))
          (λ one other less also differ mark following has its.
          apart one other (omega (arith, less)) (omega (arith, also)) differ mark following
          (rw (was one less) has) (rw (was other also) its)))
          (rw (its_own next refl) at (rise next last))
          (λ mark following has its.
          let found = merge.some mark has in
          apart found.0 next (omega (arith, found.1)) last (not_next found.0 found.1) mark following
          (rw (was found.0 found.1) found.2) (rw (its_own next refl) its));
    }

module _ (all : Device → List (ℕ × Mark)) (marks : List (ℕ × Mark)) where
  -- no device has a place above the last
  pub merged_enough : (count : ℕ) → 4 ≤ count → IsMergeBelow count all marks
      → IsMergeBelow 4 all marks
  merged_enough count enough is = record {
    own = λ device less. is.own device (omega (arith, less, enough));
    some = λ mark has. let found = is.some mark has in (found.0, below found.0, found.2);
    rise = λ rise apart. is.rise (λ device less. rise device (below device))
        (λ one other less also. apart one other (below one) (below other));
  }

  -- the marks of all devices are one list
  pub all_merged : ((device : Device) → Rise (all device))
      → ((one other : Device) → (one ≡ other → ⊥) → AreApart (all one) (all other))
      → IsMergeBelow 4 all marks → IsMergeOf all marks
  all_merged rise apart is = record {
    rise = is.rise (λ device less. rise device) (λ one other less also. apart one other);
    own = λ device. is.own device (below device);
    some = λ mark has. let found = is.some mark has in (found.0, found.2);
  }
