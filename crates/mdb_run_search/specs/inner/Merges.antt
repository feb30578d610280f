-- How lists of marks become one list whose rows rise. This serves private functions.
use Rattle.std.specs.Prelude.{◌≡◌, ◌⊎◌, ℕ, ◌≤◌, ◌<◌, List, [], ◌∷◌, Contains}
use Rattle.mdb_msgs.specs.declared.command.Device.{Device}
use Rattle.mdb_follow.specs.ReportedDevices.{device_place}
use Rattle.mdb_run_search.specs.declared.mark.Mark.{Mark}
use Rattle.mdb_run_search.specs.Marks.{Rise}

-- the row of a mark is at most that of the first of others
abbrev pub IsFront : ℕ × Mark → List (ℕ × Mark) → Type 0
IsFront mark [] = Unit {0}
IsFront mark (first ∷ others) = mark.0 ≤ first.0

-- Two lists of marks become one: of the first marks of both, one whose row is the least goes first.
pub data Merges : List (ℕ × Mark) → List (ℕ × Mark) → List (ℕ × Mark) → Type 0 where
  nothing : Merges [] [] []
  of_one : (mark : ℕ × Mark) (one other both : List (ℕ × Mark)) → IsFront mark other
      → Merges one other both → Merges (mark ∷ one) other (mark ∷ both)
  of_other : (mark : ℕ × Mark) (one other both : List (ℕ × Mark)) → IsFront mark one
      → Merges one other both → Merges one (mark ∷ other) (mark ∷ both)

-- no row has a mark in both lists
abbrev pub AreApart : List (ℕ × Mark) → List (ℕ × Mark) → Type 0
AreApart one other =
    (mark next : ℕ × Mark) → Contains one mark → Contains other next → mark.0 ≡ next.0 → ⊥

-- A list has the marks of two and no others, and its rows rise where those of both do and no row is
-- in both.
pub record IsOfBoth (one other both : List (ℕ × Mark)) : Type 0 where
  pub ones : (mark : ℕ × Mark) → Contains one mark → Contains both mark
  pub others : (mark : ℕ × Mark) → Contains other mark → Contains both mark
  pub some : (mark : ℕ × Mark) → Contains both mark → Contains one mark ⊎ Contains other mark
  pub rise : Rise one → Rise other → AreApart one other → Rise both

-- The marks of all devices as one list, whose rows rise.
pub record IsMergeOf (all : Device → List (ℕ × Mark)) (marks : List (ℕ × Mark)) : Type 0 where
  pub rise : Rise marks
  pub own : (device : Device) (mark : ℕ × Mark) → Contains (all device) mark
      → Contains marks mark
  pub some : (mark : ℕ × Mark) → Contains marks mark
      → (device : Device) × Contains (all device) mark

-- A list has the marks of the devices whose places are below a number and no others, and its rows
-- rise where those of each do and no row is in two of them.
pub record IsMergeBelow (count : ℕ) (all : Device → List (ℕ × Mark)) (marks : List (ℕ × Mark))
    : Type 0 where
  pub own : (device : Device) → device_place device < count → (mark : ℕ × Mark)
      → Contains (all device) mark → Contains marks mark
  pub some : (mark : ℕ × Mark) → Contains marks mark
      → (device : Device) × (device_place device < count) × Contains (all device) mark
  pub rise : ((device : Device) → device_place device < count → Rise (all device))
      → ((one other : Device) → device_place one < count → device_place other < count
      → (one ≡ other → ⊥) → AreApart (all one) (all other)) → Rise marks
