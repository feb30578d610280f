-- How the list of the rises comes about, row by row. This file serves private functions and proofs:
-- no public clause cites it.
use Rattle.std.specs.Prelude.{◌≡◌, ◌⊎◌, ◌+◌, ◌<◌, ◌≤◌, ◌^◌, ◌++◌, ℕ, Bool, true, false, List, Option, None, Some, length}
use Rattle.mdb_words.specs.declared.event.Event.{Event}
use Rattle.mdb_bus.specs.declared.scope.Scope.{Scope}
use Rattle.mdb_follow.specs.declared.follower.Follower.{Follower}
use Rattle.mdb_follow.specs.declared.report.Report.{Report}
use Rattle.mdb_follow.specs.AccountNames.{account_of}
use Rattle.mdb_follow.specs.Follower.{StandsFor, scope_of}
use Rattle.mdb_follow.specs.Limits.{IsAccountWithin}
use Rattle.mdb_follow.specs.Report.{IsReport}
use Rattle.mdb_follow.specs.declared.account_name.AccountName.{AccountName}
use Rattle.mdb_page.specs.Lines.{HasRead}
use Rattle.mdb_page.specs.Rises.{AreListed, AreRises, EndsSo, rises_between}
use Rattle.mdb_page.specs.declared.answer.PageTold.{PageTold}
use Rattle.mdb_page.specs.declared.rises.PageRise.{PageRise}
use Rattle.mdb_page.specs.declared.rises.RiseListing.{RiseListing}

-- No end of a report's ranges is so far from 0 that one can't be taken from another.
abbrev pub IsNear : Report → Type 0
IsNear report = (name : AccountName) → IsAccountWithin (2 ^ 60) (account_of name report)

-- A listing has listed entries.
pub record HasListed (skip : ℕ) (all : List PageRise) (listing : RiseListing)
    (before after : List PageRise) : Type 0 where
  pub same : listing.skip ≡ skip
  pub number : listing.count ≡ length all
  pub entries : AreListed skip all before after

-- the place of an entry that has so many before it, where the first are passed over; or why it has
-- none
abbrev pub IsPlace : ℕ → ℕ → ℕ → Option ℕ → Type 0
IsPlace skip count room (Some place) = (skip + place ≡ count) × (place < room)
IsPlace skip count room None = (count < skip) ⊎ (skip + room ≤ count)

-- A listing goes on by an entry, which has a place or none.
pub record Moves (room : ℕ) (was now : RiseListing) (place : Option ℕ) : Type 0 where
  pub last : now.last ≡ was.last
  pub same : now.skip ≡ was.skip
  pub counted : now.count ≡ was.count + 1
  pub at : IsPlace was.skip was.count room place

-- what a listing has listed of a report: the entries since the report before it
abbrev pub Takes : RiseListing → RiseListing → List PageRise → List PageRise → Type 0
Takes was now rises later = (skip : ℕ) (all before : List PageRise)
    → HasListed skip all was before rises
    → HasListed skip (all ++ rises_between was.last now.last) now before later

-- A listing has taken a row that a follower has accepted. Where an act ended with it, the listing
-- has taken the follower's report.
abbrev pub HasTakenRow : Bool → Follower → RiseListing → RiseListing → List PageRise
    → List PageRise → Type 0
HasTakenRow false follower was now rises later = (now ≡ was) × (later ≡ rises)
HasTakenRow true follower was now rises later =
    ((events : List Event) → StandsFor follower events
    → IsReport (scope_of follower) events now.last) × Takes was now rises later

-- The first lines of a text were followed, and the entries of their rows are listed.
pub record HasFollowed (scope : Scope) (lines rest : List ℕ) (skip : ℕ)
    (before after : List PageRise) (listing : RiseListing) (told : PageTold) (answer : ℕ)
    : Type 0 where
  pub rows : List Event
  pub read : HasRead lines rows rest
  pub ends : EndsSo scope rows rest told.fault answer
  pub all : List PageRise
  pub rises : AreRises scope rows all
  pub listed : HasListed skip all listing before after
