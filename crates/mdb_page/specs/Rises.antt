-- The rows by which the ranges of a recording's sums open or close.
use Rattle.std.specs.Prelude.{◌≡◌, ◌+◌, ◌<◌, ◌≤◌, ℕ, ◌-ℤ◌, List, [], ◌∷◌, ◌++◌, flat_map, get_or, length, if◌then◌else◌}
use Rattle.std.specs.Ordering.{int_eq}
use Rattle.mdb_words.specs.declared.event.Event.{Event}
use Rattle.mdb_words.specs.declared.row.RowFault.{RowFault}
use Rattle.mdb_bus.specs.declared.scope.Scope.{Scope}
use Rattle.mdb_follow.specs.declared.account_name.AccountName.{AccountName}
use Rattle.mdb_follow.specs.declared.account_name.TheConstants.AccountName.{ALL}
use Rattle.mdb_follow.specs.declared.follower.TheConstants.{ROWS_MAX}
use Rattle.mdb_follow.specs.declared.offence.Offence.{Offence}
use Rattle.mdb_follow.specs.declared.range.Range.{Range}
use Rattle.mdb_follow.specs.declared.report.Report.{Report}
use Rattle.mdb_follow.specs.AccountNames.{account_of, account_place}
use Rattle.mdb_follow.specs.Offences.{IsOffence}
use Rattle.mdb_follow.specs.Report.{IsReport}
use Rattle.mdb_page.specs.Answers.{number_of}
use Rattle.mdb_page.specs.Lines.{HasRead, IsNoRow, IsUnmarked, IsUnread}
use Rattle.mdb_page.specs.Surveys.{HasLine}
use Rattle.mdb_page.specs.declared.answer.PageTold.{PageTold}
use Rattle.mdb_page.specs.declared.rises.PageRise.{PageRise}

-- by how much the ends of a range rose
abbrev pub rise : Range → Range → Range
rise before after = record {
  least = after.least -ℤ before.least;
  greatest = after.greatest -ℤ before.greatest;
}

-- The entry of a row for a sum, if the least and the greatest of it rose differently. An account
-- has its place in a report, and a side its number: 0 the device, 1 the controller.
abbrev pub rise_of : ℕ → ℕ → ℕ → Range → Range → List PageRise
rise_of row account side before after =
    if int_eq (rise before after).least (rise before after).greatest then []
    else record {
      row = row;
      least = (rise before after).least;
      greatest = (rise before after).greatest;
      account = account;
      side = side;
    } ∷ []

-- the entries of an account, from one report to the next
abbrev pub rises_in : Report → Report → AccountName → List PageRise
rises_in before after name =
    rise_of after.rows (account_place name) 0 (account_of name before).device
    (account_of name after).device
    ++ rise_of after.rows (account_place name) 1 (account_of name before).controller
    (account_of name after).controller

-- those of all accounts
abbrev pub rises_between : Report → Report → List PageRise
rises_between before after = flat_map (rises_in before after) ALL

-- The entries of rows: of each row, those from the report of the rows before it to the report of
-- the rows up to it.
pub data AreRises (scope : Scope) : List Event → List PageRise → Type 0 where
  none : AreRises scope [] []
  row : {rows : List Event} {rises : List PageRise} (event : Event) (before after : Report)
      → AreRises scope rows rises → IsReport scope rows before
      → IsReport scope (rows ++ event ∷ []) after
      → AreRises scope (rows ++ event ∷ []) (rises ++ rises_between before after)

-- An array has those of all entries that come after the first `skip`, from its first place on, as
-- far as there is room. The places that had no entry are as before.
pub record AreListed (skip : ℕ) (all before after : List PageRise) : Type 0 where
  pub room : length after ≡ length before
  pub put : (place : ℕ) (other : PageRise) → skip + place < length all
      → place < length before → get_or after place other ≡ get_or all (skip + place) other
  pub kept : (place : ℕ) (other : PageRise) → length all ≤ skip + place
      → get_or after place other ≡ get_or before place other

-- Why a reading ended after rows, where a text is left: the fault that is told, and the answer.
pub data EndsSo (scope : Scope) (rows : List Event) (rest : List ℕ) (fault : ℕ) : ℕ → Type 0 where
  -- All lines were read.
  whole : rest ≡ [] → EndsSo scope rows rest fault 0
  -- The next row can't be.
  broken : {after : List ℕ} (event : Event) (offence : Offence)
      → HasRead rest (event ∷ []) after → IsOffence scope rows event offence
      → EndsSo scope rows rest fault 1
  -- The next line tells no row.
  no_row : (why : RowFault) → IsNoRow rest why → fault ≡ number_of why
      → EndsSo scope rows rest fault 2
  -- There are as many rows as there may be, and one line more.
  too_long : {bare : List ℕ} → HasLine rest bare → length rows ≡ ROWS_MAX
      → EndsSo scope rows rest fault 3
  -- The next line has a quote, or a CR that doesn't end it.
  unread : {bare : List ℕ} → HasLine rest bare → IsUnread bare
      → EndsSo scope rows rest fault 4

-- The first lines of a text are rows that can be in a scope, and the reading ended after them. Of
-- their entries those after the first `skip` are listed, as far as they have room. The number of
-- all is told, and how many bytes stand before what is left.
pub record HasRisen (scope : Scope) (text : List ℕ) (skip : ℕ) (before after : List PageRise)
    (told : PageTold) (answer : ℕ) : Type 0 where
  pub lines : List ℕ
  pub unmarked : IsUnmarked text lines
  pub rows : List Event
  pub rest : List ℕ
  pub read : HasRead lines rows rest
  pub ends : EndsSo scope rows rest told.fault answer
  pub offset : told.offset + length rest ≡ length text
  pub all : List PageRise
  pub rises : AreRises scope rows all
  pub count : told.news ≡ length all
  pub listed : AreListed skip all before after
