-- The headline: what a verdict says, phrase by phrase.
--
-- Yes is the answer where the rows can be explained, and only there: by acts that are these words
-- at these times, by words lost on the way, and by what devices and controller did (`yes`). However
-- they are explained, no sale lacks its approval (`sales`), but for one that may have been
-- requested before a recording that begins in mid-session. The report's bounds are as tight as they
-- can be (`bounds`). A no says how far an explanation goes: to the row before the one named
-- (`first_row`).
--
-- An explanation is a run (`Run` of `mdb_follow`): an act list with the words and their times, a
-- loss, and a way of each device with the controller through it.
use Rattle.std.specs.Prelude.{◌≡◌, ◌↔◌, ◌<◌, ◌≤◌, ℕ, List, [], ◌∷◌, ◌++◌, length, take, ⊤}
use Rattle.mdb_words.specs.declared.event.Event.{Event}
use Rattle.mdb_follow.specs.declared.account_name.AccountName.{AccountName}
use Rattle.mdb_follow.specs.declared.goal.AccountSide.{AccountSide}
use Rattle.mdb_follow.specs.declared.offence.Offence.{Offence}
use Rattle.mdb_follow.specs.declared.report.Report.{Report}
use Rattle.mdb_follow.specs.AccountNames.{account_of, sums_of}
use Rattle.mdb_follow.specs.Ends.{side_range, side_value}
use Rattle.mdb_follow.specs.Offences.{IsOffence}
use Rattle.mdb_follow.specs.Ranges.{IsRange}
use Rattle.mdb_follow.specs.Runs.{AllSums, Run}
use Rattle.mdb_follow.specs.Sales.{SalesFollowApprovals}
use Rattle.mdb_text.specs.declared.outcome.Outcome.{Outcome}
use Rattle.mdb_text.specs.declared.outcome.Outcome.TheVariants.{Yes, No}
use Rattle.mdb_verdict.specs.Rows.{AreRows}
use Rattle.mdb_bus.specs.declared.scope.Scope.{Scope}

-- the first so many records of a text are rows, and these are their events
pub record AreFirstRows (records : List (List (List ℕ))) (count : ℕ)
    (rows : List Event) : Type 0 where
  pub told : AreRows (take count records) rows
  pub number : length rows ≡ count

-- the first so many records are rows, and some run reaches them
pub record HaveRun (scope : Scope) (records : List (List (List ℕ))) (count : ℕ) : Type 0 where
  pub rows : List Event
  pub are : AreFirstRows records count rows
  pub sums : AllSums
  pub run : Run scope rows sums

-- the outcome is a yes
abbrev pub SaysYes : Outcome → Type 0
SaysYes (Yes report) = ⊤
SaysYes (No offence) = ⊥

-- where it is a yes, this holds of its report
abbrev pub IfYes : Outcome → (Report → Type 0) → Type 0
IfYes (Yes report) Holds = Holds report
IfYes (No offence) Holds = ⊤

-- where it is a no, this holds of its offence
abbrev pub IfNo : Outcome → (Offence → Type 0) → Type 0
IfNo (Yes report) Holds = ⊤
IfNo (No offence) Holds = Holds offence

-- In each run of the records every sale at either reader has its approval before it. (By `yes` the
-- records are rows.)
abbrev pub HasApprovedSales : Scope → List (List (List ℕ)) → Type 0
HasApprovedSales scope records =
    (rows : List Event) → AreRows records rows → SalesFollowApprovals scope rows

-- Each range of the report, of each account and side, is as tight as it can be: some run of the
-- records comes to either end, and none goes beyond. (By `yes` the records are rows.)
abbrev pub HasBounds : Scope → List (List (List ℕ)) → Report → Type 0
HasBounds scope records report =
    (rows : List Event) → AreRows records rows → (account : AccountName) (side : AccountSide)
    → IsRange (Run scope rows) (λ sums. side_value side (sums_of account sums))
    (side_range side (account_of account report))

-- The runs end before the row that is named: a row with its number is there, the rows up to it have
-- no run, any fewer have one, and rule and blame are those of this row.
pub record NamesFirstRow (scope : Scope) (records : List (List (List ℕ)))
    (offence : Offence) : Type 0 where
  pub before : List Event
  pub row : Event
  pub there : AreFirstRows records offence.row (before ++ row ∷ [])
  pub no_run : HaveRun scope records offence.row → ⊥
  pub fewer : (count : ℕ) → count < offence.row → HaveRun scope records count
  pub why : IsOffence scope before row offence

-- the headline, of the records of a text, where it may have so many rows, and the outcome that they
-- were answered with
pub record Headline (scope : Scope) (limit : ℕ) (records : List (List (List ℕ)))
    (outcome : Outcome) : Type 0 where
  pub yes : SaysYes outcome ↔ (length records ≤ limit) × HaveRun scope records (length records)
  pub sales : IfYes outcome (λ report. HasApprovedSales scope records)
  pub bounds : IfYes outcome (HasBounds scope records)
  pub first_row : IfNo outcome (NamesFirstRow scope records)
