-- A verdict says what the headline has of it.
use Rattle.mdb_verdict.proofs.Words.{AllSums, AreRows, Event, IsAnswer, IsImpossible, IsReached, IsReport, IsRow, List, No, Offence, Ok, Outcome, Report, Run, Scope, Yes, [], ap, arith, drop, length, length-append, length-take, length-take-le, refl, suc, sym, take, take-append-drop, take-take, take_all, take_at, zero, ℕ, ◌++◌, ◌∷◌, ◌≡◌, ◌≤◌}
use Rattle.mdb_follow.specs.declared.account_name.AccountName.{AccountName}
use Rattle.mdb_follow.specs.declared.account.Account.{Account}
use Rattle.mdb_follow.specs.AccountNames.{account_of, sums_of}
use Rattle.mdb_follow.specs.Ranges.{IsRange}
use Rattle.mdb_follow.specs.AccountRanges.{IsAccount}
use Rattle.mdb_follow.specs.Sums.{AccountSums}
use Rattle.mdb_follow.specs.declared.goal.AccountSide.{AccountSide}
use Rattle.mdb_follow.specs.declared.goal.AccountSide.TheVariants as sides
use Rattle.mdb_follow.specs.Ends.{side_range, side_value}
use Rattle.mdb_verdict.specs.Headline.{AreFirstRows, HaveRun, Headline, NamesFirstRow}
use Rattle.mdb_verdict.proofs.OneAnswer.{row_one}
use Rattle.mdb_verdict.proofs.Rows.{read_with}

-- what the law of the first rows of reached rows says
abbrev pub FrontsAreReached : Scope → Type 0
FrontsAreReached scope =
    (rows more : List Event) → IsReached scope (rows ++ more) → IsReached scope rows

-- records are rows of one list of events at most
pub one_list : (records : List (List (List ℕ))) (rows events : List Event) → AreRows records rows
    → AreRows records events → rows ≡ events
one_list [] [] [] told heard = refl
one_list (fields ∷ records) (row ∷ rows) (event ∷ events) told heard =
    cc (row_one fields row event told.0 heard.0, one_list records rows events told.1 heard.1)
one_list records rows events told heard = absurd (search)

-- as many rows as records
pub as_many : (records : List (List (List ℕ))) (rows : List Event) → AreRows records rows
    → length rows ≡ length records
as_many [] [] told = refl
as_many (fields ∷ records) (row ∷ rows) told = ap suc (as_many records rows told.1)
as_many records rows told = absurd told

-- the first rows are those of the first records
fewer_rows : (count : ℕ) (records : List (List (List ℕ))) (rows : List Event) → AreRows records rows
    → AreRows (take count records) (take count rows)
fewer_rows zero records rows told = tt
fewer_rows (suc count) [] [] told = tt
fewer_rows (suc count) (fields ∷ records) (row ∷ rows) told =
    (told.0, fewer_rows count records rows told.1)
fewer_rows (suc count) records rows told = absurd told

-- the ranges of an account on its sides
on_side : {Kind : AllSums → Type 0} (sums : AllSums → AccountSums) (account : Account)
    → IsAccount Kind sums account → (side : AccountSide)
    → IsRange Kind (λ s. side_value side (sums s)) (side_range side account)
on_side sums account is sides.Device = is.device
on_side sums account is sides.Controller = is.controller
on_side sums account is sides.Difference = is.difference

-- what the law of a report's accounts says
abbrev pub AccountsAreOfRuns : Scope → Type 0
AccountsAreOfRuns scope =
    (rows : List Event) (report : Report) → IsReport scope rows report → (account : AccountName)
    → IsAccount (Run scope rows) (sums_of account) (account_of account report)

module _ (scope : Scope) (limit : ℕ) (records : List (List (List ℕ))) where
  -- so many rows of records are the first ones
  first_rows : (count : ℕ) (rows : List Event) → AreRows (take count records) rows
      → length rows ≡ count → IsReached scope rows → HaveRun scope records count
  first_rows count rows told number reached = record {
    rows = rows;
    are = record { told = told; number = number };
    sums = reached.0;
    run = reached.1;
  }

  -- A no.
  module _ (fronts : FrontsAreReached scope) (offence : Offence)
      (is : IsImpossible scope limit records offence) where
    -- the records up to the row that is named, and these rows
    there : AreFirstRows records offence.row (is.rows ++ is.row ∷ [])
    there =
        let upto = read_with IsRow is.read is.told in
        let many = as_many upto.done (is.rows ++ is.row ∷ []) upto.told in
        let number = length-append is.rows (is.row ∷ []) in
        let long : length upto.done ≡ offence.row =
        omega (arith, many, number, is.stops.number) in
        record {
          told = rw (upto.split, take_at upto.done is.rest offence.row long) upto.told;
          number = omega (arith, number, is.stops.number);
        }

    -- they have no run
    no_run : HaveRun scope records offence.row → ⊥
    no_run has =
        let reached : IsReached scope has.rows = (has.sums, has.run) in
        is.stops.not_reached (rw (one_list (take offence.row records) has.rows
        (is.rows ++ is.row ∷ []) has.are.told there.told) at reached)

    -- fewer rows than any that some run reaches are reached
    fewer_reached : (more count : ℕ) → count ≤ more → HaveRun scope records more
        → HaveRun scope records count
    fewer_reached more count fewer has =
        let reached : IsReached scope has.rows = (has.sums, has.run) in
        first_rows count (take count has.rows)
        (rw (take-take count more records fewer) at
        (fewer_rows count (take more records) has.rows has.are.told))
        (length-take-le count has.rows (omega (arith, fewer, has.are.number)))
        (fronts (take count has.rows) (drop count has.rows)
        (rw (sym (take-append-drop count has.rows)) at reached))

    -- the rows before the one that is named are reached
    before_reached : HaveRun scope records (length is.rows)
    before_reached =
        let many = as_many is.read.done is.rows is.read.told in
        let front : take (length is.rows) records ≡ is.read.done =
        rw is.read.split (take_at is.read.done (is.fields ∷ is.rest) (length is.rows)
        (sym many)) in
        first_rows (length is.rows) is.rows (rw front is.read.told) refl is.stops.reached

    -- the runs end before the row that is named
    names_first : NamesFirstRow scope records offence
    names_first = record {
      before = is.rows;
      row = is.row;
      there = there;
      no_run = no_run;
      fewer = λ count below. fewer_reached (length is.rows) count
          (omega (arith, below, is.stops.number)) before_reached;
      why = is.stops;
    }

    -- not all the records have a run
    no_has_none : HaveRun scope records (length records) → ⊥
    no_has_none has =
        let many = as_many (take offence.row records) (is.rows ++ is.row ∷ []) there.told in
        let most = length-take offence.row records in
        no_run (fewer_reached (length records) offence.row (omega (arith, many, there.number, most))
        has)

-- what a verdict says
pub headline_of : (scope : Scope) → FrontsAreReached scope → AccountsAreOfRuns scope
    → (limit : ℕ) (records : List (List (List ℕ))) (outcome : Outcome)
    → IsAnswer scope limit records (Ok outcome) → Headline scope limit records outcome
headline_of scope fronts accounts limit records (Yes report) is =
    let many = as_many records is.rows is.told in
    let one = λ (rows : List Event) (told : AreRows records rows).
    one_list records is.rows rows is.told told in
    record {
      yes = (
        λ said. (
          rw many at is.few,
          first_rows scope limit records (length records) is.rows
              (rw (take_all (length records) records (omega arith)) is.told) many is.has.0.reached,
        ),
        λ has. tt,
      );
      sales = λ rows told. rw (one rows told) at is.has.1;
      bounds = λ rows told account side. rw (one rows told) at (on_side (sums_of account)
          (account_of account report) (accounts is.rows report is.has.0 account) side);
      first_row = tt;
    }
headline_of scope fronts accounts limit records (No offence) is = record {
  yes = (
    λ said. absurd said,
    λ has. absurd (no_has_none scope limit records fronts offence is has.1),
  );
  sales = tt;
  bounds = tt;
  first_row = names_first scope limit records fronts offence is;
}
