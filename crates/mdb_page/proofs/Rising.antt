-- How the rows of a text are followed, and what they do to the ranges is listed.
use Rattle.mdb_page.proofs.Words.{ALL, Account, AccountName, Act, AreRises, Bool, EndsSo, Event, HasFollowed, HasListed, HasRead, HasTakenRow, IsEndedAct, IsLine, IsNear, IsRangeWithin, IsReport, LineFault, List, None, Offence, PageRise, PageTold, ROWS_MAX, Range, Report, RiseListing, Scope, StandsFor, TellsRow, [], account_in, account_place, ap, append-nil, arith, blank, broken, ended_act, false, flat_map, ints, no_row, none, refl, rise_of, rises_between, row, rows_of, scope_of, start, subst, sym, too_long, true, unread, whole, ℕ, ◌*◌, ◌++◌, ◌-ℤ◌, ◌^◌, ◌∙◌, ◌∷◌, ◌≡◌, ◌≢◌, ◌≤◌}
use Rattle.std.proofs.lemmas.Bool.Decides.{Decides-int_eq}
use Rattle.mdb_follow.specs.declared.follower.Follower.{Follower}
use Rattle.mdb_follow.specs.Offences.{IsOffence}
use Rattle.mdb_follow.specs.ReportLimits.{IsReportWithin}
use Rattle.mdb_page.specs.Rises as rises
use Rattle.mdb_page.specs.declared.lines.LineFault.TheVariants as faults
use Rattle.mdb_page.proofs.QuietRows.{Laws, stays}
use Rattle.mdb_page.proofs.RiseLists.{starts_empty}
use Rattle.mdb_page.proofs.Walks.{IsFaultOf, IsLineAnswer}

-- The ends of ranges stay near enough.

range_near : (limit : ℕ) (range : Range) → limit ≤ 2 ^ 60
    → IsRangeWithin limit range → IsRangeWithin (2 ^ 60) range
range_near limit range le is = search (arith, ints)

pub near : (rows : ℕ) (report : Report) → rows ≤ ROWS_MAX → IsReportWithin (rows * 2 ^ 32) report
    → IsNear report
near rows report few is name =
    let its = is.accounts name in
    let le : rows * 2 ^ 32 ≤ 2 ^ 60 = omega arith in
    record {
      device = range_near (rows * 2 ^ 32) _ le its.device;
      controller = range_near (rows * 2 ^ 32) _ le its.controller;
      difference = range_near (rows * 2 ^ 32) _ le its.difference;
    }

-- Entries between reports with the same accounts.

-- what a row lists of an account, between two lists of accounts
abbrev row_of : ℕ → List Account → List Account → AccountName → List PageRise
row_of number before after name =
    rise_of number (account_place name) 0 (account_in name before).device
    (account_in name after).device
    ++ rise_of number (account_place name) 1 (account_in name before).controller
    (account_in name after).controller

-- what `rises_between` takes of a report before
abbrev between : List Account → Report → List PageRise
between accounts after = flat_map (row_of after.rows accounts after.accounts) ALL

none_of : (number account side : ℕ) (range : Range) → rise_of number account side range range ≡ []
none_of number account side range =
    let least = range.least -ℤ range.least in
    let greatest = range.greatest -ℤ range.greatest in
    let same : least ≡ greatest = omega (arith, ints) in
    rw ((Decides-int_eq least greatest).1 same)

none_of_all : (number : ℕ) (accounts : List Account) (names : List AccountName)
    → flat_map (row_of number accounts accounts) names ≡ []
none_of_all number accounts [] = refl
none_of_all number accounts (name ∷ names) =
    rw (
      none_of number (account_place name) 0 (account_in name accounts).device,
      none_of number (account_place name) 1 (account_in name accounts).controller,
    )
    (none_of_all number accounts names)

none_between : (before after : Report) → after.accounts ≡ before.accounts
    → rises_between before after ≡ []
none_between before after same =
    ap (λ accounts. between accounts after) (sym same)
    ∙ none_of_all after.rows after.accounts ALL

-- The first lines of a text were followed: the follower stands for their rows, and their entries
-- are listed.
pub record Follows (scope : Scope) (lines rest : List ℕ) (follower : Follower) (skip : ℕ)
    (before now : List PageRise) (listing : RiseListing) : Type 0 where
  pub rows : List Event
  pub read : HasRead lines rows rest
  pub stands : StandsFor follower rows
  pub in_scope : scope_of follower ≡ scope
  pub report : Report
  pub is : IsReport scope rows report
  pub last : listing.last.accounts ≡ report.accounts
  pub all : List PageRise
  pub rises : AreRises scope rows all
  pub listed : HasListed skip all listing before now

-- what a follower says that has taken a row
abbrev pub Stands : Follower → Follower → Event → Type 0
Stands follower next event =
    (events : List Event) → StandsFor follower events → StandsFor next (events ++ event ∷ [])

-- why the next line is no row
no_row_so : (scope : Scope) (rest bare after : List ℕ) (rows : List Event) (fault : LineFault)
    (told : PageTold) (answer : ℕ) → IsLine rest bare after → bare ≢ [] → IsFaultOf bare fault
    → IsLineAnswer fault told answer → EndsSo scope rows rest told.fault answer
no_row_so scope rest bare after rows (faults.BadRow why) told answer line some is told_so =
    let two = told_so.row_fault why refl in
    let bad = told_so.bad_row two in
    rw two (no_row bad.0
    (record { bare = bare; after = after; line = line; some = some; is = is.0 bad.0 bad.1 })
    bad.2)
no_row_so scope rest bare after rows faults.Unread told answer line some is told_so =
    rw (told_so.unread refl)
    (unread (record { after = after; line = line; some = some }) (is.1 refl))

-- before the first line
pub starts : (lines : List ℕ) (follower : Follower) (before : List PageRise)
    (listing : RiseListing) → StandsFor follower [] → IsReport (scope_of follower) [] listing.last
    → listing.count ≡ 0
    → Follows (scope_of follower) lines lines follower listing.skip before before listing
starts lines follower before listing stands report empty = record {
  rows = [];
  read = start;
  stands = stands;
  in_scope = refl;
  report = listing.last;
  is = report;
  last = refl;
  all = [];
  rises = none;
  listed = record {
    same = refl;
    number = empty;
    entries = starts_empty listing.skip before;
  };
}

-- The text goes on after some lines, or ends there.
module _ {scope : Scope} {lines rest : List ℕ} {follower : Follower} {skip : ℕ}
    {before now : List PageRise} {listing : RiseListing}
    (so : Follows scope lines rest follower skip before now listing) where
  -- a line without bytes
  pub goes_on_blank : {after : List ℕ} → IsLine rest [] after
      → Follows scope lines after follower skip before now listing
  goes_on_blank line = record {
    rows = so.rows;
    read = blank so.read line;
    stands = so.stands;
    in_scope = so.in_scope;
    report = so.report;
    is = so.is;
    last = so.last;
    all = so.all;
    rises = so.rises;
    listed = so.listed;
  }

  -- where this ends, by what ends it
  ends : (told : PageTold) (answer : ℕ) → EndsSo scope so.rows rest told.fault answer
      → HasFollowed scope lines rest skip before now listing told answer
  ends told answer why = record {
    rows = so.rows;
    read = so.read;
    ends = why;
    all = so.all;
    rises = so.rises;
    listed = so.listed;
  }

  -- all lines were read
  pub ends_whole : (told : PageTold) → rest ≡ []
      → HasFollowed scope lines rest skip before now listing told 0
  ends_whole told empty = ends told 0 (whole empty)

  module _ {bare after : List ℕ} (line : IsLine rest bare after) where
    -- there are too many rows
    pub ends_too_long : (told : PageTold) → bare ≢ [] → rows_of follower ≡ ROWS_MAX
        → HasFollowed scope lines rest skip before now listing told 3
    ends_too_long told some full = ends told 3
        (too_long (record { after = after; line = line; some = some })
        (sym so.stands.rows ∙ full))

    -- the next line is no row
    pub ends_no_row : (told : PageTold) (fault : LineFault) (answer : ℕ) → bare ≢ []
        → IsFaultOf bare fault → IsLineAnswer fault told answer
        → HasFollowed scope lines rest skip before now listing told answer
    ends_no_row told fault answer some is told_so = ends told answer
        (no_row_so scope rest bare after so.rows fault told answer line some is told_so)

    -- A row comes next.
    module _ {event : Event} (tells : TellsRow bare event) where
      -- it can't be
      pub ends_broken : (told : PageTold) (offence : Offence)
          → ((events : List Event) → StandsFor follower events
          → IsOffence (scope_of follower) events event offence)
          → HasFollowed scope lines rest skip before now listing told 1
      ends_broken told offence refused = ends told 1
          (broken event offence (row event start line tells)
          (rw so.in_scope at (refused so.rows so.stands)))

      module _ {next : Follower} (stands : Stands follower next event)
          (same : scope_of next ≡ scope_of follower) where
        -- it ends no act
        goes_on_quiet : Laws
            → ((events : List Event) → StandsFor follower events
            → IsEndedAct (scope_of follower) events event None)
            → Follows scope lines after next skip before now listing
        goes_on_quiet laws ended =
            let none_ended : IsEndedAct scope so.rows event None =
            rw so.in_scope at (ended so.rows so.stands) in
            let new = stays scope laws so.rows event so.report so.is none_ended in
            let all : so.all ++ rises_between so.report new.0 ≡ so.all =
            ap (λ more. so.all ++ more) (none_between so.report new.0 new.2)
            ∙ append-nil so.all in
            record {
              rows = so.rows ++ event ∷ [];
              read = row event so.read line tells;
              stands = stands so.rows so.stands;
              in_scope = same ∙ so.in_scope;
              report = new.0;
              is = new.1;
              last = so.last ∙ sym new.2;
              all = so.all;
              rises = rw all at (rises.row event so.report new.0 so.rises so.is new.1);
              listed = so.listed;
            }

        -- it ends an act
        goes_on_act : {later : List PageRise} {more : RiseListing}
            → HasTakenRow true next listing more now later
            → Follows scope lines after next skip before later more
        goes_on_act {later = later} {more = more} taken =
            let rows = so.rows ++ event ∷ [] in
            let is : IsReport scope rows more.last =
            rw (same ∙ so.in_scope) at (taken.0 rows (stands so.rows so.stands)) in
            record {
              rows = rows;
              read = row event so.read line tells;
              stands = stands so.rows so.stands;
              in_scope = same ∙ so.in_scope;
              report = more.last;
              is = is;
              last = refl;
              all = so.all ++ rises_between so.report more.last;
              rises = rises.row event so.report more.last so.rises so.is is;
              listed = subst (λ accounts. HasListed skip (so.all ++ between accounts more.last) more
                  before later) so.last (taken.1 skip so.all before so.listed);
            }

        -- whether it ends one, or none
        pub goes_on_row : {later : List PageRise} {more : RiseListing} (ended : Bool) (act : Act)
            → Laws
            → ((events : List Event) → StandsFor follower events
            → IsEndedAct (scope_of follower) events event (ended_act ended act))
            → HasTakenRow ended next listing more now later
            → Follows scope lines after next skip before later more
        goes_on_row true act laws is_ended taken = goes_on_act taken
        goes_on_row false act laws is_ended taken =
            rw (taken.0, taken.1) (goes_on_quiet laws is_ended)
