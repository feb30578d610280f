-- No rows have a report too: nothing has moved.
use Rattle.mdb_survey.proofs.Words.{arith, refl, ap, ◌≡◌, List, [], ◌∷◌, ◌++◌, length, length-append, Event, Scope, AllSums, IsReached, Run}
use Rattle.mdb_bus.specs.ActLists.{ArePieces, Piece, events_of, piece_events}
use Rattle.mdb_follow.specs.declared.account_name.AccountName.{AccountName}
use Rattle.mdb_follow.specs.declared.follower.Follower.{Follower}
use Rattle.mdb_follow.specs.declared.report.Report.{Report}
use Rattle.mdb_follow.specs.AccountNames.{account_device, account_slot, sums_of}
use Rattle.mdb_follow.specs.Follower.{StandsFor, scope_of}
use Rattle.mdb_follow.specs.Ranges.{no_account}
use Rattle.mdb_follow.specs.Report.{IsReport, report_of}
use Rattle.mdb_follow.specs.Sums.{Sums}
use Rattle.mdb_follow.proofs.Ends.{account-none}

-- each piece has a row
no_pieces : (scope : Scope) (pieces : List Piece) → ArePieces scope pieces → events_of pieces ≡ []
    → pieces ≡ []
no_pieces scope [] order none = refl
no_pieces scope (piece ∷ pieces) order none =
    let counted = length-append (events_of pieces) (piece_events piece) in
    absurd (omega (arith, counted, ap length order.1.begins, ap length none))

-- the rows that a follower stands for are reached, and so are none of them
abbrev pub NoneAreReached : Type 0
NoneAreReached = (follower : Follower) (rows : List Event) → StandsFor follower rows
    → IsReached (scope_of follower) []

pub none_are_reached : ((follower : Follower) (rows : List Event) → StandsFor follower rows
    → IsReached (scope_of follower) rows)
    → ((scope : Scope) (rows more : List Event) → IsReached scope (rows ++ more)
    → IsReached scope rows) → NoneAreReached
none_are_reached reached fronts follower rows stands =
    fronts (scope_of follower) [] rows (reached follower rows stands)

-- in a run of no rows nothing moves
account_still : (scope : Scope) (account : AccountName) (sums : AllSums) → Run scope [] sums
    → sums_of account sums ≡ record { device = 0; controller = 0 }
account_still scope account sums run =
    let none = no_pieces scope run.pieces run.act_list.in_order run.act_list.whole in
    let way = rw none at run.way in
    ap (λ (s : Sums). s (account_slot account)) (way (account_device account)).1

abbrev pub report_on_none : Scope → Report
report_on_none scope = report_of scope 0 [] (λ account. no_account)

pub is_report_on_none : (scope : Scope) → IsReached scope []
    → IsReport scope [] (report_on_none scope)
is_report_on_none scope reached = record {
  reached = reached;
  pieces = [];
  act_list = record { in_order = tt; whole = refl };
  accounts = λ account. no_account;
  of_runs = λ account. account-none (Run scope []) (sums_of account) reached.0 reached.1
      (account_still scope account);
  telling = refl;
}
