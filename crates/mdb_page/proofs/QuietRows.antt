-- A row that ends no act leaves all sums as they are.
use Rattle.mdb_page.proofs.Words.{Act, ArePieces, Event, IsActList, IsEndedAct, IsReport, List, None, Piece, Report, Scope, [], acts_of, ap, length, refl, report_of, subst, sums_of, sym, ◌++◌, ◌∙◌, ◌∷◌, ◌≡◌}
use Rattle.mdb_bus.specs.declared.scope.Beginning.{Beginning}
use Rattle.mdb_bus.specs.Loss.{Loss, LossFits}
use Rattle.mdb_follow.specs.Tables.{EachArrives}
use Rattle.mdb_follow.specs.Runs.{AllSums, IsWay, Run, States}
use Rattle.mdb_follow.proofs.Ends.{account-moves}

-- what laws of the bus and of the follower say
pub record Laws : Type 0 where
  pub one : (scope : Scope) (rows : List Event) (one other : List Piece)
      → IsActList scope one rows → IsActList scope other rows → one ≡ other
  pub split : (begins : Beginning) (loss : Loss) (pieces : List Piece) (states : States)
      (sums : AllSums) → IsWay begins loss pieces states sums
      → EachArrives begins (acts_of pieces) states sums
  pub join : (scope : Scope) (pieces : List Piece) (states : States) (sums : AllSums)
      → ArePieces scope pieces → EachArrives scope.begins (acts_of pieces) states sums
      → (loss : Loss) × LossFits loss pieces × IsWay scope.begins loss pieces states sums

-- a run of rows is one of others with the same acts
run_of_same : {scope : Scope} {rows others : List Event} {pieces more : List Piece} → Laws
    → IsActList scope pieces rows → IsActList scope more others
    → acts_of pieces ≡ acts_of more → (sums : AllSums) → Run scope rows sums
    → Run scope others sums
run_of_same {scope} {rows} {pieces = pieces} {more = more} laws list other same sums run =
    let Arrive : List Act → Type 0 = λ acts. EachArrives scope.begins acts run.states sums in
    let acts : acts_of run.pieces ≡ acts_of more =
    ap acts_of (laws.one scope rows run.pieces pieces run.act_list list) ∙ same in
    let way = laws.join scope more run.states sums other.in_order (subst Arrive acts
    (laws.split scope.begins run.loss run.pieces run.states sums run.way)) in
    record {
      pieces = more;
      act_list = other;
      loss = way.0;
      fits = way.1;
      states = run.states;
      way = way.2;
    }

-- a row that ends no act: the report of the rows with it has the same accounts
pub stays : (scope : Scope) → Laws → (rows : List Event) (row : Event) (report : Report)
    → IsReport scope rows report → IsEndedAct scope rows row None
    → (after : Report) × IsReport scope (rows ++ row ∷ []) after
    × (after.accounts ≡ report.accounts)
stays scope laws rows row report is ended =
    let pieces = ended.newest ∷ ended.earlier in
    let acts : acts_of ended.before ≡ acts_of pieces = sym ended.acts in
    let there = run_of_same laws ended.shorter ended.act_list acts in
    let back = run_of_same laws ended.act_list ended.shorter (sym acts) in
    let after : Report = report_of scope (length (rows ++ row ∷ [])) pieces is.accounts in (
      after,
      record {
        reached = (is.reached.0, there is.reached.0 is.reached.1);
        pieces = pieces;
        act_list = ended.act_list;
        accounts = is.accounts;
        of_runs = λ account. account-moves (Run scope rows) (sums_of account)
            (Run scope (rows ++ row ∷ [])) (sums_of account)
            (λ sums run. (sums, there sums run, refl)) (λ sums run. (sums, back sums run, refl)) _
            (is.of_runs account);
        telling = refl;
      },
      sym (ap (λ it. it.accounts) is.telling),
    )
