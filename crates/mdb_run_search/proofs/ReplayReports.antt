-- What a replay reports: it is one, and where the marks explain a goal, it comes to its end.
use Rattle.mdb_run_search.proofs.Words.{arith, refl, sym, ap, subst, ◌∙◌, ◌≡◌, ℕ, ℤ, ◌-ℤ◌, pos, List, length, ints, Event, Device, PowerOn, profile_of, Scope, acts_of, Account, AccountName, AccountSide, Bound, Least, Greatest, Goal, Mark, Range, Report, account_device, account_of, account_slot, sums_of, AllFollow, Choices, side_range, side_value, IsAsFar, end_of, goal_value, Explains, machine_of, MarkedRun, choices_in, IsRange, IsAccount, HasMarkedRun, IsReplayReport, IsReport, report_of, AllSums, Run, AccountSums, OneActList, named, named-account, one-end, one-list, with_accounts, split_with_choices}
use Rattle.mdb_follow.specs.declared.goal.AccountSide.TheVariants as sides
use Rattle.mdb_run_search.proofs.OneStep.{AllIsKnown, machine_is_one, one_way}
use Rattle.mdb_run_search.proofs.MarkedRuns.{followed}

-- rows with given marks have one report
pub one_replay_report : (scope : Scope) → OneActList scope → (rows : List Event)
    (marks : List (ℕ × Mark)) (a b : Report) → IsReplayReport scope rows marks a
    → IsReplayReport scope rows marks b → a ≡ b
one_replay_report scope one rows marks a b p q =
    p.telling
    ∙ (ap (λ pieces. report_of scope (length rows) pieces p.accounts)
    (one rows p.pieces q.pieces p.act_list q.act_list)
    ∙ (ap (with_accounts (report_of scope (length rows) q.pieces p.accounts))
    (one-list (MarkedRun scope rows marks) p.accounts q.accounts p.of_run q.of_run)
    ∙ sym q.telling))

-- the range of an account on each side is that of its values there
side_is_range : {S : Type 0} (Kind : S → Type 0) (account : S → AccountSums) (ranges : Account)
    (side : AccountSide) → IsAccount Kind account ranges
    → IsRange Kind (λ sums. side_value side (account sums)) (side_range side ranges)
side_is_range Kind account ranges sides.Device is = is.device
side_is_range Kind account ranges sides.Controller is = is.controller
side_is_range Kind account ranges sides.Difference is = is.difference

-- the end of a range that a run comes to, than which none goes further
end_reached : {S : Type 0} {Kind : S → Type 0} {value : S → ℤ} {range : Range} (bound : Bound)
    (sums : S) → IsRange Kind value range → Kind sums
    → ((other : S) → Kind other → IsAsFar bound (value sums) (value other))
    → value sums ≡ end_of bound range
end_reached {value = value} {range} Least sums is run farthest =
    one-end (value sums) range.least
    (rw is.least.2 at (farthest is.least.0 is.least.1)) (is.low sums run)
end_reached {value = value} {range} Greatest sums is run farthest =
    one-end (value sums) range.greatest (is.high sums run)
    (rw is.greatest.2 at (farthest is.greatest.0 is.greatest.1))

-- a range of one value
point : {S : Type 0} (Kind : S → Type 0) (value : S → ℤ) (sums : S) → Kind sums
    → ((other : S) → Kind other → value other ≡ value sums)
    → IsRange Kind value (record { least = value sums; greatest = value sums })
point Kind value sums is same = record {
  least = (sums, is, refl);
  greatest = (sums, is, refl);
  low = λ other also. omega (arith, ints, same other also);
  high = λ other also. omega (arith, ints, same other also);
}

-- what an account has come to is one where the sums of the devices are
same_sums : (account : AccountName) (one other : AllSums)
    → ((device : Device) → one device ≡ other device) → sums_of account one ≡ sums_of account other
same_sums account one other same =
    ap (λ sums. sums (account_slot account)) (same (account_device account))

-- the account of sums alone
abbrev account_at : AccountSums → Account
account_at sums = record {
  device = record { least = pos sums.device; greatest = pos sums.device };
  controller = record { least = pos sums.controller; greatest = pos sums.controller };
  difference = record {
    least = pos sums.device -ℤ pos sums.controller;
    greatest = pos sums.device -ℤ pos sums.controller;
  };
}

module _ (scope : Scope) (rows : List Event) (marks : List (ℕ × Mark)) (report : Report)
    (is : IsReplayReport scope rows marks report) where
  -- what a replay reports of an account
  pub named_in_replay : (account : AccountName)
      → IsAccount (MarkedRun scope rows marks) (sums_of account) (account_of account report)
  named_in_replay account = subst (IsAccount (MarkedRun scope rows marks) (sums_of account))
      (sym (ap (account_of account) is.telling
      ∙ named scope (length rows) is.pieces is.accounts account)) (is.of_run account)

  -- each run with the marks has the value of a goal that one of them has
  one_value : (goal : Goal) (one other : AllSums) → MarkedRun scope rows marks one
      → MarkedRun scope rows marks other → goal_value goal one ≡ goal_value goal other
  one_value goal one other run also = ap (side_value goal.side) (same_sums goal.account one other
      (λ device. is.only one run device ∙ sym (is.only other also device)))

-- where marks explain a goal, a replay with them comes to its end
pub comes_to_the_end : (scope : Scope) (rows : List Event) (goal : Goal)
    (marks : List (ℕ × Mark)) (checked replayed : Report) → Explains scope rows goal marks
    → IsReport scope rows checked → IsReplayReport scope rows marks replayed
    → ((side_range goal.side (account_of goal.account replayed)).least
    ≡ end_of goal.bound (side_range goal.side (account_of goal.account checked)))
    × ((side_range goal.side (account_of goal.account replayed)).greatest
    ≡ end_of goal.bound (side_range goal.side (account_of goal.account checked)))
comes_to_the_end scope rows goal marks checked replayed explains of_runs of_run =
    let range : IsRange (Run scope rows) (goal_value goal)
    (side_range goal.side (account_of goal.account checked)) =
    side_is_range (Run scope rows) (sums_of goal.account) (account_of goal.account checked)
    goal.side (named-account scope rows checked of_runs goal.account) in
    let its : IsRange (MarkedRun scope rows marks) (goal_value goal)
    (side_range goal.side (account_of goal.account replayed)) =
    side_is_range (MarkedRun scope rows marks) (sums_of goal.account)
    (account_of goal.account replayed) goal.side
    (named_in_replay scope rows marks replayed of_run goal.account) in
    let end = end_reached goal.bound explains.sums range explains.marked.run explains.farthest in
    let same = one_value scope rows marks replayed of_run goal in (
      sym its.least.2 ∙ (same its.least.0 explains.sums its.least.1 explains.marked ∙ end),
      sym its.greatest.2
          ∙ (same its.greatest.0 explains.sums its.greatest.1 explains.marked ∙ end),
    )

module _ (known : AllIsKnown) (scope : Scope) (one : OneActList scope) (rows : List Event)
    (marks : List (ℕ × Mark)) (begins : scope.begins ≡ PowerOn (profile_of scope.begins)) where
  -- from power-on, runs with the same marks come to the same sums
  only_sums : (sums other : AllSums) → MarkedRun scope rows marks sums
      → MarkedRun scope rows marks other → (device : Device) → other device ≡ sums device
  only_sums sums other marked also device =
      let run = marked.run in
      let chosen : Choices (acts_of run.pieces) = choices_in run in
      let its = split_with_choices scope.begins run.loss run.pieces run.states sums run.way in
      let others = followed one run.pieces chosen run.act_list marked.are also in
      (one_way (machine_of (PowerOn (profile_of scope.begins)) device)
      (machine_is_one known (profile_of scope.begins) device) (acts_of run.pieces) chosen
      (also.run.states device) (run.states device) (other device) (sums device)
      ((subst (λ b. AllFollow b (acts_of run.pieces) chosen also.run.states other) begins others)
      device)
      ((subst (λ b. AllFollow b (acts_of run.pieces) chosen run.states sums) begins its) device)).1

  -- the report on rows that have a run from power-on with given marks
  pub report_of_run : HasMarkedRun scope rows marks
      → (report : Report) × IsReplayReport scope rows marks report
  report_of_run reached =
      let sums : AllSums = reached.0 in
      let run = reached.1 in
      let only = λ (other : AllSums) (also : MarkedRun scope rows marks other).
      only_sums sums other run also in
      let accounts : AccountName → Account = λ account. account_at (sums_of account sums) in (
        report_of scope (length rows) run.run.pieces accounts,
        record {
          sums = sums;
          reached = run;
          only = only;
          pieces = run.run.pieces;
          act_list = run.run.act_list;
          accounts = accounts;
          of_run = λ account.
              let at = λ (value : AccountSums → ℤ). point (MarkedRun scope rows marks)
              (λ s. value (sums_of account s)) sums run
              (λ other also. ap value (same_sums account other sums (only other also))) in
              record {
                device = at (λ a. pos a.device);
                controller = at (λ a. pos a.controller);
                difference = at (λ a. pos a.device -ℤ pos a.controller);
              };
          telling = refl;
        },
      )
