-- The best marks of each device towards a goal, as one list: they explain it.
use Rattle.mdb_run_search.proofs.Words.{arith, refl, sym, ap, ◌∙◌, ◌≡◌, ℕ, ◌+◌, ◌≤◌, inl, inr, [], List, length, Event, Device, IsActList, Piece, acts_of, profile_of, PowerOn, Profile, Scope, Seeker, Goal, Mark, account_device, Choices, device_place, Explains, machine_of, marks_of, own_marks, from_power_on, AllSums, States, AreAllPaths, AreBestMarks, IsMergeOf, IsOfBoth, IsSeeker, below, earlier, same_or_not, follows_as, merged, merged_agrees, OneActList, is_machine_of, AreBestBelow, ℤ, ◌≤ℤ◌, ints, false_from_ne_true, same_device, Bound, Least, Greatest, IsAsFar, goal_value, weight_for, towards, weigh, is_one, itself, HasWay, IsReached}
use Rattle.mdb_msgs.specs.declared.device_set.DeviceSet.{DeviceSet}
use Rattle.mdb_bus.specs.Bus as link
use Rattle.mdb_run_search.proofs.MarkedRuns.{JoinWithChoices, marked-run, marks_rise, rising_one, ways-of}
use Rattle.mdb_run_search.proofs.Merging.{all_merged, anothers, its_own, merged_more, merged_enough, merged_none, with_own}
use Rattle.mdb_run_search.proofs.OwnMarks.{PartsAreTold, all_together, in_own, own_apart, own_in, own_of_merged, own_rise, together_most}
use Rattle.mdb_run_search.proofs.Seeking.{has-way}

-- what the sums of the goal's device count is the goal's value, towards its end
goal-weighed : (goal : Goal) (sums : AllSums)
    → weigh (weight_for goal (account_device goal.account)) (sums (account_device goal.account))
    ≡ towards goal.bound (goal_value goal sums)
goal-weighed goal sums = rw (itself (account_device goal.account))

-- where two runs come to the same value of the goal, the sums of each device count the same in
-- both: those of another device than the goal's count nothing
same-weighed : (goal : Goal) (device : Device) (one other : AllSums)
    → goal_value goal one ≡ goal_value goal other
    → weigh (weight_for goal device) (one device) ≡ weigh (weight_for goal device) (other device)
same-weighed goal device one other same =
    let its = account_device goal.account in
    elim (same_or_not its device) [
      | inl is ↦ rw (← is)
          (goal-weighed goal one ∙ ap (towards goal.bound) same ∙ sym (goal-weighed goal other))
      | inr apart ↦
          rw (false_from_ne_true (same_device its device) (λ is. apart (is_one its device is)))
    ]

-- what counts less is at least as far
as-far : (bound : Bound) (one other : ℤ) → towards bound one ≤ℤ towards bound other
    → IsAsFar bound one other
as-far Least one other less = less
as-far Greatest one other less = omega (arith, ints)

-- what the laws say: ways with the same choices join, rows have one act list, and it is told
-- whether a device has a part in an act
pub record ExplainLaws : Type 0 where
  pub joins : JoinWithChoices
  pub one_list : (scope : Scope) → OneActList scope
  pub told : PartsAreTold

module _ (laws : ExplainLaws) (profile : Profile) (without : DeviceSet) (events : List Event)
    (pieces : List Piece) (list : IsActList (from_power_on profile without) pieces events) where
  abbrev Here : Scope
  Here = from_power_on profile without

  module _ (goal : Goal) (marks : Device → List (ℕ × Mark))
      (best : (device : Device) → AreBestMarks profile goal pieces device (marks device)) where
    abbrev Chosen : Choices (acts_of pieces)
    Chosen = merged (acts_of pieces) (λ device. (best device).choices)

    -- of what all choose together each device has the marks of its own way
    each : (device : Device) → own_marks device pieces Chosen ≡ marks device
    each device =
        own_of_merged laws.told device pieces (λ d. (best d).choices) ∙ sym (best device).are

    -- the marks of each device as one list are those of what all choose together
    merge_is : (merge : List (ℕ × Mark)) → IsMergeOf marks merge → marks_of pieces Chosen ≡ merge
    merge_is merge is =
        rising_one (marks_of pieces Chosen) merge (marks_rise Here pieces Chosen list.in_order)
        is.rise (λ mark. (
          (λ has. let found = in_own pieces Chosen mark has in
              is.own found.0 mark (rw (each found.0) at found.1)),
          (λ has. let found = is.some mark has in
              own_in found.0 pieces Chosen mark (rw (each found.0) found.1)),
        ))

    -- the marks of a best way of each device, as one list, explain the goal
    explained : (merge : List (ℕ × Mark)) → IsMergeOf marks merge
        → Explains Here events goal merge
    explained merge is =
        let states : States = λ device. (best device).state in
        let sums : AllSums = λ device. (best device).sums in
        record {
          sums = sums;
          marked = rw (merge_is merge is) at (marked-run laws.joins list Chosen states sums
              (λ device. follows_as device (machine_of (PowerOn profile) device)
              (is_machine_of (PowerOn profile) device) (acts_of pieces) (best device).choices
              Chosen (merged_agrees (acts_of pieces) (λ d. (best d).choices) device)
              (states device) (sums device) (best device).way));
          farthest = λ other run.
              let ways = ways-of (laws.one_list Here) pieces list
              (record { run = run; are = refl }) in
              let device : Device = account_device goal.account in
              let good = (best device).least (run.states device) (other device) ways.chosen
              (ways.ways device) in
              as-far goal.bound (goal_value goal sums) (goal_value goal other)
              (omega (arith, ints, good, goal-weighed goal sums, goal-weighed goal other));
          fewest = λ others other marked as_good.
              let ways = ways-of (laws.one_list Here) pieces list marked in
              let no_more = together_most (λ device. own_marks device pieces Chosen)
              (λ device. own_marks device pieces ways.chosen)
              (λ device. rw (each device) (((best device).least (marked.run.states device)
              (other device) ways.chosen (ways.ways device)).no_more
              (same-weighed goal device sums other (sym as_good)))) in
              omega (
                arith,
                ap length (merge_is merge is),
                all_together pieces Chosen,
                ap length ways.are,
                all_together pieces ways.chosen,
                no_more,
              );
        }

  -- so all of them explain the goal
  pub explained_all : (goal : Goal) (all : List (ℕ × Mark))
      → AreBestBelow profile goal pieces 4 all → Explains Here events goal all
  explained_all goal all is =
      let best = λ (device : Device). is.best device (below device) in
      let chosen : Choices (acts_of pieces) =
      merged (acts_of pieces) (λ device. (best device).choices) in
      let own = each goal is.of best in
      explained goal is.of best all (all_merged is.of all
      (λ device. rw (own device) at (own_rise Here device pieces chosen list.in_order))
      (λ x y differ mark next has its same. differ
      (own_apart Here pieces chosen list.in_order x y mark next (rw (own x) has)
      (rw (own y) its) same))
      is.merge)

-- of no device there are no marks
pub best_none : {profile : Profile} {goal : Goal} {pieces : List Piece}
    → AreBestBelow profile goal pieces 0 []
best_none = record {
  of = λ device. [];
  best = λ device less. absurd (omega (arith, less));
  merge = merged_none (λ device. []);
}

module _ {profile : Profile} {goal : Goal} {pieces : List Piece} {count : ℕ}
    {marks : List (ℕ × Mark)} (is : AreBestBelow profile goal pieces count marks) where
  -- with those of a best way of the next device they are those of one device more
  pub best_more : {own both : List (ℕ × Mark)} (next : Device) → device_place next ≡ count
      → AreBestMarks profile goal pieces next own → IsOfBoth marks own both
      → AreBestBelow profile goal pieces (count + 1) both
  best_more {own} {both} next at best whole = record {
    of = with_own next own is.of;
    best = λ device less. elim (same_or_not device next) [
      | inl same ↦ rw (its_own next own is.of device same, same) best
      | inr apart ↦ rw (anothers next own is.of device apart)
          (is.best device (earlier count next device at less apart))
    ];
    merge = merged_more next own is.of count at marks both is.merge whole;
  }

  pub best_enough : 4 ≤ count → AreBestBelow profile goal pieces 4 marks
  best_enough enough = record {
    of = is.of;
    best = λ device less. is.best device (omega (arith, less, enough));
    merge = merged_enough is.of marks count enough is.merge;
  }

module _ {goal : Goal} {events : List Event} {seeker : Seeker}
    (on : IsSeeker goal events seeker) (profile : Profile) (without : DeviceSet)
    (same : link.scope_of seeker.bus ≡ from_power_on profile without) where
  -- the pieces of a seeker are the act list of its rows
  pub list-of-seeker : IsActList (from_power_on profile without) on.pieces events
  list-of-seeker = record { in_order = rw same at on.on_bus.in_order; whole = on.whole }

  -- its paths are those by the profile of the scope, and where its rows are reached there are some
  pub ways-of-seeker : OneActList (from_power_on profile without)
      → IsReached (from_power_on profile without) events
      → AreAllPaths profile goal on.pieces seeker.all
      × ((device : Device) → HasWay profile on.pieces device)
  ways-of-seeker one reached =
      let by : on.profile ≡ profile =
      ap profile_of (sym on.begins ∙ ap (λ (s : Scope). s.begins) same) in
      (rw by at on.paths, has-way profile refl one list-of-seeker reached)
