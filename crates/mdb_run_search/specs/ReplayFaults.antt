-- The faults of a replay: the first row that cannot be with given marks, and why; and the first
-- mark that may not stand where it does (this profile). Lists of acts and of pieces stand newest
-- first.
use Rattle.std.specs.Prelude.{◌≡◌, ◌⊎◌, ◌+◌, ◌<◌, ◌≤◌, ◌++◌, ℕ, List, [], ◌∷◌, length, All}
use Rattle.std.specs.Prelude.{Option, Some, None}
use Rattle.mdb_words.specs.declared.event.Event.{Event}
use Rattle.mdb_msgs.specs.declared.command.Device.{Device}
use Rattle.mdb_bus.specs.declared.act.Act.{Act}
use Rattle.mdb_bus.specs.declared.fault.Blame.{Blame}
use Rattle.mdb_bus.specs.declared.fault.Rule.{Rule}
use Rattle.mdb_bus.specs.declared.scope.Profile.{Profile}
use Rattle.mdb_bus.specs.declared.scope.Scope.{Scope}
use Rattle.mdb_bus.specs.Scopes.{profile_of}
use Rattle.mdb_bus.specs.ActLists.{IsActList, Piece, Whole, acts_of}
use Rattle.mdb_machine.specs.declared.choice.Choice.{Choice}
use Rattle.mdb_run_search.specs.declared.mark.Mark.{Mark}
use Rattle.mdb_follow.specs.declared.offence.Offence.{Offence}
use Rattle.mdb_run_search.specs.declared.replay.ReplayFault.{ReplayFault}
use Rattle.mdb_run_search.specs.declared.replay.ReplayFault.TheVariants as faults
use Rattle.mdb_follow.specs.Machines.{machine_of}
use Rattle.mdb_run_search.specs.Marks.{MarkedRun, MayStandOn, choice_by, with_mark}
use Rattle.mdb_follow.specs.Offences.{BreaksLink, act_fault, rule_of}
use Rattle.mdb_follow.specs.Runs.{AllSums}
use Rattle.mdb_run_search.specs.Tracks.{HasNoStepFrom}

-- some run of rows has these marks
abbrev pub HasMarkedRun : Scope → List Event → List (ℕ × Mark) → Type 0
HasMarkedRun scope events marks = (sums : AllSums) × MarkedRun scope events marks sums

-- Marks fall into those that stand at these rows, with which the rows have a run, and those that
-- stand after them.
pub record SplitAt (scope : Scope) (events : List Event) (marks : List (ℕ × Mark)) : Type 0 where
  pub front : List (ℕ × Mark)
  pub back : List (ℕ × Mark)
  pub are : marks ≡ front ++ back
  pub reached : HasMarkedRun scope events front
  pub within : All (λ mark. mark.0 ≤ length events) front
  pub after : All (λ mark. length events < mark.0) back

-- a mark, if there is one, may stand on this act, if there is one
abbrev pub MayStandAt : Profile → Option Mark → Option Act → Type 0
MayStandAt profile None act = Unit {0}
MayStandAt profile (Some mark) None = ⊥
MayStandAt profile (Some mark) (Some act) = MayStandOn profile mark act

-- The machine of a device that a rule is of has no step by an act under a choice, from the state
-- where the run of rows with these marks is.
pub record HasNoMarkedStep (scope : Scope) (events : List Event) (marks : List (ℕ × Mark))
    (broken : Rule) (act : Act) (choice : Choice) (before : List Act) : Type 0 where
  pub device : Device
  pub rule : broken ≡ rule_of device
  pub none : (sums : AllSums) (marked : MarkedRun scope events marks sums)
      → HasNoStepFrom (machine_of scope.begins device) before act choice
      (marked.run.states device)

-- The act that a row ends is one on which its mark may stand, if it has one, and can't have been
-- done under the choice that this tells of.
pub record BreaksMarkedMachine (scope : Scope) (events : List Event) (marks : List (ℕ × Mark))
    (row : Event) (mark : Option Mark) (broken : Rule) (blamed : Blame) : Type 0 where
  pub act : Act
  -- its rows before this one
  pub begun : List Event
  pub earlier : List Piece
  pub act_list : IsActList scope (Whole act (begun ++ row ∷ []) ∷ earlier) (events ++ row ∷ [])
  pub may : MayStandAt (profile_of scope.begins) mark (Some act)
  -- the rule of the device
  pub own : Rule
  pub no_step : HasNoMarkedStep scope events marks own act (choice_by mark) (acts_of earlier)
  pub counts : broken
      ≡ (act_fault scope (Whole act (begun ++ row ∷ []) ∷ earlier) row act own).rule
  pub blame : blamed
      ≡ (act_fault scope (Whole act (begun ++ row ∷ []) ∷ earlier) row act own).blame

-- The offence of a row with a mark or without one, after rows that have a run with these marks:
-- with the row there is none.
pub record IsReplayOffence (scope : Scope) (events : List Event) (marks : List (ℕ × Mark))
    (row : Event) (mark : Option Mark) (offence : Offence) : Type 0 where
  pub reached : HasMarkedRun scope events marks
  pub not_reached : HasMarkedRun scope (events ++ row ∷ [])
      (with_mark (length events + 1) mark marks) → ⊥
  pub number : offence.row ≡ length events + 1
  pub why : BreaksLink scope events row offence.rule offence.blame
      ⊎ BreaksMarkedMachine scope events marks row mark offence.rule offence.blame

-- the newest of pieces is a whole act on which a mark may stand
abbrev pub MayStandOnNewest : Profile → Mark → List Piece → Type 0
MayStandOnNewest profile mark (Whole act events ∷ pieces) = MayStandOn profile mark act
MayStandOnNewest profile mark pieces = ⊥

-- A mark may not stand at a row that can be, after rows that have a run with these marks: with the
-- row and its mark there is none.
pub record IsMarkFault (scope : Scope) (events : List Event) (marks : List (ℕ × Mark))
    (row : Event) (mark : Option Mark) (number : ℕ) : Type 0 where
  pub reached : HasMarkedRun scope events marks
  pub not_reached : HasMarkedRun scope (events ++ row ∷ [])
      (with_mark (length events + 1) mark marks) → ⊥
  pub at : number ≡ length events + 1
  pub standing : Mark
  pub is : mark ≡ Some standing
  pub pieces : List Piece
  pub act_list : IsActList scope pieces (events ++ row ∷ [])
  pub cannot : MayStandOnNewest (profile_of scope.begins) standing pieces → ⊥

-- the fault of a row: its offence, or its mark
abbrev pub IsReplayFault : Scope → List Event → List (ℕ × Mark) → Event → Option Mark
    → ReplayFault → Type 0
IsReplayFault scope events marks row mark (faults.Offence offence) =
    IsReplayOffence scope events marks row mark offence
IsReplayFault scope events marks row mark (faults.Mark number) =
    IsMarkFault scope events marks row mark number

-- the row that a fault is of, from 1
abbrev pub row_of : ReplayFault → ℕ
row_of (faults.Offence offence) = offence.row
row_of (faults.Mark number) = number
