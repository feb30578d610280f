-- The first row that cannot be, and why.
use Rattle.std.specs.Prelude.{◌≡◌, ◌⊎◌, ◌+◌, ◌++◌, List, [], ◌∷◌, length}
use Rattle.mdb_words.specs.declared.event.Event.{Event}
use Rattle.mdb_msgs.specs.declared.command.Device.{Device}
use Rattle.mdb_bus.specs.declared.act.Act.{Act}
use Rattle.mdb_bus.specs.declared.fault.Blame.{Blame}
use Rattle.mdb_bus.specs.declared.fault.LinkFault.{LinkFault}
use Rattle.mdb_bus.specs.declared.fault.Rule.{Rule}
use Rattle.mdb_bus.specs.ActLists.{Piece, Whole, IsActList, acts_of}
use Rattle.mdb_bus.specs.ExtendedHaste.{counted_in, haste_of}
use Rattle.mdb_bus.specs.LinkFaults.{IsLinkFault}
use Rattle.mdb_bus.specs.declared.scope.Beginning.{Beginning}
use Rattle.mdb_machine.specs.declared.choice.Choice.{Choice}
use Rattle.mdb_machine.specs.declared.gains.Gains.{Gains}
use Rattle.mdb_machine.specs.Choices.{CanStand}
use Rattle.mdb_machine.specs.Machine.{Machine}
use Rattle.mdb_follow.specs.Arrivals.{Arrives}
use Rattle.mdb_follow.specs.Devices.{spec_of}
use Rattle.mdb_follow.specs.Machines.{machine_of}
use Rattle.mdb_follow.specs.Sums.{Sums}
use Rattle.mdb_follow.specs.declared.offence.Offence.{Offence}
use Rattle.mdb_follow.specs.Runs.{IsReached}
use Rattle.mdb_follow.specs.Senders.{sender_of}
use Rattle.mdb_bus.specs.declared.scope.Scope.{Scope}

-- a row breaks a rule of the link, after rows that have an act list
pub record BreaksLink (scope : Scope) (events : List Event) (row : Event) (broken : Rule)
    (blamed : Blame) : Type 0 where
  pub pieces : List Piece
  pub act_list : IsActList scope pieces events
  pub fault : IsLinkFault scope pieces row broken blamed

-- From no state to which a way through the acts before leads is there a step by an act, whatever
-- its rows leave open: whether an ACK was heard, and whether a reply tells of a restart.
abbrev pub HasNoStep : {State : Type 0} → Machine State → Act → List Act → Type 0
HasNoStep {State} machine act before =
    (state : State) (sums : Sums) → Arrives machine before state sums → (choice : Choice)
    → CanStand act choice → (after : State) (gains : Gains)
    → machine.Step before act choice state after gains → ⊥

-- the rule that is broken where a device's machine has no step
abbrev pub rule_of : Device → Rule
rule_of device = (spec_of device).rule

-- The machine of a device that a rule is of has no step by an act.
pub record NoStep (begins : Beginning) (broken : Rule) (act : Act) (before : List Act)
    : Type 0 where
  pub device : Device
  pub rule : broken ≡ rule_of device
  pub none : HasNoStep (machine_of begins device) act before

-- the fault of a row that ends an act by which a machine has no step, where its own rule is this:
-- in haste that the controller was early
abbrev pub act_fault : Scope → List Piece → Event → Act → Rule → LinkFault
act_fault scope pieces row act own =
    counted_in (haste_of scope pieces) row (record { rule = own; blame = sender_of act })

-- The act that a row ends can't have been done by its device and the controller.
pub record BreaksMachine (scope : Scope) (events : List Event) (row : Event) (broken : Rule)
    (blamed : Blame) : Type 0 where
  pub act : Act
  -- its rows before this one
  pub begun : List Event
  pub earlier : List Piece
  pub act_list : IsActList scope (Whole act (begun ++ row ∷ []) ∷ earlier) (events ++ row ∷ [])
  -- the rule of the device
  pub own : Rule
  pub no_step : NoStep scope.begins own act (acts_of earlier)
  pub counts : broken
      ≡ (act_fault scope (Whole act (begun ++ row ∷ []) ∷ earlier) row act own).rule
  pub blame : blamed
      ≡ (act_fault scope (Whole act (begun ++ row ∷ []) ∷ earlier) row act own).blame

-- the offence of a row after rows that are reached: the row isn't
pub record IsOffence (scope : Scope) (events : List Event) (row : Event) (offence : Offence)
    : Type 0 where
  pub reached : IsReached scope events
  pub not_reached : IsReached scope (events ++ row ∷ []) → ⊥
  pub number : offence.row ≡ length events + 1
  pub why : BreaksLink scope events row offence.rule offence.blame
      ⊎ BreaksMachine scope events row offence.rule offence.blame
