-- From power-on a machine has one step at most by an act under a choice, from a state: so it has
-- one way through acts with given choices.
use Rattle.mdb_run_search.proofs.Words.{arith, rules, sym, ap, refl, ◌∙◌, ◌≡◌, ◌↔◌, Bool, true, false, List, [], ◌∷◌, Option, Some, IsSomeAnd, append_cancel_left, Device, ReaderCommand, ReaderUnit, Reply, Act, PowerOn, Profile, Choice, Gains, Stays, IsNew, Machine, StateByProfile, own, Choices, Follows, machine_of, Sums, StepOf, base_state, extended_state, machine_in, strayed, Bill, Changer, Reader}
use Rattle.mdb_bus.specs.declared.act.Act.TheVariants as acts
use Rattle.mdb_bus.specs.declared.scope.Profile.TheVariants as profiles
use Rattle.mdb_cash.specs.declared.bill.activity.BillActivity.{BillActivity}
use Rattle.mdb_cash.specs.declared.bill.activity.BillActivity.TheVariants as activity
use Rattle.mdb_cash.specs.declared.bill.state.Escrow.{Escrow}
use Rattle.mdb_machine.specs.declared.kept.Part.{Part}
use Rattle.mdb_cash.specs.Bill as bill
use Rattle.mdb_cash.specs.BillValues as bill_values
use Rattle.mdb_cash.specs.BillFacts as bill_facts
use Rattle.mdb_cash.specs.Changer as changer
use Rattle.mdb_cash.specs.ChangerValues as changer_values
use Rattle.mdb_cash.specs.ChangerFacts as changer_facts
use Rattle.mdb_machine.specs.Keeper.{Facts, Tables}
use Rattle.mdb_machine.specs.KeeperConduct.{AckStep, Conduct, KeeperStep, ReplyStep}
use Rattle.mdb_cash.specs.shared.BillCodes.{same_type}
use Rattle.mdb_cashless.specs.declared.reader.state.ReaderState.{ReaderState}
use Rattle.mdb_cashless.specs.declared.by_profile.state.StateByProfile.TheVariants.{Base, Extended}
use Rattle.mdb_cashless.specs.ByProfile as by_profile
use Rattle.mdb_cashless.specs.ExtendedReader as extended
use Rattle.mdb_cashless.specs.shared.ByProfileWays.{IsPart, base_part, extended_part}
use Rattle.mdb_cashless.specs.Reader as reader
use Rattle.mdb_cashless.specs.ReaderFacts as reader_facts
use Rattle.mdb_cashless.specs.ReaderValues as reader_values
use Rattle.mdb_run_search.proofs.OneApproval.{approval_one}
use Rattle.mdb_run_search.proofs.OneKind.{IsOneStep, own_one}

-- what is new in a kept list is one
one_new : {M : Type 0} (poll : Bool) (held kept one other : List M) → IsNew poll held kept one
    → IsNew poll held kept other → one ≡ other
one_new poll [] kept one other p q = grind arith
one_new poll (message ∷ held) kept one other p q =
    grind (arith, append_cancel_left (message ∷ held) one other)

-- Facts that are known.

-- From power-on all is known: each step of a machine is one after the facts that acts leave.
abbrev pub StepsAfterFacts : {State Facts : Type 0} → (Profile → Machine State)
    → (Profile → List Act → Facts)
    → (Facts → Act → Choice → State → State → Gains → Type 0) → Type 0
StepsAfterFacts {State} machine facts Step =
    (profile : Profile) (so_far : List Act) (act : Act) (choice : Choice) (before after : State)
    (gains : Gains) → (machine profile).Step so_far act choice before after gains
    ↔ Step (facts profile so_far) act choice before after gains

-- so it is with each device
pub record AllIsKnown : Type 0 where
  pub changer : StepsAfterFacts (λ profile. changer.machine (PowerOn profile))
      changer_values.facts_of changer_values.ChangerStep
  pub bill : StepsAfterFacts (λ profile. bill.machine (PowerOn profile))
      bill_values.facts_of bill_values.BillStep
  pub reader : (unit : ReaderUnit) → StepsAfterFacts
      (λ profile. reader.machine unit (PowerOn profile))
      (λ profile. reader_values.facts_of unit) (reader.ReaderStep unit)

-- Then it has one step at most, where there is one after facts.
one_after : {State Facts : Type 0} (machine : Profile → Machine State)
    (facts : Profile → List Act → Facts)
    (Step : Facts → Act → Choice → State → State → Gains → Type 0)
    → StepsAfterFacts machine facts Step
    → ((facts : Facts) (act : Act) (choice : Choice) (before : State)
    → IsOneStep (Step facts act choice before))
    → (profile : Profile) (so_far : List Act) (act : Act) (choice : Choice) (before : State)
    → IsOneStep ((machine profile).Step so_far act choice before)
one_after machine facts Step after is profile so_far act choice before one other gains more p q =
    is (facts profile so_far) act choice before one other gains more
    ((after profile so_far act choice before one gains).0 p)
    ((after profile so_far act choice before other more).0 q)

-- Devices that keep messages: what such a device does of its own is one thing.
record IsOneConduct {Own Setup Asked M State : Type 0} (conduct : Conduct Own Setup Asked M State)
    : Type 0 where
  asks : (facts : Facts Setup Asked M) (command : Own) (before : State)
      → IsOneStep (conduct.Asks facts command before)
  acks : (facts : Facts Setup Asked M) (command : Own) (choice : Choice) (before : State)
      → IsOneStep (conduct.Acks facts command choice before)
  tells : (facts : Facts Setup Asked M) (choice : Choice) (news : List M)
      (before one other : State) → conduct.TellsNews facts choice news before one
      → conduct.TellsNews facts choice news before other → one ≡ other

module _ {Own Setup Asked M State : Type 0} (tables : Tables Own Setup Asked M)
    (conduct : Conduct Own Setup Asked M State) (is : IsOneConduct conduct)
    (facts : Facts Setup Asked M) where
  acks_one : (poll : Bool) (command : Own) (choice : Choice) (before : State)
      → IsOneStep (AckStep conduct facts poll command choice before)
  acks_one true command choice before = λ one other gains more p q. search rules
  acks_one false command choice before = is.acks facts command choice before

  replies_one : (poll : Bool) (parts : List (Part M)) (choice : Choice) (before : State)
      → IsOneStep (ReplyStep conduct facts poll parts choice before)
  replies_one poll parts choice before one other gains more p q =
      let news : p.news ≡ q.news =
      one_new poll _ _ p.news q.news p.has_news.new q.has_news.new in
      (is.tells facts choice q.news _ one other (rw news at p.tells_news) q.tells_news, cc)

  keeper_one : (act : Act) (choice : Choice) (before : State)
      → IsOneStep (KeeperStep tables conduct facts act choice before)
  keeper_one (acts.Ask command) choice before =
      own_one (tables.own command) _ before (λ c. is.asks facts c before)
  keeper_one (acts.Ack command) choice before =
      own_one (tables.own command) _ before (λ c. acks_one (tables.is_poll c) c choice before)
  keeper_one (acts.Reply command reply) choice before = own_one (tables.own command) _ before
      (λ c. replies_one (tables.is_poll c) (tables.parts_of reply) choice before)
  keeper_one (acts.VmcAck command reply) choice before =
      own_one (tables.own command) _ before (λ c one other gains more p q. (cc, cc))
  keeper_one act choice before = λ one other gains more p q. search rules

-- The changer.
changer_is_one : IsOneConduct changer.conduct
changer_is_one = record {
  asks = λ facts command before one other gains more p q. grind arith;
  acks = λ facts command choice before one other gains more p q. grind arith;
  tells = λ facts choice news before one other p q. p.1 ∙ sym q.1;
}

-- The validator.

-- what a message leaves in escrow is one
moves_bill : (facts : bill_facts.Facts) (message : BillActivity) (before one other : Escrow)
    → bill.MovesBill facts message before one → bill.MovesBill facts message before other
    → one ≡ other
moves_bill facts (activity.Escrow number) before one other p q =
    grind (arith, same_type p.0 q.0)
moves_bill facts message before one other p q = search rules

moves_bills : (facts : bill_facts.Facts) (messages : List BillActivity) (before one other : Escrow)
    → bill.MovesBills facts messages before one → bill.MovesBills facts messages before other
    → one ≡ other
moves_bills facts [] before one other p q = p ∙ sym q
moves_bills facts (message ∷ messages) before one other p q =
    let between : p.0 ≡ q.0 = moves_bill facts message before p.0 q.0 p.1 q.1 in
    moves_bills facts messages q.0 one other (rw between at p.2) q.2

bill_is_one : IsOneConduct bill.conduct
bill_is_one = record {
  asks = λ facts command before one other gains more p q. search rules;
  acks = λ facts command choice before one other gains more p q. grind arith;
  tells = λ facts choice news before one other p q.
      λ i. record {
        escrow = moves_bills facts news _ one.escrow other.escrow p.0 q.0 i;
        holds = (p.1 ∙ sym q.1) i;
      };
}

-- A reader.

reader_alike : (one other : ReaderState) → one.device ≡ other.device → one.view ≡ other.view
    → one.holds ≡ other.holds → one ≡ other
reader_alike one other device view holds i =
    record { device = device i; view = view i; holds = holds i }

reader_asks : (facts : reader_facts.Facts) (command : ReaderCommand) (before : ReaderState)
    → IsOneStep (reader.AskStep facts command before)
reader_asks facts command before one other gains more p q =
    (reader_alike one other (cc) (cc) (cc), cc)

reader_replies : (facts : reader_facts.Facts) (command : ReaderCommand) (reply : Reply)
    (choice : Choice) (before : ReaderState)
    → IsOneStep (reader.ReplyStep facts command reply choice before)
reader_replies facts command reply choice before one other gains more p q =
    let news : p.news ≡ q.news = one_new _ _ _ p.news q.news p.has_news.new q.has_news.new in
    (reader_alike one other (cc) (cc) (cc), cc)

reader_one : (unit : ReaderUnit) (facts : reader_facts.Facts) (act : Act) (choice : Choice)
    (before : ReaderState) → IsOneStep (reader.ReaderStep unit facts act choice before)
reader_one unit facts (acts.Ask command) choice before =
    own_one (own unit command) _ before (λ c. reader_asks facts c before)
reader_one unit facts (acts.Ack command) choice before =
    own_one (own unit command) _ before (λ c one other gains more p q. (cc, cc))
reader_one unit facts (acts.Reply command reply) choice before =
    own_one (own unit command) _ before (λ c. reader_replies facts c reply choice before)
reader_one unit facts (acts.VmcAck command reply) choice before =
    own_one (own unit command) _ before (λ c one other gains more p q. (cc, cc))
reader_one unit facts act choice before = λ one other gains more p q. search rules

-- Each machine.

-- a machine that starts in one state, and has one step at most
pub record IsOneMachine {State : Type 0} (machine : Machine State) : Type 0 where
  pub starts : (one other : State) → machine.Starts one → machine.Starts other → one ≡ other
  pub steps : (so_far : List Act) (act : Act) (choice : Choice) (before : State)
      → IsOneStep (machine.Step so_far act choice before)

-- a machine is one where its states are some of others
module _ {State : Type 0} (its_state : StateByProfile → Option State) (part : IsPart its_state)
    (machine : Machine State) (is : IsOneMachine machine) where
  one_start : (one other : StateByProfile) (x y : Option State) → its_state one ≡ x
      → its_state other ≡ y → IsSomeAnd x machine.Starts → IsSomeAnd y machine.Starts → one ≡ other
  one_start one other (Some x) (Some y) p q s t =
      part.only one x p ∙ ap part.into (is.starts x y s t) ∙ sym (part.only other y q)
  one_start one other _ _ p q s t = grind arith

  one_step : (so_far : List Act) (act : Act) (choice : Choice) (place : StateByProfile)
      (from to more : Option State) (one other : StateByProfile) (gains further : Gains)
      → its_state one ≡ to → its_state other ≡ more
      → StepOf (machine.Step so_far act choice) (Stays place one gains) from to gains
      → StepOf (machine.Step so_far act choice) (Stays place other further) from more further
      → (one ≡ other) × (gains ≡ further)
  one_step so_far act choice place (Some x) (Some y) (Some z) one other gains further p q s t =
      let same = is.steps so_far act choice x y z gains further s t in
      (part.only one y p ∙ ap part.into same.0 ∙ sym (part.only other z q), same.1)
  one_step so_far act choice place from to more one other gains further p q s t = grind arith

  is_one_in : (power_on : StateByProfile) → IsOneMachine (machine_in its_state power_on machine)
  is_one_in power_on = record {
    starts = λ one other. one_start one other _ _ refl refl;
    steps = λ so_far act choice before one other gains more.
        one_step so_far act choice (strayed power_on act before) (its_state before) _ _ one other
        gains more refl refl;
  }

-- a reader by the one profile and by the other
reader_is_one : AllIsKnown → (profile : Profile) (unit : ReaderUnit)
    → IsOneMachine (by_profile.machine unit (PowerOn profile))
reader_is_one known profiles.Base unit =
    is_one_in base_state base_part (reader.machine unit (PowerOn profiles.Base)) (record {
      starts = λ one other p q. p ∙ sym q;
      steps = one_after (λ profile. reader.machine unit (PowerOn profile))
          (λ profile. reader_values.facts_of unit) (reader.ReaderStep unit) (known.reader unit)
          (reader_one unit) profiles.Base;
    }) (Base reader.power_on)
reader_is_one known profiles.Extended unit =
    is_one_in extended_state extended_part (extended.machine unit (PowerOn profiles.Extended))
    (record {
      starts = λ one other p q. p ∙ sym q;
      steps = approval_one profiles.Extended unit;
    }) (Extended extended.power_on)

pub machine_is_one : AllIsKnown → (profile : Profile) (device : Device)
    → IsOneMachine (machine_of (PowerOn profile) device)
machine_is_one known profile Changer = record {
  starts = λ one other p q. p ∙ sym q;
  steps = one_after (λ profile. changer.machine (PowerOn profile))
      changer_values.facts_of changer_values.ChangerStep known.changer
      (keeper_one changer_facts.tables changer.conduct changer_is_one) profile;
}
machine_is_one known profile Bill = record {
  starts = λ one other p q. p ∙ sym q;
  steps = one_after (λ profile. bill.machine (PowerOn profile))
      bill_values.facts_of bill_values.BillStep known.bill
      (keeper_one bill_facts.tables bill.conduct bill_is_one) profile;
}
machine_is_one known profile (Reader unit) = reader_is_one known profile unit

-- so it has one way with given choices
module _ {State : Type 0} (machine : Machine State) (is : IsOneMachine machine) where
  pub one_way : (so_far : List Act) (chosen : Choices so_far) (one other : State) (sums more : Sums)
      → Follows machine so_far chosen one sums → Follows machine so_far chosen other more
      → (one ≡ other) × (sums ≡ more)
  one_way [] chosen one other sums more p q = (is.starts one other p.0 q.0, p.1 ∙ sym q.1)
  one_way (act ∷ so_far) chosen one other sums more p q =
      let was = one_way so_far chosen.before p.before q.before p.sums_before q.sums_before p.way
      q.way in
      let step = is.steps so_far act chosen.choice q.before one other p.gains q.gains
      (rw was.0 at p.step) q.step in
      (step.0, cc (was.1, step.1))
