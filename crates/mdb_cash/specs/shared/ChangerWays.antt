-- That acts of other devices change nothing and tell nothing, so that facts and steps depend on its
-- own acts alone. This proves laws of the trait `Pair` for the changer.
use Rattle.std.specs.Prelude.{◌≡◌, ◌≢◌, ◌↔◌, ◌⊎◌, ◌&&◌, ℕ, Bool, true, false, List, [], ◌∷◌, Option, Some, None, refl, option_map, if◌then◌else◌}
use Rattle.std.specs.List.{All, AllByRecursion}
use Rattle.std.proofs.Common.{ap, sym, ◌∙◌, inl, inr}
use Rattle.std.proofs.lemmas.Bool.{eq-eqb}
use Rattle.mdb_msgs.specs.declared.command.Device.TheVariants as devices
use Rattle.mdb_msgs.specs.declared.command.Command.TheVariants.{Changer, Bill, Reader}
use Rattle.mdb_msgs.specs.declared.command.ChangerCommand.{ChangerCommand}
use Rattle.mdb_msgs.specs.declared.command.ChangerCommand.TheVariants as changer
use Rattle.mdb_bus.specs.declared.act.Act.{Act}
use Rattle.mdb_bus.specs.declared.scope.Beginning.{Beginning}
use Rattle.mdb_bus.specs.declared.scope.Beginning.TheVariants.{PowerOn}
use Rattle.mdb_bus.specs.declared.scope.Profile.{Profile}
use Rattle.mdb_cash.specs.declared.changer.activity.ChangerActivity.{ChangerActivity}
use Rattle.mdb_cash.specs.declared.changer.activity.ChangerActivity.TheVariants.{CashBox, Dispensed, Tube}
use Rattle.mdb_cash.specs.declared.changer.state.ChangerState.{ChangerState}
use Rattle.mdb_machine.specs.declared.choice.Choice.{Choice}
use Rattle.mdb_machine.specs.declared.choice.Choice.TheVariants.{Plain, Lost, Restart, Again}
use Rattle.mdb_machine.specs.declared.gains.Gains.{Gains}
use Rattle.mdb_cash.specs.Changer.{AskStep, MayBeNew, TakeStep, conduct, dispensed_value, is_last, machine, power_on}
use Rattle.mdb_cash.specs.ChangerAmounts.{unvalued}
use Rattle.mdb_cash.specs.ChangerValues.{ChangerStep, Value, known_in}
use Rattle.mdb_cash.specs.ChangerFacts.{Facts, KnownFacts, asked_of, known_of, own, tables}
use Rattle.mdb_machine.specs.Gains.{Stays, controller_gains, in_slots, no_gains}
use Rattle.mdb_machine.specs.shared.KeeperPlain.{LooksAway, as_plain}
use Rattle.mdb_machine.specs.shared.Guesses.{Overlooks, guessing}
use Rattle.mdb_machine.specs.shared.KeeperWays as keeper_ways
use Rattle.mdb_machine.specs.shared.KnowingWays.{all_known, all_settled, as_choice, knows, some_facts, starts_in, stays}
use Rattle.mdb_machine.specs.Keeper.{asked_by, parts_by}
use Rattle.mdb_machine.specs.KeeperValues.{settled}
use Rattle.mdb_machine.specs.Past.{last_list, last_told}
use Rattle.mdb_machine.specs.Pair.{IsActOf, IsBreak, IsMachineOf, own_acts}
use Rattle.mdb_machine.specs.shared.StepWays as step_ways
use Rattle.mdb_machine.specs.shared.StepWays.{IsOwnOf, no_approval}

-- commands that aren't to it are none of its own
is_own : IsOwnOf devices.Changer own
is_own (Changer command) other = absurd (other refl)
is_own (Bill command) other = refl
is_own (Reader unit command) other = refl

pub elsewhere : (facts : Facts) (act : Act) (choice : Choice) (before after : ChangerState)
    (gains : Gains) → (IsActOf devices.Changer act → ⊥)
    → ChangerStep facts act choice before after gains ↔ Stays before after gains
elsewhere facts = step_ways.elsewhere own _ is_own

-- an ACK of the changer is heard or lost
as_ack : (facts : Facts) (command : ChangerCommand) (choice : Choice) (before after : ChangerState)
    (gains : Gains) → choice ≢ Lost → TakeStep facts command choice before after gains
    → TakeStep facts command Plain before after gains
as_ack facts (changer.Dispense coins) Lost before after gains heard step = absurd (heard refl)
as_ack facts (changer.Dispense coins) choice before after gains heard step = step
as_ack facts command choice before after gains heard step = step

looks_away : LooksAway conduct
looks_away = record {
  acks = as_ack;
  tells_news = λ facts choice news before after runs step. step;
}

-- what the changer does of its own overlooks what it isn't known that it holds, and an ask for
-- coins is the last one again or another
asks_other : (facts : Facts) (kept : List ChangerActivity) (command : ChangerCommand)
    (before after : ChangerState) (gains : Gains) → AskStep facts command before after gains
    → AskStep (guessing facts facts.last_asked kept) command before after gains
asks_other facts kept (changer.Dispense coins) before after gains step = step
asks_other facts kept changer.Reset before after gains step = step
asks_other facts kept _ before after gains step = step

asks_nothing : (facts : Facts) (asked : Option ℕ) (command : ChangerCommand)
    (before after : ChangerState) (gains : Gains) → asked_of command ≡ None
    → AskStep facts command before after gains
    → AskStep (guessing facts asked facts.past.last_kept) command before after gains
asks_nothing facts asked (changer.Dispense coins) before after gains none step = absurd cc
asks_nothing facts asked changer.Reset before after gains none step = step
asks_nothing facts asked _ before after gains none step = step

again_or_not : (facts : Facts) (coins : ℕ) (before after : ChangerState) (gains : Gains)
    (again : Bool)
    → is_last facts.last_asked coins ≡ again
    → AskStep facts (changer.Dispense coins) before after gains
    → AskStep (guessing facts None facts.past.last_kept) (changer.Dispense coins) before after gains
    ⊎ AskStep (guessing facts (Some coins) facts.past.last_kept) (changer.Dispense coins) before
    after gains
again_or_not facts coins before after gains true is step = inr (
  step.0,
  step.1
      ∙ ap (λ a. if before.dispense_owed && a then no_gains
      else controller_gains (in_slots (0 ∷ dispensed_value facts.setup coins ∷ [])))
      (is ∙ sym (eq-eqb coins coins refl)),
)
again_or_not facts coins before after gains false is step = inl (
  step.0,
  step.1
      ∙ ap (λ a. if before.dispense_owed && a then no_gains
      else controller_gains (in_slots (0 ∷ dispensed_value facts.setup coins ∷ []))) is,
)

asks_again : (facts : Facts) (command : ChangerCommand) (before after : ChangerState)
    (gains : Gains)
    → AskStep facts command before after gains
    → AskStep (guessing facts None facts.past.last_kept) command before after gains
    ⊎ AskStep (guessing facts (asked_of command) facts.past.last_kept) command before after gains
asks_again facts (changer.Dispense coins) before after gains step =
    again_or_not facts coins before after gains (is_last facts.last_asked coins) refl step
asks_again facts changer.Reset before after gains step = inl step
asks_again facts _ before after gains step = inl step

acks_other : (facts : Facts) (asked : Option ℕ) (kept : List ChangerActivity)
    (command : ChangerCommand) (choice : Choice) (before after : ChangerState) (gains : Gains)
    → TakeStep facts command choice before after gains
    → TakeStep (guessing facts asked kept) command choice before after gains
acks_other facts asked kept changer.Reset choice before after gains step = step
acks_other facts asked kept (changer.Dispense coins) choice before after gains step = step
acks_other facts asked kept _ choice before after gains step = step

may_all : (facts : Facts) (asked : Option ℕ) (kept news : List ChangerActivity)
    → AllByRecursion (MayBeNew facts) news
    → AllByRecursion (MayBeNew (guessing facts asked kept)) news
may_all facts asked kept [] all = tt
may_all facts asked kept (CashBox coin ∷ news) all = (all.0, may_all facts asked kept news all.1)
may_all facts asked kept (Tube coin ∷ news) all = (all.0, may_all facts asked kept news all.1)
may_all facts asked kept (Dispensed count coin ∷ news) all =
    (all.0, may_all facts asked kept news all.1)

pub overlooks : Overlooks tables conduct
overlooks = record {
  asks = asks_other;
  asks_nothing = asks_nothing;
  asks_again = asks_again;
  acks = acks_other;
  tells_news = λ facts asked kept choice news before after step.
      (may_all facts asked kept news step.0, step.1);
  gain = λ facts asked kept. refl;
}

-- the machine is one of the device
pub is_machine : (begins : Beginning) → IsMachineOf devices.Changer (machine begins)
is_machine begins = record {
  elsewhere = λ so_far act choice before after gains other.
      stays (CashBox 0) tables conduct (known_of begins so_far) act choice before after gains
      (λ facts. elsewhere facts act choice before after gains other);
  own = keeper_ways.own_steps tables conduct is_own begins;
  breaks = λ so_far length choice before.
      let some = some_facts (CashBox 0) (known_of begins so_far) before.holds in
      (power_on, no_gains, record { facts = some.0; allowed = some.1; step = (refl, refl) });
  starts_over = λ so_far length choice before after gains step.
      (starts_in power_on begins after step.step.0, step.step.1);
  as_plain = λ so_far act choice before after gains barred.
      as_choice tables conduct (known_of begins so_far) act choice Plain before after gains
      (λ facts. as_plain tables conduct looks_away facts act choice before after gains barred);
  restarts = λ so_far act before after gains approving.
      as_choice tables conduct (known_of begins so_far) act Restart Again before after gains
      (λ facts step. let other = no_approval devices.Changer (λ unit same. absurd cc) act approving
      in
      (elsewhere facts act Again before after gains other).1
      ((elsewhere facts act Restart before after gains other).0 step));
}

pub some_start : (begins : Beginning) → (state : ChangerState) × (machine begins).Starts state
some_start begins = (power_on, starts_in power_on begins power_on refl)

known_settles : (known : Value) (act : Act) → known.knows_asked ≡ true → known.knows_kept ≡ true
    → settled tables known.knows_asked known.knows_kept act ≡ true
known_settles known act asked kept =
    ap (λ a. settled tables a known.knows_kept act) asked
    ∙ ap (λ k. settled tables true k act) kept ∙ all_settled tables act

pub settled_from_power_on : (profile : Profile) (known : Value) (so_far : List Act) (act : Act)
    → known_in known ≡ known_of (PowerOn profile) so_far
    → settled tables known.knows_asked known.knows_kept act ≡ true
settled_from_power_on profile known so_far act is = known_settles known act
    (knows known.knows_asked known.facts.last_asked _ (ap (λ k. k.last_asked) is)
    (all_known profile None (option_map (λ (a : ℕ). Some a) (last_told (asked_by tables) so_far))))
    (knows known.knows_kept known.facts.past.last_kept.items _ (ap (λ k. k.past.last_kept) is)
    (all_known profile [] (last_list (parts_by tables) so_far)))

pub untold : (begins : Beginning) (so_far : List Act) (act : Act)
    → (IsActOf devices.Changer act → ⊥) → unvalued begins (act ∷ so_far) ≡ unvalued begins so_far
untold = keeper_ways.untold tables conduct is_own

pub unmoved : (begins : Beginning) (known : KnownFacts) (before : List Act) (act : Act)
    → (IsActOf devices.Changer act → ⊥) → known ≡ known_of begins before
    → known ≡ known_of begins (act ∷ before)
unmoved = keeper_ways.unmoved tables is_own

-- what is known depends on its own acts alone
pub same_facts : (begins : Beginning) (so_far other : List Act)
    → own_acts devices.Changer so_far ≡ own_acts devices.Changer other
    → known_of begins so_far ≡ known_of begins other
same_facts = keeper_ways.same_facts tables is_own

pub same_unvalued : (begins : Beginning) (so_far other : List Act)
    → own_acts devices.Changer so_far ≡ own_acts devices.Changer other
    → unvalued begins so_far ≡ unvalued begins other
same_unvalued = keeper_ways.same_unvalued tables conduct is_own

-- after breaks alone its setup table is that of no act, and no amount was told
pub no_setup : (begins : Beginning) (so_far : List Act)
    → All IsBreak (own_acts devices.Changer so_far)
    → (known_of begins so_far).setup ≡ (known_of begins []).setup
no_setup = keeper_ways.no_setup tables is_own

pub none_told : (begins : Beginning) (so_far : List Act)
    → All IsBreak (own_acts devices.Changer so_far) → unvalued begins so_far ≡ 0
none_told = keeper_ways.none_told tables conduct is_own
