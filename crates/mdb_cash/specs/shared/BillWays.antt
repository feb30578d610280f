-- That acts of other devices change nothing and tell nothing, so that facts and steps depend on its
-- own acts alone. This proves laws of the trait `Pair` for the validator.
use Rattle.std.specs.Prelude.{◌≡◌, ◌≢◌, ◌↔◌, true, List, [], ◌∷◌, Option, Some, None, refl, option_map}
use Rattle.std.specs.List.{All}
use Rattle.std.specs.declared.convert.Infallible.{Infallible}
use Rattle.std.proofs.Common.{ap, ◌∙◌, inl}
use Rattle.mdb_msgs.specs.declared.command.Device.TheVariants as devices
use Rattle.mdb_msgs.specs.declared.command.Command.TheVariants.{Changer, Bill, Reader}
use Rattle.mdb_bus.specs.declared.act.Act.{Act}
use Rattle.mdb_bus.specs.declared.scope.Beginning.{Beginning}
use Rattle.mdb_bus.specs.declared.scope.Beginning.TheVariants.{PowerOn}
use Rattle.mdb_bus.specs.declared.scope.Profile.{Profile}
use Rattle.mdb_cash.specs.declared.bill.activity.BillActivity.{BillActivity}
use Rattle.mdb_cash.specs.declared.bill.activity.BillActivity.TheVariants as activity
use Rattle.mdb_cash.specs.declared.bill.activity.BillActivity.TheVariants.{Stacked}
use Rattle.mdb_cash.specs.declared.bill.state.Escrow.{Escrow}
use Rattle.mdb_machine.specs.declared.choice.Choice.TheVariants.{Plain, Restart, Again}
use Rattle.mdb_cash.specs.declared.bill.state.BillState.{BillState}
use Rattle.mdb_machine.specs.declared.choice.Choice.{Choice}
use Rattle.mdb_machine.specs.declared.gains.Gains.{Gains}
use Rattle.mdb_cash.specs.Bill.{MovesBill, MovesBills, conduct, machine, power_on}
use Rattle.mdb_cash.specs.BillAmounts.{unvalued}
use Rattle.mdb_cash.specs.BillValues.{BillStep, Value, known_in}
use Rattle.mdb_cash.specs.BillFacts.{Facts, KnownFacts, known_of, own, tables}
use Rattle.mdb_machine.specs.Gains.{Stays, no_gains}
use Rattle.mdb_machine.specs.shared.KeeperPlain.{LooksAway, as_plain}
use Rattle.mdb_machine.specs.shared.Guesses.{Overlooks, guessing}
use Rattle.mdb_machine.specs.shared.KeeperWays as keeper_ways
use Rattle.mdb_machine.specs.shared.KnowingWays.{all_known, all_settled, as_choice, knows, some_facts, starts_in, stays}
use Rattle.mdb_machine.specs.Keeper.{asked_by, parts_by}
use Rattle.mdb_machine.specs.KeeperValues.{settled}
use Rattle.mdb_machine.specs.Past.{last_list, last_told}
use Rattle.mdb_machine.specs.Pair.{IsActOf, IsBreak, IsMachineOf, own_acts}
use Rattle.mdb_machine.specs.shared.StepWays as step_ways
use Rattle.mdb_machine.specs.shared.StepWays.{IsOwnOf, no_approval}

-- commands that aren't to it are none of its own
is_own : IsOwnOf devices.Bill own
is_own (Bill command) other = absurd (other refl)
is_own (Changer command) other = refl
is_own (Reader unit command) other = refl

pub elsewhere : (facts : Facts) (act : Act) (choice : Choice) (before after : BillState)
    (gains : Gains) → (IsActOf devices.Bill act → ⊥)
    → BillStep facts act choice before after gains ↔ Stays before after gains
elsewhere facts = step_ways.elsewhere own _ is_own

-- new messages that tell of no restart leave what is in escrow
news_as_plain : (facts : Facts) (choice : Choice) (news : List BillActivity)
    (before after : BillState) → choice ≢ Restart
    → conduct.TellsNews facts choice news before after
    → conduct.TellsNews facts Plain news before after
news_as_plain facts Restart news before after runs step = absurd (runs refl)
news_as_plain facts choice news before after runs step = step

looks_away : LooksAway conduct
looks_away = record {
  acks = λ facts command choice before after gains heard step. step;
  tells_news = news_as_plain;
}

-- what the validator does of its own overlooks what it isn't known that it holds
moves_one : (facts : Facts) (asked : Option Infallible) (kept : List BillActivity)
    (message : BillActivity)
    (before after : Escrow) → MovesBill facts message before after
    → MovesBill (guessing facts asked kept) message before after
moves_one facts asked kept (activity.Stacked number) before after moves = moves
moves_one facts asked kept (activity.Escrow number) before after moves = moves
moves_one facts asked kept (activity.Returned number) before after moves = moves
moves_one facts asked kept (activity.Recycled number) before after moves = moves

moves_all : (facts : Facts) (asked : Option Infallible) (kept news : List BillActivity)
    (before after : Escrow) → MovesBills facts news before after
    → MovesBills (guessing facts asked kept) news before after
moves_all facts asked kept [] before after moves = moves
moves_all facts asked kept (message ∷ news) before after moves = (
  moves.0,
  moves_one facts asked kept message before moves.0 moves.1,
  moves_all facts asked kept news moves.0 after moves.2,
)

pub overlooks : Overlooks tables conduct
overlooks = record {
  asks = λ facts kept command before after gains step. step;
  asks_nothing = λ facts asked command before after gains none step. step;
  asks_again = λ facts command before after gains step. inl step;
  acks = λ facts asked kept command choice before after gains step. step;
  tells_news = λ facts asked kept choice news before after step. (
    moves_all facts asked kept news _ after.escrow step.0,
    step.1,
  );
  gain = λ facts asked kept. refl;
}

-- the machine is one of the device
pub is_machine : (begins : Beginning) → IsMachineOf devices.Bill (machine begins)
is_machine begins = record {
  elsewhere = λ so_far act choice before after gains other.
      stays (Stacked 0) tables conduct (known_of begins so_far) act choice before after gains
      (λ facts. elsewhere facts act choice before after gains other);
  own = keeper_ways.own_steps tables conduct is_own begins;
  breaks = λ so_far length choice before.
      let some = some_facts (Stacked 0) (known_of begins so_far) before.holds in
      (power_on, no_gains, record { facts = some.0; allowed = some.1; step = (refl, refl) });
  starts_over = λ so_far length choice before after gains step.
      (starts_in power_on begins after step.step.0, step.step.1);
  as_plain = λ so_far act choice before after gains barred.
      as_choice tables conduct (known_of begins so_far) act choice Plain before after gains
      (λ facts. as_plain tables conduct looks_away facts act choice before after gains barred);
  restarts = λ so_far act before after gains approving.
      as_choice tables conduct (known_of begins so_far) act Restart Again before after gains
      (λ facts step. let other = no_approval devices.Bill (λ unit same. absurd cc) act approving in
      (elsewhere facts act Again before after gains other).1
      ((elsewhere facts act Restart before after gains other).0 step));
}

pub some_start : (begins : Beginning) → (state : BillState) × (machine begins).Starts state
some_start begins = (power_on, starts_in power_on begins power_on refl)

known_settles : (known : Value) (act : Act) → known.knows_asked ≡ true → known.knows_kept ≡ true
    → settled tables known.knows_asked known.knows_kept act ≡ true
known_settles known act asked kept =
    ap (λ a. settled tables a known.knows_kept act) asked
    ∙ ap (λ k. settled tables true k act) kept ∙ all_settled tables act

pub settled_from_power_on : (profile : Profile) (known : Value) (so_far : List Act) (act : Act)
    → known_in known ≡ known_of (PowerOn profile) so_far
    → settled tables known.knows_asked known.knows_kept act ≡ true
settled_from_power_on profile known so_far act is = known_settles known act
    (knows known.knows_asked known.facts.last_asked _ (ap (λ k. k.last_asked) is)
    (all_known profile None
    (option_map (λ (a : Infallible). Some a) (last_told (asked_by tables) so_far))))
    (knows known.knows_kept known.facts.past.last_kept.items _ (ap (λ k. k.past.last_kept) is)
    (all_known profile [] (last_list (parts_by tables) so_far)))

pub untold : (begins : Beginning) (so_far : List Act) (act : Act)
    → (IsActOf devices.Bill act → ⊥) → unvalued begins (act ∷ so_far) ≡ unvalued begins so_far
untold = keeper_ways.untold tables conduct is_own

pub unmoved : (begins : Beginning) (known : KnownFacts) (before : List Act) (act : Act)
    → (IsActOf devices.Bill act → ⊥) → known ≡ known_of begins before
    → known ≡ known_of begins (act ∷ before)
unmoved = keeper_ways.unmoved tables is_own

-- what is known depends on its own acts alone
pub same_facts : (begins : Beginning) (so_far other : List Act)
    → own_acts devices.Bill so_far ≡ own_acts devices.Bill other
    → known_of begins so_far ≡ known_of begins other
same_facts = keeper_ways.same_facts tables is_own

pub same_unvalued : (begins : Beginning) (so_far other : List Act)
    → own_acts devices.Bill so_far ≡ own_acts devices.Bill other
    → unvalued begins so_far ≡ unvalued begins other
same_unvalued = keeper_ways.same_unvalued tables conduct is_own

-- after breaks alone its setup table is that of no act, and no amount was told
pub no_setup : (begins : Beginning) (so_far : List Act) → All IsBreak (own_acts devices.Bill so_far)
    → (known_of begins so_far).setup ≡ (known_of begins []).setup
no_setup = keeper_ways.no_setup tables is_own

pub none_told : (begins : Beginning) (so_far : List Act)
    → All IsBreak (own_acts devices.Bill so_far) → unvalued begins so_far ≡ 0
none_told = keeper_ways.none_told tables conduct is_own
