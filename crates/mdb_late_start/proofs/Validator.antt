-- What the validator does, it may do in mid-session: what is so of its conduct.
use Rattle.mdb_late_start.proofs.Words.{◌≡◌, ℕ, zero, suc, true, false, List, [], ◌∷◌, refl, ap, AllByRecursion, Setups, Beginning, Choice, Gains, in_slots, kept_of, MayJoinLate}
use Rattle.mdb_msgs.specs.declared.command.Device.TheVariants as devices
use Rattle.mdb_late_start.proofs.Keepers.{IsEnabledIn, IsSteady, as_it_is, in_end, recorded, step_in_end, told_first, told_on}
use Rattle.mdb_msgs.specs.declared.command.BillCommand.{BillCommand}
use Rattle.mdb_msgs.specs.declared.command.BillCommand.TheVariants as bill
use Rattle.mdb_cash.specs.declared.bill.activity.BillActivity.{BillActivity}
use Rattle.mdb_cash.specs.declared.bill.activity.BillActivity.TheVariants as activity
use Rattle.mdb_cash.specs.declared.bill.state.BillState.{BillState}
use Rattle.mdb_cash.specs.declared.bill.state.Escrow.{Escrow}
use Rattle.mdb_cash.specs.Bill.{MovesBill, MovesBills, TakeStep, conduct, is_stacked, stacked}
use Rattle.mdb_cash.specs.BillFacts.{Facts, KnownFacts, tables}

-- nothing is asked of its messages: a new one names a type itself
abbrev Fits : BillActivity → Type 0
Fits message = Unit {0}

-- so all fit
all_fit : (kept : List BillActivity) → AllByRecursion Fits kept
all_fit [] = tt
all_fit (message ∷ kept) = (tt, all_fit kept)

module _ (known : KnownFacts) (facts : Facts) (enabled : IsEnabledIn known facts) where
  -- bills may move in the end
  moves_in_end : (message : BillActivity) (before after : Escrow)
      → MovesBill facts message before after → MovesBill (in_end known facts) message before after
  moves_in_end (activity.Returned number) before after moves = moves
  moves_in_end message before after moves =
      (moves.0, moves.1, enabled _ (rw moves.1 at moves.0.few) moves.2, moves.3, moves.4)

  -- and so with bills in order
  all_move : (news : List BillActivity) (before after : Escrow)
      → MovesBills facts news before after → MovesBills (in_end known facts) news before after
  all_move [] before after move = move
  all_move (message ∷ news) before after move =
      (move.0, moves_in_end message before move.0 move.1, all_move news move.0 after move.2)

-- what tells of no bill that was stacked adds nothing
no_bill : (facts : Facts) (slot : ℕ) (message : BillActivity) → is_stacked message ≡ false
    → in_slots (stacked facts.setup message ∷ []) slot ≡ 0
no_bill facts slot (activity.Stacked number) none = absurd cc
no_bill facts slot (activity.Recycled number) none = absurd cc
no_bill facts zero (activity.Escrow number) none = refl
no_bill facts zero (activity.Returned number) none = refl
no_bill facts (suc slot) message none = refl

-- whether it holds messages ends by RESET, and is left as it is by other commands that it takes
ack_holds : (facts : Facts) (command : BillCommand) (choice : Choice)
    (before after : BillState) (gains : Gains) → TakeStep command before after gains
    → after.holds ≡ true → before.holds ≡ true
ack_holds facts bill.Reset choice before after gains step is = cc (step.0, is)
ack_holds facts (bill.Escrow order) choice before after gains step is = rw step.0 at is
ack_holds facts _ choice before after gains step is = rw step.0 at is

-- all that is so of its conduct
steady : IsSteady tables conduct Fits
steady = record {
  asks = λ known facts command before after gains step. as_it_is step;
  acks = λ known facts command choice before after gains step. as_it_is step;
  fits = λ command reply is. all_fit (kept_of (tables.parts_of reply));
  tells_news = λ known facts choice news before after enabled fit step.
      (all_move known facts enabled news _ after.escrow step.0, step.1);
  gain = λ one other same.
      ap (λ setup slot message. in_slots (stacked setup message ∷ []) slot) same;
  no_gain = no_bill;
  power_on_free = refl;
  heard = λ state. refl;
  ask_holds = λ facts command before after gains step is. rw step.0 at is;
  ack_holds = ack_holds;
  news_hold = λ facts choice news before after step. step.1;
}

-- so it may do in mid-session what it does
pub validator_stays : (begins : Beginning) (setups : Setups)
    → MayJoinLate begins setups devices.Bill
validator_stays begins setups = record {
  starts = told_first tables conduct Fits steady begins;
  starts_anew = λ so_far state told. tt;
  goes_on = λ so_far act choice before after gains told step. told_on tables conduct Fits steady
      step.facts choice before after gains begins so_far act told step.step;
  step = λ later front act choice before after gains names told step.
      recorded begins setups devices.Bill later front act choice before after gains
      (step_in_end tables conduct Fits steady begins setups later front act choice before after
      gains names told step);
}
