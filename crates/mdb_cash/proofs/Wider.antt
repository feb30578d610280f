-- What changer and validator may do by the base profile, they may do by the extended one.
use Rattle.mdb_cash.proofs.Words.{ℕ, Bool, List, [], ◌∷◌, refl, BillActivity, Escrow, Dispensed, ChangerState, Choice, Gains, AreAmong, Widens, enabling}
use Rattle.std.specs.List.{AllByRecursion}
use Rattle.mdb_msgs.specs.declared.command.ChangerCommand.{ChangerCommand}
use Rattle.mdb_msgs.specs.declared.command.ChangerCommand.TheVariants as commands
use Rattle.mdb_cash.specs.declared.bill.activity.BillActivity.TheVariants as activity
use Rattle.mdb_cash.specs.declared.changer.activity.ChangerActivity.{ChangerActivity}
use Rattle.mdb_cash.specs.Bill as bill
use Rattle.mdb_cash.specs.BillFacts as bill_facts
use Rattle.mdb_cash.specs.Changer as changer
use Rattle.mdb_cash.specs.ChangerFacts.{Facts}

asks : (facts : Facts) (more : ℕ → Bool) (command : ChangerCommand) (before after : ChangerState)
    (gains : Gains) → changer.AskStep facts command before after gains
    → changer.AskStep (enabling facts more) command before after gains
asks facts more commands.Reset before after gains step = step
asks facts more _ before after gains step = step

acks : (facts : Facts) (more : ℕ → Bool) (command : ChangerCommand) (choice : Choice)
    (before after : ChangerState) (gains : Gains)
    → changer.TakeStep facts command choice before after gains
    → changer.TakeStep (enabling facts more) command choice before after gains
acks facts more commands.Reset choice before after gains step = step
acks facts more _ choice before after gains step = step

may_all : (facts : Facts) (more : ℕ → Bool) → AreAmong facts.enabled more
    → (news : List ChangerActivity) → AllByRecursion (changer.MayBeNew facts) news
    → AllByRecursion (changer.MayBeNew (enabling facts more)) news
may_all facts more among [] all = tt
may_all facts more among (Dispensed count coin ∷ news) all =
    (tt, may_all facts more among news all.1)
may_all facts more among (message ∷ news) all =
    (among _ all.0, may_all facts more among news all.1)

pub changer_widens : Widens changer.conduct
changer_widens = record {
  asks = asks;
  acks = acks;
  tells_news = λ facts more choice news before after among step.
      (may_all facts more among news step.0, step.1);
  gain = λ facts more. refl;
}

moves_one : (facts : bill_facts.Facts) (more : ℕ → Bool) → AreAmong facts.enabled more
    → (message : BillActivity) (before after : Escrow)
    → bill.MovesBill facts message before after
    → bill.MovesBill (enabling facts more) message before after
moves_one facts more among (activity.Returned number) before after moves = moves
moves_one facts more among message before after moves =
    (moves.0, moves.1, among _ moves.2, moves.3, moves.4)

moves_all : (facts : bill_facts.Facts) (more : ℕ → Bool) → AreAmong facts.enabled more
    → (news : List BillActivity) (before after : Escrow)
    → bill.MovesBills facts news before after
    → bill.MovesBills (enabling facts more) news before after
moves_all facts more among [] before after moves = moves
moves_all facts more among (message ∷ news) before after moves = (
  moves.0,
  moves_one facts more among message before moves.0 moves.1,
  moves_all facts more among news moves.0 after moves.2,
)

pub bill_widens : Widens bill.conduct
bill_widens = record {
  asks = λ facts more command before after gains step. step;
  acks = λ facts more command choice before after gains step. step;
  tells_news = λ facts more choice news before after among step.
      (moves_all facts more among news _ after.escrow step.0, step.1);
  gain = λ facts more. refl;
}
