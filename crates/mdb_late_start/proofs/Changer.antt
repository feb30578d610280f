-- What the changer does, it may do in mid-session: what is so of its conduct.
use Rattle.mdb_late_start.proofs.Words.{◌≡◌, ◌⊎◌, inl, inr, ℕ, ◌<◌, true, false, List, [], ◌∷◌, refl, ap, sym, ◌&&◌, if◌then◌else◌, map, AllByRecursion, Command, Reply, Setups, IsReply, Beginning, Choice, Gains, kept_of, MayJoinLate, controller_gains, device_gains, in_slots, no_gains}
use Rattle.mdb_msgs.specs.declared.command.Device.TheVariants as devices
use Rattle.mdb_msgs.specs.declared.reply.Reply.TheVariants as replies
use Rattle.mdb_late_start.proofs.Keepers.{AlsoSteps, IsEnabledIn, IsSteady, as_it_is, in_end, recorded, step_in_end, told_first, told_on}
use Rattle.mdb_msgs.specs.Changer.{IsChangerMsg}
use Rattle.mdb_msgs.specs.declared.command.ChangerCommand.{ChangerCommand}
use Rattle.mdb_msgs.specs.declared.command.ChangerCommand.TheVariants as changer
use Rattle.mdb_msgs.specs.declared.reply.changer.ChangerMsg.{ChangerMsg}
use Rattle.mdb_msgs.specs.declared.reply.changer.ChangerMsg.TheVariants as messages
use Rattle.mdb_cash.specs.declared.changer.activity.ChangerActivity.{ChangerActivity}
use Rattle.mdb_cash.specs.declared.changer.activity.ChangerActivity.TheVariants.{CashBox, Dispensed, Tube}
use Rattle.mdb_cash.specs.declared.changer.state.ChangerState.{ChangerState}
use Rattle.mdb_cash.specs.Changer.{AskStep, MayBeNew, TakeStep, asks_coins, conduct, deposited, dispensed_value, is_last, paid_by_hand}
use Rattle.mdb_cash.specs.ChangerFacts.{Facts, KnownFacts, tables}
use Rattle.mdb_cash.specs.ChangerMessages.{part_of}

-- a deposit is of a type below 16
abbrev Fits : ChangerActivity → Type 0
Fits (CashBox coin) = coin < 16
Fits (Tube coin) = coin < 16
Fits (Dispensed count coin) = Unit {0}

-- what is kept of the messages of a reply that may answer a command
kept_fit : (items : List ChangerMsg) → AllByRecursion IsChangerMsg items
    → AllByRecursion Fits (kept_of (map part_of items))
kept_fit [] all = tt
kept_fit (messages.ManualDispense count coin in_tube ∷ items) all = (tt, kept_fit items all.1)
kept_fit (messages.CashBox coin in_tube ∷ items) all = (all.0, kept_fit items all.1)
kept_fit (messages.Tube coin in_tube ∷ items) all = (all.0, kept_fit items all.1)
kept_fit (message ∷ items) all = kept_fit items all.1

-- so what a reply keeps fits
fits : (command : Command) (reply : Reply) → IsReply command reply
    → AllByRecursion Fits (kept_of (tables.parts_of reply))
fits command (replies.ChangerPoll list) is = kept_fit list.items is.answers.fields
fits command _ is = tt

module _ (known : KnownFacts) (facts : Facts) where
  -- the setup table is the same, or a command is no DISPENSE
  abbrev IsSame : ChangerCommand → Type 0
  IsSame command = (known.setup ≡ facts.setup) ⊎ (asks_coins command ≡ false)

  -- so what an ask or an ACK comes to is the same
  same_asked : (coins : ℕ) → IsSame (changer.Dispense coins)
      → dispensed_value known.setup coins ≡ dispensed_value facts.setup coins
  same_asked coins (inl same) = ap (λ setup. dispensed_value setup coins) same
  same_asked coins (inr none) = absurd cc

  module _ (before after : ChangerState) (gains : Gains) where
    -- what the controller asks it may ask in the end
    ask_in_end : (command : ChangerCommand) → AskStep facts command before after gains
        → AlsoSteps (AskStep (in_end known facts) command before after) (IsSame command) gains
    ask_in_end (changer.Dispense coins) step =
        let again = before.dispense_owed && is_last facts.last_asked coins in
        record {
          other = if again then no_gains
              else controller_gains (in_slots (0 ∷ dispensed_value known.setup coins ∷ []));
          step = (step.0, refl);
          same = λ is. rw (same_asked coins is) (sym step.1);
        }
    ask_in_end _ step = as_it_is step

    -- and so with what the changer takes
    ack_in_end : (command : ChangerCommand) (choice : Choice)
        → TakeStep facts command choice before after gains
        → AlsoSteps (TakeStep (in_end known facts) command choice before after) (IsSame command)
        gains
    ack_in_end (changer.Dispense coins) choice step = record {
      other = device_gains (in_slots (0 ∷ dispensed_value known.setup coins ∷ []));
      step = (step.0, refl);
      same = λ is. rw (same_asked coins is) (sym step.1);
    }
    ack_in_end changer.Reset choice step = as_it_is step
    ack_in_end _ choice step = as_it_is step

  -- new deposits may be told in the end
  may_be_new : IsEnabledIn known facts → (news : List ChangerActivity) → AllByRecursion Fits news
      → AllByRecursion (MayBeNew facts) news → AllByRecursion (MayBeNew (in_end known facts)) news
  may_be_new enabled [] fit may = tt
  may_be_new enabled (Dispensed count coin ∷ news) fit may =
      (tt, may_be_new enabled news fit.1 may.1)
  may_be_new enabled (deposit ∷ news) fit may =
      (enabled _ fit.0 may.0, may_be_new enabled news fit.1 may.1)

-- it holds no messages by what is asked that it didn't hold before
ask_holds : (facts : Facts) (command : ChangerCommand) (before after : ChangerState)
    (gains : Gains) → AskStep facts command before after gains → after.holds ≡ true
    → before.holds ≡ true
ask_holds facts (changer.Dispense coins) before after gains step is = rw step.0 at is
ask_holds facts _ before after gains step is = rw step.0 at is

-- so with what the changer takes: RESET ends it, and nothing else that it takes changes it
ack_holds : (facts : Facts) (command : ChangerCommand) (choice : Choice)
    (before after : ChangerState) (gains : Gains)
    → TakeStep facts command choice before after gains → after.holds ≡ true
    → before.holds ≡ true
ack_holds facts (changer.Dispense coins) choice before after gains step is = rw step.0 at is
ack_holds facts changer.Reset choice before after gains step is = cc (step.0, is)
ack_holds facts _ choice before after gains step is = rw step.0 at is

-- all that is so of its conduct
steady : IsSteady tables conduct Fits
steady = record {
  asks = λ known facts command before after gains.
      ask_in_end known facts before after gains command;
  acks = λ known facts command choice before after gains.
      ack_in_end known facts before after gains command choice;
  fits = fits;
  tells_news = λ known facts choice news before after enabled fit step.
      (may_be_new known facts enabled news fit step.0, step.1);
  gain = λ one other same. ap (λ setup slot message. in_slots
      (deposited setup message ∷ paid_by_hand setup message ∷ []) slot) same;
  no_gain = λ facts slot message none. absurd cc;
  power_on_free = refl;
  heard = λ state. refl;
  ask_holds = ask_holds;
  ack_holds = ack_holds;
  news_hold = λ facts choice news before after step. ap (λ (s : ChangerState). s.holds) step.1;
}

-- so it may do in mid-session what it does
pub changer_stays : (begins : Beginning) (setups : Setups)
    → MayJoinLate begins setups devices.Changer
changer_stays begins setups = record {
  starts = told_first tables conduct Fits steady begins;
  starts_anew = λ so_far state told. tt;
  goes_on = λ so_far act choice before after gains told step. told_on tables conduct Fits steady
      step.facts choice before after gains begins so_far act told step.step;
  step = λ later front act choice before after gains names told step.
      recorded begins setups devices.Changer later front act choice before after gains
      (step_in_end tables conduct Fits steady begins setups later front act choice before after
      gains names told step);
}
