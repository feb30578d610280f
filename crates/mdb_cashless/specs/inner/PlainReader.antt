-- That a choice which can't stand on an act leads a reader nowhere else than the plain one, and
-- that a reply which approves a sale is no step as one that tells of a restart.
use Rattle.std.specs.Prelude.{◌≡◌, ◌≢◌, Bool, true, false, List, [], ◌∷◌, ◌++◌, map, Option, Some, None, if◌then◌else◌, refl}
use Rattle.std.specs.List.{list_any}
use Rattle.std.proofs.Common.{ap, sym, subst, ◌∙◌, inl, inr}
use Rattle.mdb_msgs.specs.declared.command.Command.TheVariants as commands
use Rattle.mdb_msgs.specs.declared.command.ReaderCommand.TheVariants as reader
use Rattle.mdb_msgs.specs.declared.reply.Reply.{Reply}
use Rattle.mdb_msgs.specs.declared.reply.Reply.TheVariants as replies
use Rattle.mdb_msgs.specs.declared.reply.reader.ReaderMsg.{ReaderMsg}
use Rattle.mdb_msgs.specs.declared.reply.reader.ReaderMsg.TheVariants as messages
use Rattle.mdb_msgs.specs.declared.command.ReaderCommand.{ReaderCommand}
use Rattle.mdb_msgs.specs.declared.command.ReaderUnit.{ReaderUnit}
use Rattle.mdb_bus.specs.declared.act.Act.{Act}
use Rattle.mdb_bus.specs.declared.act.Act.TheVariants as acts
use Rattle.mdb_machine.specs.declared.choice.Choice.{Choice}
use Rattle.mdb_machine.specs.declared.choice.Choice.TheVariants.{Plain, Lost, Restart, Again}
use Rattle.mdb_machine.specs.declared.gains.Gains.{Gains}
use Rattle.mdb_machine.specs.Choices.{CanStand, approves, is_approval}
use Rattle.mdb_machine.specs.Kept.{held, kept_of}
use Rattle.mdb_machine.specs.shared.PlainKept.{acked_plain}
use Rattle.mdb_cashless.specs.declared.reader.device.DeviceState.{DeviceState}
use Rattle.mdb_cashless.specs.declared.reader.device.DeviceState.TheVariants.{Inactive, Disabled}
use Rattle.mdb_cashless.specs.declared.reader.messages.ReaderActivity.{ReaderActivity}
use Rattle.mdb_cashless.specs.declared.reader.messages.ReaderActivity.TheVariants.{VendApproved}
use Rattle.mdb_cashless.specs.declared.reader.state.ReaderState.{ReaderState}
use Rattle.mdb_cashless.specs.declared.reader.transaction.Transaction.{Transaction}
use Rattle.mdb_cashless.specs.declared.reader.view.View.{View}
use Rattle.mdb_machine.specs.Steps.{ForOwn}
use Rattle.mdb_cashless.specs.Reader.{AckStep, ReaderStep, ReplyStep, VmcAckStep, before_messages, drops, last_transaction, read, take, take_any, taken, view_answered, view_heard}
use Rattle.mdb_cashless.specs.ReaderDevice.{all_told, effect}
use Rattle.mdb_cashless.specs.ReaderFacts.{Facts}
use Rattle.mdb_cashless.specs.ReaderMessages.{messages_of, part_of, parts_of}
use Rattle.mdb_cashless.specs.ReaderView.{all_heard}
use Rattle.mdb_cashless.specs.Units.{own}

-- a step of the reader's own command is another, where each is
pub own_as : {State : Type 0} (found : Option ReaderCommand)
    (One Other : ReaderCommand → State → State → Gains → Type 0) (before after : State)
    (gains : Gains)
    → ((c : ReaderCommand) → found ≡ Some c → One c before after gains → Other c before after gains)
    → ForOwn found One before after gains → ForOwn found Other before after gains
own_as None One Other before after gains each step = step
own_as (Some c) One Other before after gains each step = each c refl step

-- a reply that wasn't heard is as a plain one
lost_plain : (facts : Facts) (command : ReaderCommand) (reply : Reply)
    (before after : ReaderState) (gains : Gains)
    → ReplyStep facts command reply Lost before after gains
    → ReplyStep facts command reply Plain before after gains
lost_plain facts command reply before after gains step = record {
  news = step.news;
  has_news = record { read = tt; reset = step.has_news.reset; new = step.has_news.new };
  told = step.told;
  view = step.view;
  holds = step.holds;
  gained = step.gained;
}

heard_plain : (choice : Choice) → choice ≢ Lost → (command : ReaderCommand) (before : View)
    → view_heard choice command before ≡ view_heard Plain command before
heard_plain Lost hears command before = absurd (hears refl)
heard_plain choice hears command before = refl

pub as_plain : (unit : ReaderUnit) (facts : Facts) (act : Act) (choice : Choice)
    (before after : ReaderState) (gains : Gains)
    → (CanStand act choice → ⊥) → ReaderStep unit facts act choice before after gains
    → ReaderStep unit facts act Plain before after gains
as_plain unit facts (acts.Ask c) choice before after gains barred step = step
as_plain unit facts (acts.Ack c) choice before after gains barred step =
    own_as (own unit c) (λ o. AckStep facts o choice) (λ o. AckStep facts o Plain)
    before after gains
    (λ o is own_step. record {
      poll = own_step.poll;
      to = own_step.to ∙ ap (λ v. record (take facts o before) { view = v }) (heard_plain choice
          (λ lost. barred (subst (CanStand (acts.Ack c)) (sym lost) tt)) o before.view);
      gained = own_step.gained;
    })
    step
as_plain unit facts (acts.Reply c r) Plain before after gains barred step = step
as_plain unit facts (acts.Reply c r) Lost before after gains barred step =
    own_as (own unit c) (λ o. ReplyStep facts o r Lost) (λ o. ReplyStep facts o r Plain)
    before after gains (λ o is. lost_plain facts o r before after gains) step
as_plain unit facts (acts.Reply c r) Restart before after gains barred step = absurd (barred tt)
as_plain unit facts (acts.Reply c r) Again before after gains barred step =
    own_as (own unit c) (λ o. ReplyStep facts o r Again) (λ o. ReplyStep facts o r Plain)
    before after gains (λ o is made. absurd made.has_news.read) step
as_plain unit facts (acts.VmcAck c r) choice before after gains barred step =
    own_as (own unit c) (λ o. VmcAckStep facts o r choice) (λ o. VmcAckStep facts o r Plain)
    before after gains
    (λ o is own_step. record {
      to = own_step.to ∙ ap (λ h. record {
        device = before.device;
        view = all_heard (messages_of r) (view_answered (taken o r) before.view);
        holds = h;
      }) (acked_plain choice (λ lost. barred (subst (CanStand (acts.VmcAck c r)) (sym lost) tt))
          (kept_of (parts_of r)) before.holds);
      gained = own_step.gained;
    })
    step
as_plain unit facts act choice before after gains barred step = step

-- after a restart the reader is Inactive, or Disabled, and holds nothing
abbrev IsEarly : DeviceState → Type 0
IsEarly Inactive = Unit {0}
IsEarly Disabled = Unit {0}
IsEarly device = ⊥

early_effect : (command : ReaderCommand) → IsEarly (effect command Inactive)
early_effect reader.Reset = tt
early_effect command = tt

early_device : (facts : Facts) (taken : Option ReaderCommand) (before : ReaderState)
    → IsEarly (take_any facts taken (read Restart before)).device
early_device facts None before = tt
early_device facts (Some command) before = early_effect command

none_held : (facts : Facts) (taken : Option ReaderCommand) (before : ReaderState)
    → (take_any facts taken (read Restart before)).holds ≡ false
none_held facts None before = refl
none_held facts (Some command) before =
    elim (drops command) as (λ b. (if b then false else false) ≡ false) [
      | true ↦ refl
      | false ↦ refl
    ]

-- there it approves nothing
abbrev approving : List ReaderActivity → Bool
approving [] = false
approving (VendApproved amount ∷ kept) = true
approving (message ∷ kept) = approving kept

none_approved : (last : Option Transaction) (news : List ReaderActivity)
    (before after : DeviceState) → IsEarly before → all_told last news before ≡ Some after
    → approving news ≡ true → ⊥
none_approved last [] before after early told has = absurd cc
none_approved last (VendApproved amount ∷ news) Inactive after early told has = absurd cc
none_approved last (VendApproved amount ∷ news) Disabled after early told has = absurd cc
none_approved last (message ∷ news) Inactive after early told has = absurd cc
none_approved last (message ∷ news) Disabled after early told has = absurd cc
none_approved last news before after early told has = absurd early

kept_approval : (told : List ReaderMsg) → list_any is_approval told ≡ true
    → approving (kept_of (map part_of told)) ≡ true
kept_approval [] some = some
kept_approval (messages.VendApproved amount ∷ told) some = refl
kept_approval (message ∷ told) some = kept_approval told some

-- so a reply that approves a sale is no step as one that tells of a restart
no_restart : (facts : Facts) (command : ReaderCommand) (reply : Reply) (before after : ReaderState)
    (gains : Gains) → list_any is_approval (messages_of reply) ≡ true
    → ReplyStep facts command reply Restart before after gains → ⊥
no_restart facts command reply before after gains some step =
    let kept = kept_of (parts_of reply) in
    let has : approving kept ≡ true = kept_approval (messages_of reply) some in
    elim step.has_news.new [
      | inl new ↦
          let same : kept ≡ step.news =
          subst (λ h. kept ≡ held h facts.past.last_kept ++ step.news)
          (none_held facts (taken command reply) before) new in
          none_approved (last_transaction facts (taken command reply)) step.news
          (before_messages facts command reply Restart before).device after.device
          (early_device facts (taken command reply) before) step.told
          (subst (λ k. approving k ≡ true) same has)
      | inr none ↦
          let never : false ≡ true = subst (λ k. approving k ≡ true) none.1 has in absurd cc
    ]

pub restarts : (unit : ReaderUnit) (facts : Facts) (act : Act) (before after : ReaderState)
    (gains : Gains) → approves act ≡ true → ReaderStep unit facts act Restart before after gains
    → ReaderStep unit facts act Again before after gains
restarts unit facts (acts.Reply (commands.Reader other c) (replies.Reader list)) before after gains
    some step =
    own_as (own unit (commands.Reader other c))
    (λ o. ReplyStep facts o (replies.Reader list) Restart)
    (λ o. ReplyStep facts o (replies.Reader list) Again) before after gains
    (λ o is made. absurd (no_restart facts o (replies.Reader list) before after gains some made))
    step
restarts unit facts act before after gains some step = absurd cc
