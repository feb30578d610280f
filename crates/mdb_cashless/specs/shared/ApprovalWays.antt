-- That acts of other devices change nothing and tell nothing, that a choice which can't stand on an
-- act leads nowhere else than the plain one, and that from power-on each act is settled. This
-- proves laws of the trait `Pair` for the readers that follow approvals.
use Rattle.std.specs.Prelude.{◌≡◌, ◌≢◌, ◌↔◌, ◌==◌, ℕ, ◌+◌, Bool, true, false, not, ◌&&◌, ◌||◌, List, [], ◌∷◌, Option, Some, None, if◌then◌else◌, length, refl}
use Rattle.std.specs.List.{list_any}
use Rattle.std.proofs.Common.{ap, subst, sym, ◌∙◌}
use Rattle.std.proofs.Math.Bool.{and-false, or-false}
use Rattle.std.proofs.Math.Nat.{zero-add}
use Rattle.std.proofs.lemmas.Bool.{and_parts}
use Rattle.std.proofs.lemmas.Option.{same_Some}
use Rattle.mdb_msgs.specs.declared.command.Command.{Command}
use Rattle.mdb_msgs.specs.declared.command.Command.TheVariants as commands
use Rattle.mdb_msgs.specs.declared.command.Device.TheVariants as devices
use Rattle.mdb_msgs.specs.declared.command.ReaderCommand.{ReaderCommand}
use Rattle.mdb_msgs.specs.declared.command.ReaderCommand.TheVariants as reader
use Rattle.mdb_msgs.specs.declared.command.ReaderUnit.{ReaderUnit}
use Rattle.mdb_msgs.specs.declared.command.ReaderUnit.TheVariants.{First, Second}
use Rattle.mdb_msgs.specs.declared.reply.Reply.{Reply}
use Rattle.mdb_msgs.specs.declared.reply.Reply.TheVariants as replies
use Rattle.mdb_msgs.specs.declared.reply.reader.ReaderMsg.{ReaderMsg}
use Rattle.mdb_msgs.specs.declared.reply.reader.ReaderMsg.TheVariants as messages
use Rattle.mdb_bus.specs.declared.act.Act.{Act}
use Rattle.mdb_bus.specs.declared.act.Act.TheVariants as acts
use Rattle.mdb_bus.specs.declared.scope.Beginning.{Beginning}
use Rattle.mdb_bus.specs.declared.scope.Beginning.TheVariants.{PowerOn, Joined}
use Rattle.mdb_bus.specs.declared.scope.Profile.{Profile}
use Rattle.mdb_machine.specs.declared.choice.Choice.{Choice}
use Rattle.mdb_machine.specs.declared.choice.Choice.TheVariants.{Plain, Lost, Restart, Again}
use Rattle.mdb_machine.specs.declared.gains.Gains.{Gains}
use Rattle.mdb_machine.specs.Choices.{CanStand, approves, is_approval}
use Rattle.mdb_machine.specs.Gains.{Stays, no_gains}
use Rattle.mdb_machine.specs.Known as known
use Rattle.mdb_machine.specs.Known.{Is, Known}
use Rattle.mdb_machine.specs.Machine.{StartsIn}
use Rattle.mdb_machine.specs.Pair.{IsActOf, IsMachineOf}
use Rattle.mdb_machine.specs.Past.{tells_out_of_sequence}
use Rattle.mdb_machine.specs.PastValues.{if_known}
use Rattle.mdb_machine.specs.KnownMore.{known_more}
use Rattle.mdb_machine.specs.Steps.{ForOwn}
use Rattle.mdb_machine.specs.shared.OwnWays.{IsOfOwn, same_known}
use Rattle.mdb_machine.specs.shared.StepWays as step_ways
use Rattle.mdb_cashless.specs.declared.approvals.facts.ApprovalFacts.{ApprovalFacts}
use Rattle.mdb_cashless.specs.declared.approvals.sale.Sale.{Sale}
use Rattle.mdb_cashless.specs.declared.approvals.sale.Sale.TheVariants.{Unknown, Unawaited, Awaited}
use Rattle.mdb_cashless.specs.declared.approvals.state.ApprovalState.{ApprovalState}
use Rattle.mdb_cashless.specs.ExtendedFacts.{Facts, approvals_in, facts_after, facts_of, sale_all_heard, sale_asked, sale_heard}
use Rattle.mdb_cashless.specs.ExtendedReader.{ReaderStep, ReplyStep, approve, before_messages, effect, machine, may_be_again, may_be_either, news, power_on}
use Rattle.mdb_cashless.specs.ExtendedAmounts.{unvalued, unvalued_by}
use Rattle.mdb_cashless.specs.ReaderFacts.{own_messages, own_transaction}
use Rattle.mdb_cashless.specs.ReaderMessages.{messages_of}
use Rattle.mdb_cashless.specs.Transactions.{is_request}
use Rattle.mdb_cashless.specs.Units.{own}
use Rattle.mdb_cashless.specs.inner.Approvals.{facts_in, is_awaiting_known, is_sale_known, settled}
use Rattle.mdb_cashless.specs.shared.ReaderWays.{no_own, none_unvalued}

-- an act that is nothing to the reader leaves what is known
still : (unit : ReaderUnit) (facts : Facts) (act : Act) → (IsActOf (devices.Reader unit) act → ⊥)
    → facts ≡ facts_after unit act facts
still unit facts (acts.Ask c) other = rw (no_own unit c other) refl
still unit facts (acts.Reply c r) other = rw (no_own unit c other, own_messages) refl
still unit facts (acts.VmcAck c r) other = rw (no_own unit c other, own_messages) refl
still unit facts (acts.Break n) other = absurd (other tt)
still unit facts act other = refl

pub unmoved : (unit : ReaderUnit) (begins : Beginning) (facts : Facts) (before : List Act)
    (act : Act) → (IsActOf (devices.Reader unit) act → ⊥) → facts ≡ facts_of begins unit before
    → facts ≡ facts_of begins unit (act ∷ before)
unmoved unit begins facts before act other is =
    is ∙ still unit (facts_of begins unit before) act other

-- so what is known depends on the reader's own acts alone
pub of_own : (unit : ReaderUnit) (begins : Beginning)
    → IsOfOwn (devices.Reader unit) (facts_of begins unit)
of_own unit begins = record {
  more = facts_after unit;
  goes_on = λ act so_far. refl;
  still = λ act so_far other. still unit (facts_of begins unit so_far) act other;
}

-- an act that is nothing to the reader tells no amount
no_amount : (unit : ReaderUnit) (facts : Facts) (act : Act)
    → (IsActOf (devices.Reader unit) act → ⊥) → unvalued_by unit facts act ≡ 0
no_amount unit facts (acts.Ask c) other = rw (no_own unit c other) refl
no_amount unit facts (acts.Reply c r) other =
    rw (no_own unit c other, own_messages) (none_unvalued facts.config)
no_amount unit facts (acts.Break n) other = absurd (other tt)
no_amount unit facts act other = none_unvalued facts.config

pub untold : (unit : ReaderUnit) (begins : Beginning) (so_far : List Act) (act : Act)
    → (IsActOf (devices.Reader unit) act → ⊥)
    → unvalued unit begins (act ∷ so_far) ≡ unvalued unit begins so_far
untold unit begins so_far act other =
    ap (λ n. n + unvalued unit begins so_far)
    (no_amount unit (facts_of begins unit so_far) act other)
    ∙ zero-add (unvalued unit begins so_far)

-- and changes nothing
elsewhere : (unit : ReaderUnit) (facts : Facts) (act : Act) (choice : Choice)
    (before after : ApprovalState) (gains : Gains) → (IsActOf (devices.Reader unit) act → ⊥)
    → ReaderStep unit facts act choice before after gains ↔ Stays before after gains
elsewhere unit facts = step_ways.elsewhere (own unit) _ (no_own unit)

-- a step of the reader's own command is another, where each is
pub own_as : {found : Option ReaderCommand} {before after : ApprovalState} {gains : Gains}
    (One Other : ReaderCommand → ApprovalState → ApprovalState → Gains → Type 0)
    → ((c : ReaderCommand) → found ≡ Some c → One c before after gains → Other c before after gains)
    → ForOwn found One before after gains → ForOwn found Other before after gains
own_as {found = None} One Other each step = step
own_as {found = Some c} One Other each step = each c refl step

-- messages with a 05
one_approval : (told : List ReaderMsg) → (length (approvals_in told) == 1) ≡ true
    → list_any is_approval told ≡ true
one_approval [] is = absurd cc
one_approval (messages.VendApproved amount ∷ told) is = refl
one_approval (m ∷ told) is = one_approval told is

some_approval : (told : List ReaderMsg) → list_any is_approval told ≡ true → approvals_in told ≢ []
some_approval [] some none = absurd cc
some_approval (messages.VendApproved amount ∷ told) some none = absurd cc
some_approval (m ∷ told) some none = some_approval told some none

-- in a reply of this reader
approving : (unit : ReaderUnit) (command : Command) (its : ReaderCommand) (reply : Reply)
    → own unit command ≡ Some its → list_any is_approval (messages_of reply) ≡ true
    → approves (acts.Reply command reply) ≡ true
approving unit (commands.Reader other c) its (replies.Reader list) is some = some
approving First (commands.Changer c) its (replies.Reader list) is some = absurd cc
approving First (commands.Bill c) its (replies.Reader list) is some = absurd cc
approving Second (commands.Changer c) its (replies.Reader list) is some = absurd cc
approving Second (commands.Bill c) its (replies.Reader list) is some = absurd cc
approving unit command its reply is some = absurd cc

-- where one message 05 may be told again, or be new
pub either_parts : (before : ApprovalState) (last told : List ℕ)
    → may_be_either before last told ≡ true
    → ((length last == 1) ≡ true) × ((length told == 1) ≡ true) × (before.asked ≡ true)
    × (may_be_again before last told ≡ true)
either_parts before last told is =
    let one = and_parts (length last == 1) _ is in
    let single = and_parts (length told == 1) _ one.1 in
    let both = and_parts before.asked _ single.1 in
    (one.0, single.0, both.0, both.1)

pub told_again : (before : ApprovalState) (last told new : List ℕ)
    → news Again before last told ≡ Some new → may_be_either before last told ≡ true
told_again before last told new = by (may_be_either before last told)
  where
    by : (either : Bool) → (if either then Some [] else None) ≡ Some new → either ≡ true
    by true is = refl
    by false is = absurd cc

-- a choice that can't stand leads nowhere else than the plain one
as_plain : (unit : ReaderUnit) (facts : Facts) (act : Act) (choice : Choice)
    (before after : ApprovalState) (gains : Gains) → (CanStand act choice → ⊥)
    → ReaderStep unit facts act choice before after gains
    → ReaderStep unit facts act Plain before after gains
as_plain unit facts (acts.Reply c r) Restart before after gains barred step = absurd (barred tt)
as_plain unit facts (acts.Reply c r) Lost before after gains barred step =
    own_as (λ its. ReplyStep facts its r Lost) (λ its. ReplyStep facts its r Plain)
    (λ its found made. record {
      last = made.last;
      may_be_last = made.may_be_last;
      may_be_read = tt;
      new = made.new;
      is_new = made.is_new;
      to = made.to;
      gained = made.gained;
    }) step
as_plain unit facts (acts.Reply c r) Again before after gains barred step =
    own_as (λ its. ReplyStep facts its r Again) (λ its. ReplyStep facts its r Plain)
    (λ its found made.
    let told = approvals_in (messages_of r) in
    let middle = before_messages its r before in
    let parts = either_parts middle made.last told
    (told_again middle made.last told made.new made.is_new) in
    absurd (barred (approving unit c its r found (one_approval (messages_of r) parts.1)))) step
as_plain unit facts (acts.VmcAck c r) Lost before after gains barred step = absurd (barred tt)
as_plain unit facts act choice before after gains barred step = step

-- and a reply that approves a sale is no step as one that tells of a restart
still_off : (out : Bool) (its : ReaderCommand)
    → (if out then power_on else effect its power_on) ≡ power_on
still_off true its = refl
still_off false (reader.VendSuccess item) = refl
still_off false its = refl

never_new : (told : List ℕ) (after : ApprovalState) → told ≢ []
    → approve told power_on ≡ Some after → ⊥
never_new [] after some to = some refl
never_new (amount ∷ []) after some to = absurd cc
never_new (one ∷ other ∷ told) after some to = absurd cc

pub no_restart : (facts : Facts) (its : ReaderCommand) (reply : Reply)
    (before after : ApprovalState) (gains : Gains) → approvals_in (messages_of reply) ≢ []
    → ReplyStep facts its reply Restart before after gains → ⊥
no_restart facts its reply before after gains some step =
    let told = approvals_in (messages_of reply) in
    let off = still_off (tells_out_of_sequence reply) its in
    let same : Some told ≡ Some step.new =
    subst (λ b. news Restart b step.last told ≡ Some step.new) off step.is_new in
    never_new told after some (subst (λ l. approve l power_on ≡ Some after)
    (sym (same_Some told step.new same)) (subst (λ b. approve step.new b ≡ Some after) off step.to))

restarts : (unit : ReaderUnit) (facts : Facts) (act : Act) (before after : ApprovalState)
    (gains : Gains) → approves act ≡ true → ReaderStep unit facts act Restart before after gains
    → ReaderStep unit facts act Again before after gains
restarts unit facts (acts.Reply (commands.Reader other c) (replies.Reader list)) before after gains
    approved step =
    own_as (λ its. ReplyStep facts its (replies.Reader list) Restart)
    (λ its. ReplyStep facts its (replies.Reader list) Again)
    (λ its found made. absurd (no_restart facts its (replies.Reader list) before after gains
    (some_approval list.messages approved) made)) step
restarts unit facts act before after gains approved step = absurd cc

-- the machine is one of the device
pub is_machine : (unit : ReaderUnit) (begins : Beginning)
    → IsMachineOf (devices.Reader unit) (machine unit begins)
is_machine unit begins = record {
  elsewhere = λ so_far. elsewhere unit (facts_of begins unit so_far);
  own = λ so_far other act choice before after gains same step.
      subst (λ facts. ReaderStep unit facts act choice before after gains)
      (same_known (facts_of begins unit) (of_own unit begins) so_far other same) step;
  breaks = λ so_far length choice before. (power_on, no_gains, (refl, refl));
  starts_over = λ so_far length choice before after gains step.
      (starts_in begins after step.0, step.1);
  as_plain = λ so_far. as_plain unit (facts_of begins unit so_far);
  restarts = λ so_far. restarts unit (facts_of begins unit so_far);
}
  where
    starts_in : (begins : Beginning) (state : ApprovalState) → state ≡ power_on
        → StartsIn power_on begins state
    starts_in (PowerOn profile) state is = is
    starts_in (Joined setups profile) state is = tt

pub some_start : (unit : ReaderUnit) (begins : Beginning)
    → (state : ApprovalState) × (machine unit begins).Starts state
some_start unit (PowerOn profile) = (power_on, refl)
some_start unit (Joined setups profile) = (power_on, tt)

-- where the sale isn't known it may have been requested before the recording
known_heard : (m : ReaderMsg) (sale : Sale)
    → is_sale_known (sale_heard m sale) ≡ is_sale_known sale
known_heard messages.JustReset Awaited = refl
known_heard messages.JustReset sale = refl
known_heard messages.VendDenied Awaited = refl
known_heard messages.VendDenied sale = refl
known_heard (messages.VendApproved amount) Awaited = refl
known_heard (messages.VendApproved amount) sale = refl
known_heard m sale = refl

known_all : (told : List ReaderMsg) (sale : Sale)
    → is_sale_known (sale_all_heard told sale) ≡ is_sale_known sale
known_all [] sale = refl
known_all (m ∷ told) sale = known_all told (sale_heard m sale) ∙ known_heard m sale

abbrev IsKnown : Facts → Type 0
IsKnown facts = (is_sale_known facts.sale || facts.earlier) ≡ true

known_asked : (command : Option ReaderCommand) (sale : Sale) (earlier : Bool)
    → (is_sale_known sale || earlier) ≡ true → (is_sale_known (sale_asked command sale)
    || (not (is_request (own_transaction command)) && earlier)) ≡ true
known_asked (Some reader.Reset) sale earlier is = refl
known_asked (Some (reader.VendRequest price item)) sale earlier is = refl
known_asked (Some reader.VendCancel) Unknown earlier is = is
known_asked (Some reader.VendCancel) sale earlier is = refl
known_asked (Some (reader.VendSuccess item)) sale earlier is = refl
known_asked (Some reader.VendFailure) sale earlier is = refl
known_asked (Some reader.SessionComplete) sale earlier is = refl
known_asked command sale earlier is = is

known_after : (unit : ReaderUnit) (act : Act) (facts : Facts) → IsKnown facts
    → IsKnown (facts_after unit act facts)
known_after unit (acts.Ask command) facts is =
    known_asked (own unit command) facts.sale facts.earlier is
known_after unit (acts.VmcAck command reply) facts is =
    ap (λ b. b || facts.earlier)
    (known_all (own_messages unit command (messages_of reply)) facts.sale) ∙ is
known_after unit (acts.Break length) facts is = refl
known_after unit act facts is = is

pub known_or_earlier : (begins : Beginning) (unit : ReaderUnit) (so_far : List Act)
    → IsKnown (facts_of begins unit so_far)
known_or_earlier (PowerOn profile) unit [] = refl
known_or_earlier (Joined setups profile) unit [] = refl
known_or_earlier begins unit (act ∷ so_far) =
    known_after unit act (facts_of begins unit so_far) (known_or_earlier begins unit so_far)

-- from power-on it wasn't, and so all is known
pub never_earlier : (profile : Profile) (unit : ReaderUnit) (so_far : List Act)
    → (facts_of (PowerOn profile) unit so_far).earlier ≡ false
never_earlier profile unit [] = refl
never_earlier profile unit (acts.Ask command ∷ so_far) =
    ap (λ b. not (is_request (own_transaction (own unit command))) && b)
    (never_earlier profile unit so_far) ∙ and-false _
never_earlier profile unit (act ∷ so_far) = never_earlier profile unit so_far

abbrev is_known : {X : Type 0} → Known X → Bool
is_known known.Unknown = false
is_known (Is x) = true

known_still : {X : Type 0} (more : Option X) (known : Known X) → is_known known ≡ true
    → is_known (known_more more known) ≡ true
known_still None known is = is
known_still (Some x) known is = refl

told_known : (profile : Profile) (unit : ReaderUnit) (so_far : List Act)
    → is_known (facts_of (PowerOn profile) unit so_far).approvals ≡ true
told_known profile unit [] = refl
told_known profile unit (acts.Reply command reply ∷ so_far) =
    known_still _ (facts_of (PowerOn profile) unit so_far).approvals
    (told_known profile unit so_far)
told_known profile unit (act ∷ so_far) = told_known profile unit so_far

-- the same in words of their own
abbrev pub IsSure : Sale → Type 0
IsSure Unknown = ⊥
IsSure Unawaited = ⊥
IsSure sale = Unit {0}

sure_at : (sale : Sale) (earlier : Bool) → earlier ≡ false → (is_sale_known sale || earlier) ≡ true
    → IsSure sale
sure_at Unknown earlier none is = cc (none, is)
sure_at Unawaited earlier none is = cc (none, is)
sure_at sale earlier none is = tt

pub sure : (profile : Profile) (unit : ReaderUnit) (so_far : List Act)
    → IsSure (facts_of (PowerOn profile) unit so_far).sale
sure profile unit so_far = sure_at _ _ (never_earlier profile unit so_far)
    (known_or_earlier (PowerOn profile) unit so_far)

some_last : {X : Type 0} (known : Known X) → is_known known ≡ true → (x : X) × (known ≡ Is x)
some_last known.Unknown is = absurd (cc is)
some_last (Is x) is = (x, refl)

pub last_told : (profile : Profile) (unit : ReaderUnit) (so_far : List Act)
    → (last : List ℕ) × ((facts_of (PowerOn profile) unit so_far).approvals ≡ Is last)
last_told profile unit so_far = some_last _ (told_known profile unit so_far)

known_if : {X : Type 0} (b : Bool) (x : X) → b ≡ is_known (if_known b x)
known_if true x = refl
known_if false x = refl

awaiting_known : (sale : Sale) → is_sale_known sale ≡ true → is_awaiting_known sale ≡ true
awaiting_known Unknown is = is
awaiting_known sale is = refl

pub settles : (unit : ReaderUnit) (facts : ApprovalFacts) (act : Act) → facts.knows_told ≡ true
    → is_sale_known facts.sale ≡ true → settled unit facts act ≡ true
settles unit facts (acts.Ask command) told sale = rw sale refl
settles unit facts (acts.Reply command reply) told sale = rw told refl
settles unit facts (acts.VmcAck command reply) told sale = rw (awaiting_known facts.sale sale) refl
settles unit facts act told sale = refl

pub settled_from_power_on : (unit : ReaderUnit) (profile : Profile) (facts : ApprovalFacts)
    (so_far : List Act) (act : Act) → facts_in facts ≡ facts_of (PowerOn profile) unit so_far
    → settled unit facts act ≡ true
settled_from_power_on unit profile facts so_far act is = settles unit facts act
    (known_if facts.knows_told facts.told.items ∙ ap (λ (f : Facts). is_known f.approvals) is
    ∙ told_known profile unit so_far)
    (ap (λ (f : Facts). is_sale_known f.sale) is ∙ sym (or-false _)
    ∙ ap (λ b. is_sale_known (facts_of (PowerOn profile) unit so_far).sale || b)
    (sym (never_earlier profile unit so_far)) ∙ known_or_earlier (PowerOn profile) unit so_far)
