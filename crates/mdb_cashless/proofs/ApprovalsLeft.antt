-- Which acts and choices change nothing, of a reader that follows approvals.
use Rattle.mdb_cashless.proofs.Words.{arith, ◌≡◌, ◌↔◌, ◌∙◌, ◌&&◌, ◌∷◌, ℕ, Bool, true, false, List, [], if◌then◌else◌, refl, ap, sym, ReaderCommand, Reply, and_parts, Command, Choice, Plain, Lost, Restart, Again, Gains, CanStand, Stays, controller_gains, in_slots, MayBeRead, tells_out_of_sequence, ApprovalState, approvals_in, messages_of, parts_of, either_parts, told_again, effect, changes, takes, Act}
use Rattle.std.specs.Cmp.Derive.{both_true}
use Rattle.mdb_cashless.specs.ExtendedFacts.{Facts}
use Rattle.mdb_cashless.specs.ExtendedReader.{AckStep, AskStep, ReplyStep, VmcAckStep, before_messages, heard}

-- commands that change nothing once they are asked, or acknowledged
pub ask_stays : (facts : Facts) (its : ReaderCommand) (before after : ApprovalState) (gains : Gains)
    → changes its ≡ false → AskStep facts its before after gains ↔ Stays before after gains
ask_stays facts (ReaderCommand.VendRequest price item) before after gains never = absurd cc
ask_stays facts (ReaderCommand.VendSuccess item) before after gains never = absurd cc
ask_stays facts its before after gains never = (
  λ step. (step.2, step.3 ∙ ap (λ n. controller_gains (in_slots (0 ∷ n ∷ []))) step.1),
  λ stays. (0, refl, stays.0, stays.1),
)

pub ack_stays : (facts : Facts) (its : ReaderCommand) (before after : ApprovalState) (gains : Gains)
    → takes its ≡ false → AckStep facts its before after gains ↔ Stays before after gains
ack_stays facts ReaderCommand.Poll before after gains never = absurd cc
ack_stays facts ReaderCommand.Reset before after gains never = absurd cc
ack_stays facts (ReaderCommand.VendSuccess item) before after gains never = absurd cc
ack_stays facts its before after gains never = (λ step. step, λ stays. stays)

-- where nothing may be told again, ACK to POLL changes nothing, and no heard ACK matters
free : (before : ApprovalState) → before.again ≡ false → record before { again = false } ≡ before
free before is = ap (λ b. record before { again = b }) (sym is)

pub poll_stays : (facts : Facts) (before after : ApprovalState) (gains : Gains)
    → before.again ≡ false
    → AckStep facts ReaderCommand.Poll before after gains ↔ Stays before after gains
poll_stays facts before after gains is = (
  λ step. (step.0 ∙ free before is, step.1),
  λ stays. (stays.0 ∙ sym (free before is), stays.1),
)

heard_free : (choice : Choice) (told : List ℕ) (before : ApprovalState) → before.again ≡ false
    → heard choice told before ≡ before
heard_free Lost told before is = refl
heard_free choice told before is = let same = free before is in grind (arith, same)

pub ack_unheeded : (facts : Facts) (reply : Reply) (choice : Choice) (before after : ApprovalState)
    (gains : Gains) → before.again ≡ false → VmcAckStep facts reply choice before after gains
    → VmcAckStep facts reply Plain before after gains
ack_unheeded facts reply choice before after gains is step =
    let told = approvals_in (messages_of reply) in
    let same = heard_free choice told before is ∙ sym (heard_free Plain told before is) in
    (step.0, step.1, step.2 ∙ same, step.3)

-- a reply that tells of no restart, where not both are possible
kept : (out : Bool) (its : ReaderCommand) (before : ApprovalState)
    → let middle = (if out then before else effect its before) in
    (middle.asked && middle.again) ≡ true → (before.asked && before.again) ≡ true
kept true its before is = is
kept false ReaderCommand.Reset before is = absurd cc
kept false its before is = is

pub reply_unheeded : (facts : Facts) (its : ReaderCommand) (command : Command) (reply : Reply)
    (choice : Choice) (before after : ApprovalState) (gains : Gains)
    → (MayBeRead Restart (parts_of reply) → ⊥) → (before.asked && before.again) ≡ false
    → CanStand (Act.Reply command reply) choice
    → ReplyStep facts its reply choice before after gains
    → ReplyStep facts its reply Plain before after gains
reply_unheeded facts its command reply Plain before after gains never one stands step = step
reply_unheeded facts its command reply Lost before after gains never one stands step = absurd stands
reply_unheeded facts its command reply Restart before after gains never one stands step =
    absurd (never step.may_be_read)
reply_unheeded facts its command reply Again before after gains never one stands step =
    let told = approvals_in (messages_of reply) in
    let middle = before_messages its reply before in
    let either = either_parts middle step.last told
    (told_again middle step.last told step.new step.is_new) in
    let is = kept (tells_out_of_sequence reply) its before
    (both_true either.2 (and_parts middle.again _ either.3).0) in
    absurd cc
