-- A step of a reader after some facts is one after facts that differ in what is told of values, and
-- in whether a reset message is owed. It gains the same where what it values has the same value.
use Rattle.mdb_late_start.proofs.Words.{◌≡◌, ◌⊎◌, ℕ, Bool, true, false, ◌||◌, List, [], ◌∷◌, map, Option, Some, None, refl, inl, inr, if◌then◌else◌, unwrap_or, arith, ap, sym, ◌∙◌, sum_by-append, sum_by-cons, ReaderCommand, ReaderUnit, Reply, ReaderMsg, ReaderConfig, Act, Choice, Gains, is_approval, controller_gains, device_gains, in_slots, IsNew, kept_of, resets, tells_out_of_sequence, one_if, ReaderState, value, messages_of, parts_of, own, all_approved, all_approved_to, approved, is_repeated, sold_any, sold_to, taken, view_answered, effect_of_own, amounts, ended_by, no_end}
use Rattle.mdb_msgs.specs.declared.command.ReaderCommand.TheVariants as reader
use Rattle.mdb_msgs.specs.declared.reply.reader.ReaderMsg.TheVariants as messages
use Rattle.mdb_bus.specs.declared.act.Act.TheVariants as acts
use Rattle.mdb_cashless.specs.declared.reader.messages.ReaderActivity.{ReaderActivity}
use Rattle.mdb_cashless.specs.declared.reader.view.View.{View}
use Rattle.mdb_cashless.specs.Reader.{AckStep, AskStep, ReaderStep, ReplyStep, VmcAckStep, read, sold}
use Rattle.mdb_cashless.specs.ReaderDevice as reader_device
use Rattle.mdb_cashless.specs.ReaderFacts.{Facts, KnownFacts}
use Rattle.mdb_cashless.specs.ReaderMessages.{part_of}
use Rattle.mdb_cashless.specs.ReaderView as reader_view
use Rattle.mdb_cashless.specs.ReaderView.{heard}
use Rattle.mdb_late_start.proofs.Keepers.{AlsoSteps, as_it_is, as_same, by_own}
use Rattle.mdb_late_start.proofs.ReaderPrices.{AreSaidPriced, IsPriced, IsSalePriced, Prices, approvals, config_with}

-- ---- values that are the same

-- what a sale is worth, and what ends it
abbrev pub worth : Prices → ℕ
worth prices = value prices.config prices.amount

-- What a command adds is the same, where it ends no sale, or that has the same value.
same_ended : (approved : Bool) (its : ReaderCommand) (one other : Prices)
    → IsSalePriced one other its
    → ended_by approved its (worth one) ≡ ended_by approved its (worth other)
same_ended approved its one other (inr same) =
    ap (λ prices. ended_by approved its (worth prices)) same
same_ended approved (reader.VendSuccess item) one other (inl none) = absurd cc
same_ended false its one other (inl none) = refl
same_ended true its one other (inl none) = refl

-- where there is a message 05, they are not none
pub some_approved : (amount : ℕ) (said : List ReaderMsg)
    → approvals (messages.VendApproved amount ∷ said) ≡ 0 → ⊥
some_approved amount said none =
    omega (
      arith,
      none,
      sum_by-cons (λ message. one_if (is_approval message)) (messages.VendApproved amount) said,
    )

-- where there is none, nothing is approved
kept_none : (config : Option ReaderConfig) (said : List ReaderMsg) → approvals said ≡ 0
    → all_approved config (kept_of (map part_of said)) ≡ 0
kept_none config [] none = refl
kept_none config (messages.VendApproved amount ∷ said) none =
    absurd (some_approved amount said none)
kept_none config (message ∷ said) none =
    omega (arith, kept_none config said (omega (arith, none)))

module _ (config : Option ReaderConfig) where
  -- nor is it by what is new of it
  news_none : (poll : Bool) (holding news : List ReaderActivity) (reply : Reply)
      → IsNew poll holding (kept_of (parts_of reply)) news → approvals (messages_of reply) ≡ 0
      → all_approved config news ≡ 0
  news_none poll holding news reply (inl new) none = omega (
    arith,
    kept_none config (messages_of reply) none,
    ap (all_approved config) new,
    sum_by-append (approved config) holding news,
  )
  news_none poll holding news reply (inr new) none = ap (all_approved config) new.2

  -- nor for the controller that hears it
  heard_none : (before : View) (said : List ReaderMsg) → approvals said ≡ 0
      → all_approved_to config before said ≡ 0
  heard_none before [] none = refl
  heard_none before (messages.VendApproved amount ∷ said) none =
      absurd (some_approved amount said none)
  heard_none before (message ∷ said) none =
      omega (arith, heard_none (heard message before) said (omega (arith, none)))

-- ---- each step

-- the facts that may be where this is known, with what they guess of the rest
abbrev pub otherwise : Facts → KnownFacts → Facts
otherwise facts known = record {
  config = known.config;
  asked = facts.asked;
  taken = facts.taken;
  amount = unwrap_or known.amount 0;
  past = record { reset_owed = known.past.reset_owed; last_kept = facts.past.last_kept };
}

-- the prices after facts
abbrev pub prices_of : Facts → Prices
prices_of facts = record { config = facts.config; amount = facts.amount }

-- a reset message that is owed after a command
owed_less : (by_command here there : Bool) → (here ≡ true → there ≡ true)
    → (by_command || here) ≡ true → (by_command || there) ≡ true
owed_less true here there owed is = refl
owed_less false here there owed is = owed is

module _ (facts : Facts) (known : KnownFacts) (before after : ReaderState) (gains : Gains) where
  abbrev others : Facts
  others = otherwise facts known

  abbrev Priced : ReaderCommand → Type 0
  Priced = IsSalePriced (prices_of others) (prices_of facts)

  ask_otherwise : (its : ReaderCommand) → AskStep facts its before after gains
      → AlsoSteps (AskStep others its before after) (Priced its) gains
  ask_otherwise its step = record {
    other = controller_gains (in_slots (amounts 0 (sold_to others its before.view)));
    step = record { view = step.view; device = step.device; holds = step.holds; gained = refl };
    same = λ priced. rw (same_ended (reader_view.has_approved before.view) its (prices_of others)
        (prices_of facts) priced) (sym step.gained);
  }

  -- what the reader sold is the same
  same_sold : (its : ReaderCommand) (start : ReaderState) → Priced its
      → sold others its start ≡ sold facts its start
  same_sold its start priced =
      ap (λ end. if is_repeated facts its start.holds then no_end else end)
      (same_ended (reader_device.has_approved start.device) its (prices_of others)
      (prices_of facts) priced)

  same_sold_any : (refused : Bool) (its : ReaderCommand) (start : ReaderState) → Priced its
      → sold_any others (if refused then None else Some its) start
      ≡ sold_any facts (if refused then None else Some its) start
  same_sold_any true its start priced = refl
  same_sold_any false its start priced = same_sold its start priced

  ack_otherwise : (choice : Choice) (its : ReaderCommand)
      → AckStep facts its choice before after gains
      → AlsoSteps (AckStep others its choice before after) (Priced its) gains
  ack_otherwise choice its step = record {
    other = device_gains (in_slots (amounts 0 (sold others its before)));
    step = record { poll = step.poll; to = step.to; gained = refl };
    same = λ priced. rw (same_sold its before priced) (sym step.gained);
  }

  -- news approve the same, where there is no message 05 or they have the same value
  same_approved : (one other : Option ReaderConfig) (poll : Bool)
      (holding news : List ReaderActivity) (reply : Reply)
      → IsNew poll holding (kept_of (parts_of reply)) news → AreSaidPriced reply one other
      → all_approved one news ≡ all_approved other news
  same_approved one other poll holding news reply new (inl none) =
      news_none one poll holding news reply new none
      ∙ sym (news_none other poll holding news reply new none)
  same_approved one other poll holding news reply new (inr same) =
      ap (λ c. all_approved c news) same

  reply_otherwise : (reply : Reply) (choice : Choice) (its : ReaderCommand)
      → (known.past.reset_owed ≡ true → facts.past.reset_owed ≡ true)
      → ReplyStep facts its reply choice before after gains
      → AlsoSteps (ReplyStep others its reply choice before after)
      (Priced its
      × AreSaidPriced reply (config_with reply others.config) (config_with reply facts.config))
      gains
  reply_otherwise reply choice its owed step =
      let config : Option ReaderConfig = config_with reply others.config in
      let its_config : Option ReaderConfig = config_with reply facts.config in
      let end = sold_any others (taken its reply) (read choice before) in
      record {
        other = device_gains (in_slots (amounts (all_approved config step.news) end));
        step = record {
          news = step.news;
          has_news = record {
            read = step.has_news.read;
            reset = λ owes. step.has_news.reset (owed_less
                (resets (effect_of_own (taken its reply))) known.past.reset_owed
                facts.past.reset_owed owed owes);
            new = step.has_news.new;
          };
          told = step.told;
          view = step.view;
          holds = step.holds;
          gained = refl;
        };
        same = λ priced. rw (
          same_approved config its_config _ _ step.news reply step.has_news.new priced.1,
          same_sold_any (tells_out_of_sequence reply) its (read choice before) priced.0,
        ) (sym step.gained);
      }

  same_heard : (view : View) (said : List ReaderMsg)
      → (approvals said ≡ 0) ⊎ (others.config ≡ facts.config)
      → all_approved_to others.config view said ≡ all_approved_to facts.config view said
  same_heard view said (inl none) =
      heard_none others.config view said none ∙ sym (heard_none facts.config view said none)
  same_heard view said (inr same) = ap (λ c. all_approved_to c view said) same

  vmc_ack_otherwise : (reply : Reply) (choice : Choice) (its : ReaderCommand)
      → VmcAckStep facts its reply choice before after gains
      → AlsoSteps (VmcAckStep others its reply choice before after)
      (AreSaidPriced reply others.config facts.config) gains
  vmc_ack_otherwise reply choice its step =
      let view = view_answered (taken its reply) before.view in
      let said = messages_of reply in
      record {
        other =
            controller_gains (in_slots (amounts (all_approved_to others.config view said) no_end));
        step = record { to = step.to; gained = refl };
        same = λ priced. rw (same_heard view said priced) (sym step.gained);
      }

  -- so by each act
  pub goes_otherwise : (unit : ReaderUnit) (choice : Choice)
      → (known.past.reset_owed ≡ true → facts.past.reset_owed ≡ true) → (act : Act)
      → ReaderStep unit facts act choice before after gains
      → AlsoSteps (ReaderStep unit others act choice before after)
      (IsPriced unit (prices_of others) (prices_of facts) act) gains
  goes_otherwise unit choice owed (acts.Ask c) step = by_own (own unit c) _ _
      (λ its is ask. as_same (λ priced. priced its is) (ask_otherwise its ask)) step
  goes_otherwise unit choice owed (acts.Ack c) step = by_own (own unit c) _ _
      (λ its is ack. as_same (λ priced. priced its is) (ack_otherwise choice its ack)) step
  goes_otherwise unit choice owed (acts.Reply c r) step = by_own (own unit c) _ _
      (λ its is reply. as_same (λ priced. priced its is)
      (reply_otherwise r choice its owed reply)) step
  goes_otherwise unit choice owed (acts.VmcAck c r) step = by_own (own unit c) _ _
      (λ its is ack. as_same (λ priced. priced its is) (vmc_ack_otherwise r choice its ack)) step
  goes_otherwise unit choice owed act step = as_it_is step
