-- What a reader does in the course of a recording, it may do in the end of that by itself, by the
-- extended profile: the sale under way, and each step. Lists of acts stand newest first.
use Rattle.mdb_late_start.proofs.Words.{common_steps, ◌≡◌, ℕ, Bool, true, false, not, ◌&&◌, List, [], ◌∷◌, Option, Some, refl, inl, inr, ap, ReaderCommand, ReaderMsg, ReaderConfig, Sale, Unawaited, Nothing, Awaited, Approved, Sold, sale_all_heard, sale_asked, sale_heard, unawaited, IsSale, approved_to, own_transaction, is_request, ◌⊎◌, ◌||◌, ◌++◌, None, length, if◌then◌else◌, unwrap_or, arith, sym, subst, ◌∙◌, is_none, Command, ReaderUnit, Reply, Setups, config_known, Act, Beginning, PowerOn, Joined, profile_of, Choice, Again, Gains, controller_gains, device_gains, in_slots, Known, known_before, last_told, or_else, one_if, value, asks_sale, messages_of, own, first_of_three, approvals_in, facts_after, facts_of, IsEarlier, MayAsk, MaySell, last_value, news, sold_by, amount_by, config_by, own_messages}
use Rattle.mdb_msgs.specs.declared.command.ReaderCommand.TheVariants as reader
use Rattle.mdb_msgs.specs.declared.reply.reader.ReaderMsg.TheVariants as messages
use Rattle.mdb_bus.specs.declared.act.Act.TheVariants as acts
use Rattle.mdb_cashless.specs.ReaderAmounts as reader_amounts
use Rattle.mdb_cashless.specs.declared.approvals.sale.Sale.TheVariants.{Unknown, Asked}
use Rattle.std.proofs.Math.Seq.{drop-nil}
use Rattle.mdb_machine.specs.KnownMore.{known_more}
use Rattle.mdb_cashless.specs.declared.approvals.state.ApprovalState.{ApprovalState}
use Rattle.mdb_cashless.specs.ExtendedFacts.{Facts}
use Rattle.mdb_cashless.specs.ExtendedReader.{AckStep, AskStep, ReaderStep, ReplyStep, VmcAckStep, read, sold, worth}
use Rattle.mdb_cashless.specs.ExtendedAmounts.{unvalued, unvalued_by}
use Rattle.mdb_cashless.specs.ReaderFacts.{known_of}
use Rattle.mdb_late_start.proofs.Covering.{Covers as IsKnownToo}
use Rattle.mdb_late_start.proofs.Keepers.{AlsoSteps, allowed_end, as_it_is, as_same, by_own}
use Rattle.mdb_late_start.proofs.ReaderPrices.{IsCounted, counted as base_counted, AreSaidPriced, IsPriced, IsSalePriced, Prices, approvals, config_with, prices_known, same_prices}
use Rattle.mdb_late_start.proofs.ReaderOtherwise.{some_approved}

-- How the sale stands in the whole (second), by how it stands in the end, where that asks no
-- request.
abbrev pub IsEarlierSale : Sale → Sale → Type 0
IsEarlierSale Unknown there = Unit {0}
IsEarlierSale Unawaited Unknown = ⊥
IsEarlierSale Unawaited Awaited = ⊥
IsEarlierSale Unawaited there = Unit {0}
IsEarlierSale Nothing Nothing = Unit {0}
IsEarlierSale Nothing Asked = Unit {0}
IsEarlierSale Nothing (Approved amount) = Unit {0}
IsEarlierSale (Sold item) there = there ≡ Sold item
IsEarlierSale here there = ⊥

-- and by whether it may have been requested before the end: else it is the same
abbrev pub IsSaleThere : Bool → Sale → Sale → Type 0
IsSaleThere true here there = IsEarlierSale here there
IsSaleThere false here there = here ≡ there

-- ---- so it stays with each act

pub there_asked : (command : Option ReaderCommand) (earlier : Bool) (here there : Sale)
    → IsSaleThere earlier here there
    → IsSaleThere (not (is_request (own_transaction command)) && earlier) (sale_asked command here)
    (sale_asked command there)
there_asked (Some (reader.VendRequest price item)) earlier here there is = refl
there_asked command false here there is = ap (sale_asked command) is
there_asked (Some reader.VendCancel) true (Sold item) there is =
    rw is tt
there_asked (Some reader.VendCancel) true here Unknown is = search
there_asked (Some reader.VendCancel) true here there is = search
there_asked command true here there is = search

-- after 00 and 06
earlier_unawaited : (here there : Sale) → IsEarlierSale here there
    → IsEarlierSale (unawaited here) (unawaited there)
earlier_unawaited (Sold item) there is = ap unawaited is
earlier_unawaited here Unknown is = search
earlier_unawaited here there is = search

-- after 05
earlier_approved : (amount : ℕ) (here there : Sale) → IsEarlierSale here there
    → IsEarlierSale (sale_heard (messages.VendApproved amount) here)
    (sale_heard (messages.VendApproved amount) there)
earlier_approved amount (Sold item) there is = ap (sale_heard (messages.VendApproved amount)) is
earlier_approved amount here Unknown is = search
earlier_approved amount here there is = search

earlier_heard : (said : List ReaderMsg) (here there : Sale) → IsEarlierSale here there
    → IsEarlierSale (sale_all_heard said here) (sale_all_heard said there)
earlier_heard [] here there is = is
earlier_heard (messages.JustReset ∷ said) here there is =
    earlier_heard said (unawaited here) (unawaited there) (earlier_unawaited here there is)
earlier_heard (messages.VendDenied ∷ said) here there is =
    earlier_heard said (unawaited here) (unawaited there) (earlier_unawaited here there is)
earlier_heard (messages.VendApproved amount ∷ said) here there is =
    earlier_heard said (sale_heard (messages.VendApproved amount) here)
    (sale_heard (messages.VendApproved amount) there) (earlier_approved amount here there is)
earlier_heard (message ∷ said) here there is = earlier_heard said here there is

pub there_heard : (said : List ReaderMsg) (earlier : Bool) (here there : Sale)
    → IsSaleThere earlier here there
    → IsSaleThere earlier (sale_all_heard said here) (sale_all_heard said there)
there_heard said true here there is = earlier_heard said here there is
there_heard said false here there is = ap (sale_all_heard said) is

pub there_nothing : (earlier : Bool) → IsSaleThere earlier Nothing Nothing
there_nothing true = tt
there_nothing false = refl

-- ---- what the controller hears

-- where an approval may be awaited in the whole, it may be in the end
awaits_here : (here there : Sale) → IsEarlierSale here there → IsSale there Awaited
    → IsSale here Awaited
awaits_here Unknown there is may = inr refl
awaits_here (Sold item) there is may = rw is at may
awaits_here here Unknown is may = absurd is
awaits_here here Awaited is may = absurd is
awaits_here here there is may = absurd cc

-- so a sale that counts for an ACK in the whole has one in the end, which adds the same
pub hears_here : (earlier : Bool) (here there sale : Sale) → IsSaleThere earlier here there
    → IsSale there sale → (other : Sale) × IsSale here other
    × ((config : Option ReaderConfig) (said : List ReaderMsg)
    → approved_to config other said ≡ approved_to config sale said)
hears_here false here there sale is may =
    (sale, rw is may, λ config said. refl)
hears_here true here there Awaited is may =
    (Awaited, awaits_here here there is may, λ config said. refl)
hears_here true Unknown there sale is may = (Nothing, inl refl, λ config said. refl)
hears_here true Unawaited there sale is may = (Unawaited, refl, λ config said. refl)
hears_here true Nothing there sale is may = (Nothing, refl, λ config said. refl)
hears_here true (Sold item) there sale is may = (Sold item, refl, λ config said. refl)
hears_here true here there sale is may = absurd is

-- the prices after facts
abbrev pub prices_of : Facts → Prices
prices_of facts = record { config = facts.config; amount = unwrap_or facts.amount 0 }

-- What is known of a reader in the end is known in the whole, but for the config message and the
-- amount.
pub record Covers (here there : Facts) : Type 0 where
  pub earlier : there.earlier ≡ true → here.earlier ≡ true
  pub sale : IsSaleThere here.earlier here.sale there.sale
  pub approvals : IsKnownToo here.approvals there.approvals

-- ---- so it is with each act more

both_earlier : (asks here there : Bool) → (there ≡ true → here ≡ true) → (asks && there) ≡ true
    → (asks && here) ≡ true
both_earlier true here there earlier is = earlier is
both_earlier false here there earlier is = is

known_too : {X : Type 0} (told : Option X) (here there : Known X) → IsKnownToo here there
    → IsKnownToo (known_more told here) (known_more told there)
known_too None here there too = too
known_too (Some x) here there too = refl

module _ (unit : ReaderUnit) where
  -- how the sale stands in the whole (`there`), by how it stands in the end (`one`), stays so
  sale_after : (act : Act) (here one there : Facts) → IsSaleThere here.earlier one.sale there.sale
      → IsSaleThere (facts_after unit act here).earlier (facts_after unit act one).sale
      (facts_after unit act there).sale
  sale_after (acts.Ask command) here one there is =
      there_asked (own unit command) here.earlier one.sale there.sale is
  sale_after (acts.VmcAck command reply) here one there is = there_heard
      (own_messages unit command (messages_of reply)) here.earlier one.sale there.sale is
  sale_after (acts.Break length) here one there is = there_nothing here.earlier
  sale_after act here one there is = is

  covers_after : (act : Act) (here there : Facts) → Covers here there
      → Covers (facts_after unit act here) (facts_after unit act there)
  covers_after act here there known = record {
    earlier = earlier act known.earlier;
    sale = sale_after act here here there known.sale;
    approvals = approvals act known.approvals;
  }
    where
      earlier : (act : Act) → (there.earlier ≡ true → here.earlier ≡ true)
          → (facts_after unit act there).earlier ≡ true
          → (facts_after unit act here).earlier ≡ true
      earlier (acts.Ask command) before = both_earlier _ here.earlier there.earlier before
      earlier act before = before

      approvals : (act : Act) → IsKnownToo here.approvals there.approvals
          → IsKnownToo (facts_after unit act here).approvals (facts_after unit act there).approvals
      approvals (acts.Reply command reply) too = known_too _ here.approvals there.approvals too
      approvals act too = too

  -- the config message and the amount are those of the base profile
  told_after : (act : Act) (facts : Facts)
      → ((facts_after unit act facts).config ≡ or_else (config_by unit act) facts.config)
      × ((facts_after unit act facts).amount ≡ or_else (amount_by unit act) facts.amount)
  told_after (acts.Reply command reply) facts = (refl, refl)
  told_after act facts = (refl, refl)

  as_base : (begins : Beginning) (so_far : List Act)
      → ((facts_of begins unit so_far).config ≡ (known_of begins unit so_far).config)
      × ((facts_of begins unit so_far).amount ≡ last_told (amount_by unit) so_far)
  as_base (PowerOn profile) [] = (refl, refl)
  as_base (Joined setups profile) [] = (refl, refl)
  as_base begins (act ∷ so_far) =
      let before = as_base begins so_far in
      let told = told_after act (facts_of begins unit so_far) in (
        told.0 ∙ ap (or_else (config_by unit act)) before.0
            ∙ first_of_three (config_by unit act) (last_told (config_by unit) so_far)
            (known_before (λ setups. config_known setups unit) begins),
        told.1 ∙ ap (or_else (amount_by unit act)) before.1,
      )

  prices_are : (begins : Beginning) (so_far : List Act)
      → prices_of (facts_of begins unit so_far) ≡ prices_known unit begins so_far
  prices_are begins so_far =
      let base = as_base begins so_far in
      same_prices base.0 (ap (λ last. unwrap_or last 0) base.1)

-- ---- messages 05 of a reply

none_in : (said : List ReaderMsg) → approvals said ≡ 0 → approvals_in said ≡ []
none_in [] none = refl
none_in (messages.VendApproved amount ∷ said) none = absurd (some_approved amount said none)
none_in (message ∷ said) none = none_in said (omega (arith, none))

none_new : (choice : Choice) (before : ApprovalState) (last new : List ℕ)
    → news choice before last [] ≡ Some new → new ≡ []
none_new Again before last new is = grind (arith, common_steps)
none_new choice before last new is =
    grind (arith, common_steps, drop-nil {A = ℕ} (length last))

same_new : (here there : Facts) (reply : Reply) (choice : Choice) (before : ApprovalState)
    (last new : List ℕ) → news choice before last (approvals_in (messages_of reply)) ≡ Some new
    → AreSaidPriced reply (config_with reply here.config) (config_with reply there.config)
    → worth here reply new ≡ worth there reply new
same_new here there reply choice before last new is (inl none) =
    let nothing : new ≡ [] =
    none_new choice before last new (rw (none_in (messages_of reply) none) at is) in
    rw nothing
same_new here there reply choice before last [] is (inr same) = refl
same_new here there reply choice before last (amount ∷ new) is (inr same) =
    ap (λ config. value config amount) same

-- where there is none, the controller hears none
unheard : (config : Option ReaderConfig) (said : List ReaderMsg) → approvals said ≡ 0
    → approved_to config Awaited said ≡ 0
unheard config [] none = refl
unheard config (messages.VendApproved amount ∷ said) none =
    absurd (some_approved amount said none)
unheard config (messages.JustReset ∷ said) none = refl
unheard config (messages.VendDenied ∷ said) none = refl
unheard config (message ∷ said) none = unheard config said (omega (arith, none))

same_heard : (one other : Option ReaderConfig) (said : List ReaderMsg) (sale : Sale)
    → (approvals said ≡ 0) ⊎ (one ≡ other)
    → approved_to one sale said ≡ approved_to other sale said
same_heard one other said sale (inr same) = ap (λ config. approved_to config sale said) same
same_heard one other said Awaited (inl none) =
    unheard one said none ∙ sym (unheard other said none)
same_heard one other said sale (inl none) = refl

-- ---- each step

module _ (here there : Facts) (known : Covers here there) where
  -- what is sold has the same value
  abbrev IsAlike : ReaderCommand → Type 0
  IsAlike its = IsSalePriced (prices_of here) (prices_of there) its

  -- a sale wasn't approved before the end
  abbrev pub IsInEnd : Sale → Type 0
  IsInEnd sale = (here.earlier ≡ false) ⊎ IsEarlierSale sale sale

  -- A sale of an item may be asked in the end, and is worth the same there where that has its
  -- price.
  abbrev Sells : ℕ → Sale → Sale → ℕ → Type 0
  Sells item sale its its_worth =
      (other : ℕ) × MaySell here item sale other
      × ((prices_of here ≡ prices_of there) × IsInEnd its → other ≡ its_worth)

  -- one that was requested before the whole
  before_whole : (Else : Type 0) (its_worth : ℕ) → IsEarlier there its_worth
      → (other : ℕ) × IsEarlier here other
      × ((prices_of here ≡ prices_of there) × Else → other ≡ its_worth)
  before_whole Else its_worth is = (
    last_value here,
    (known.earlier is.0, refl),
    λ same. ap (λ (p : Prices). value p.config p.amount) same.0 ∙ sym is.1,
  )

  none_or_before : (Else : Type 0) (its_worth : ℕ) → (its_worth ≡ 0) ⊎ IsEarlier there its_worth
      → (other : ℕ) × ((other ≡ 0) ⊎ IsEarlier here other)
      × ((prices_of here ≡ prices_of there) × Else → other ≡ its_worth)
  none_or_before Else its_worth (inl none) = (0, inl refl, λ same. sym none)
  none_or_before Else its_worth (inr earlier) =
      let is = before_whole Else its_worth earlier in (is.0, inr is.1, is.2)

  -- by the same sale
  sells_same : (item : ℕ) (sale : Sale) (its_worth : ℕ) → MaySell there item sale its_worth
      → Sells item sale sale its_worth
  sells_same item (Approved amount) its_worth may = (
    value here.config amount,
    refl,
    λ same. ap (λ (p : Prices). value p.config amount) same.0 ∙ sym may,
  )
  sells_same item (Sold last) its_worth (inl may) = (0, inl (may.0, refl), λ same. sym may.1)
  sells_same item (Sold last) its_worth (inr may) =
      let is = before_whole (IsInEnd (Sold last)) its_worth may.1 in
      (is.0, inr (may.0, is.1), is.2)
  sells_same item Unknown its_worth may = none_or_before _ its_worth may
  sells_same item Unawaited its_worth may = none_or_before _ its_worth may
  sells_same item sale its_worth may = before_whole _ its_worth may

  -- by one that was requested before the end
  not_approved : {X : Type 0} (amount : ℕ) → here.earlier ≡ true → IsInEnd (Approved amount) → X
  not_approved amount earlier (inl later) = absurd cc
  not_approved amount earlier (inr never) = absurd never

  -- by one that isn't known
  sells_either : (item : ℕ) (its : Sale) (its_worth : ℕ) → here.earlier ≡ true
      → MaySell there item its its_worth
      → (other : ℕ) × ((other ≡ 0) ⊎ IsEarlier here other)
      × ((prices_of here ≡ prices_of there) × IsInEnd its → other ≡ its_worth)
  sells_either item (Approved amount) its_worth earlier may =
      (last_value here, inr (earlier, refl), λ same. not_approved amount earlier same.1)
  sells_either item (Sold last) its_worth earlier (inl may) = none_or_before _ its_worth (inl may.1)
  sells_either item (Sold last) its_worth earlier (inr may) = none_or_before _ its_worth (inr may.1)
  sells_either item Unknown its_worth earlier may = none_or_before _ its_worth may
  sells_either item Unawaited its_worth earlier may = none_or_before _ its_worth may
  sells_either item its its_worth earlier may = none_or_before _ its_worth (inr may)

  sells : (item : ℕ) (is_earlier : Bool) (sale its : Sale) (its_worth : ℕ)
      → here.earlier ≡ is_earlier → IsSaleThere is_earlier sale its
      → MaySell there item its its_worth → Sells item sale its its_worth
  sells item false sale its its_worth later is may = rw is (sells_same item its its_worth may)
  sells item true Unknown its its_worth earlier is may = sells_either item its its_worth earlier may
  sells item true Unawaited its its_worth earlier is may =
      sells_either item its its_worth earlier may
  sells item true Nothing (Approved amount) its_worth earlier is may =
      (last_value here, (earlier, refl), λ same. not_approved amount earlier same.1)
  sells item true Nothing Asked its_worth earlier is may = sells_same item Asked its_worth may
  sells item true Nothing Nothing its_worth earlier is may = sells_same item Nothing its_worth may
  sells item true (Sold last) its its_worth earlier is may =
      subst (λ s. Sells item s its its_worth) is (sells_same item its its_worth may)
  sells item true sale its its_worth earlier is may = absurd is

  -- what an ask values has the same value
  abbrev pub IsAskAlike : ReaderCommand → Type 0
  IsAskAlike its = IsAlike its × (asks_sale (Some its) ≡ true → IsInEnd there.sale)

  may_ask : (its : ReaderCommand) (its_worth : ℕ) → MayAsk there its its_worth
      → (other : ℕ) × MayAsk here its other × (IsAskAlike its → other ≡ its_worth)
  may_ask (reader.VendSuccess item) its_worth may =
      let is = sells item here.earlier here.sale there.sale its_worth refl known.sale may in (
        is.0,
        is.1,
        λ alike.
            elim alike.0 [ inl none ↦ absurd cc | inr same ↦ is.2 (same, alike.1 refl) ],
      )
  may_ask its its_worth may = (0, refl, λ alike. sym may)

  -- what the reader sold is the same
  same_sold : (its : ReaderCommand) (before : ApprovalState) → IsAlike its
      → sold here its before ≡ sold there its before
  same_sold (reader.VendSuccess item) before (inl none) = absurd cc
  same_sold (reader.VendSuccess item) before (inr same) =
      ap (λ (p : Prices). if before.approved then value p.config p.amount else 0) same
  same_sold its before alike = refl

  -- what an act values has the same value
  abbrev IsActAlike : ReaderUnit → Act → Type 0
  IsActAlike unit (acts.Ask command) =
      (its : ReaderCommand) → own unit command ≡ Some its → IsAskAlike its
  IsActAlike unit act = IsPriced unit (prices_of here) (prices_of there) act

  module _ (before after : ApprovalState) (gains : Gains) where
    ask_here : (its : ReaderCommand) → AskStep there its before after gains
        → AlsoSteps (AskStep here its before after) (IsAskAlike its) gains
    ask_here its step =
        let ask = may_ask its step.0 step.1 in
        record {
          other = controller_gains (in_slots (0 ∷ ask.0 ∷ []));
          step = (ask.0, ask.1, step.2, refl);
          same = λ alike. rw (ask.2 alike) (sym step.3);
        }

    ack_here : (its : ReaderCommand) → AckStep there its before after gains
        → AlsoSteps (AckStep here its before after) (IsAlike its) gains
    ack_here its step = record {
      other = device_gains (in_slots (0 ∷ sold here its before ∷ []));
      step = (step.0, refl);
      same = λ alike. rw (same_sold its before alike) (sym step.1);
    }

    reply_here : (reply : Reply) (choice : Choice) (its : ReaderCommand)
        → ReplyStep there its reply choice before after gains
        → AlsoSteps (ReplyStep here its reply choice before after)
        (IsAlike its
        × AreSaidPriced reply (config_with reply here.config) (config_with reply there.config))
        gains
    reply_here reply choice its step =
        let start = read choice before in
        let sale = sold_by here its reply start in
        record {
          other = device_gains (in_slots (worth here reply step.new ∷ sale ∷ []));
          step = record {
            last = step.last;
            may_be_last = allowed_end here.approvals there.approvals step.last known.approvals
                step.may_be_last;
            may_be_read = step.may_be_read;
            new = step.new;
            is_new = step.is_new;
            to = step.to;
            gained = refl;
          };
          same = λ alike. rw (
            same_new here there reply choice _ step.last step.new step.is_new alike.1,
            same_sold its start alike.0,
          ) (sym step.gained);
        }

    vmc_ack_here : (reply : Reply) (choice : Choice)
        → VmcAckStep there reply choice before after gains
        → AlsoSteps (VmcAckStep here reply choice before after)
        (AreSaidPriced reply here.config there.config) gains
    vmc_ack_here reply choice step =
        let said = messages_of reply in
        let hears = hears_here here.earlier here.sale there.sale step.0 known.sale step.1 in
        record {
          other = controller_gains (in_slots (approved_to here.config hears.0 said ∷ 0 ∷ []));
          step = (hears.0, hears.1, step.2, refl);
          same = λ alike. rw (
            hears.2 here.config said,
            same_heard here.config there.config said step.0 alike,
          ) (sym step.3);
        }

    goes_here : (unit : ReaderUnit) (act : Act) (choice : Choice)
        → ReaderStep unit there act choice before after gains
        → AlsoSteps (ReaderStep unit here act choice before after) (IsActAlike unit act) gains
    goes_here unit (acts.Ask c) choice step = by_own (own unit c) _ _
        (λ its is ask. as_same (λ alike. alike its is) (ask_here its ask)) step
    goes_here unit (acts.Ack c) choice step = by_own (own unit c) _ _
        (λ its is ack. as_same (λ alike. alike its is) (ack_here its ack)) step
    goes_here unit (acts.Reply c r) choice step = by_own (own unit c) _ _
        (λ its is reply. as_same (λ alike. alike its is) (reply_here r choice its reply)) step
    goes_here unit (acts.VmcAck c r) choice step = by_own (own unit c) _ _
        (λ its is ack. as_same (λ alike. alike its is) (vmc_ack_here r choice ack)) step
    goes_here unit act choice step = as_it_is step

-- ---- in the end

-- by the base profile, too, all amounts have a value then
valued_ask : (asks one other earlier : Bool) → one_if (asks && (one || other || earlier)) ≡ 0
    → (one_if (asks && (one || other)) ≡ 0) × (asks ≡ true → earlier ≡ false)
valued_ask false one other earlier none = (refl, λ asks. absurd cc)
valued_ask true false false false none = (refl, λ asks. refl)
valued_ask asks one other earlier none = absurd (omega (arith, none))

module _ (unit : ReaderUnit) (begins : Beginning) where
  ask_valued : (command : Command) (so_far : List Act)
      → unvalued_by unit (facts_of begins unit so_far) (acts.Ask command) ≡ 0
      → (reader_amounts.unvalued_by unit (known_of begins unit so_far) (acts.Ask command) ≡ 0)
      × (asks_sale (own unit command) ≡ true → (facts_of begins unit so_far).earlier ≡ false)
  ask_valued command so_far =
      let same = as_base unit begins so_far in
      λ none. valued_ask (asks_sale (own unit command))
      (is_none (known_of begins unit so_far).config)
      (is_none (last_told (amount_by unit) so_far)) (facts_of begins unit so_far).earlier
      (rw (same.0, same.1) at none)

  valued_by : (act : Act) (so_far : List Act)
      → unvalued_by unit (facts_of begins unit so_far) act ≡ 0
      → reader_amounts.unvalued_by unit (known_of begins unit so_far) act ≡ 0
  valued_by (acts.Ask command) so_far none = (ask_valued command so_far none).0
  valued_by act so_far none = rw (as_base unit begins so_far).0 at none

  valued : (so_far : List Act) → unvalued unit begins so_far ≡ 0
      → reader_amounts.unvalued unit begins so_far ≡ 0
  valued [] none = none
  valued (act ∷ so_far) none =
      omega (arith, valued_by act so_far (omega (arith, none)), valued so_far (omega (arith, none)))

module _ (unit : ReaderUnit) (begins : Beginning) (setups : Setups) (later front : List Act) where
  abbrev joined : Beginning
  joined = Joined setups (profile_of begins)

  abbrev here : Facts
  here = facts_of joined unit later

  abbrev there : Facts
  there = facts_of begins unit (later ++ front)

  -- what is known in the end is known there
  known_there : (later front : List Act)
      → Covers (facts_of joined unit later) (facts_of begins unit (later ++ front))
  known_there [] front = record { earlier = λ is. refl; sale = tt; approvals = tt }
  known_there (act ∷ later) front = covers_after unit act (facts_of joined unit later)
      (facts_of begins unit (later ++ front)) (known_there later front)

  it : Covers here there
  it = known_there later front

  -- and where both are one recording from power-on on, no sale was approved before it
  in_whole : (later front : List Act) → begins ≡ PowerOn (profile_of begins) → front ≡ []
      → IsSaleThere (facts_of joined unit later).earlier (facts_of begins unit (later ++
      front)).sale
      (facts_of begins unit (later ++ front)).sale
  in_whole [] front power_on empty = rw (empty, power_on) tt
  in_whole (act ∷ later) front power_on empty =
      let whole : Facts = facts_of begins unit (later ++ front) in
      sale_after unit act (facts_of joined unit later) whole whole
      (in_whole later front power_on empty)

  in_end : (earlier : Bool) → here.earlier ≡ earlier
      → IsSaleThere earlier there.sale there.sale → IsInEnd here there it there.sale
  in_end true is never = inr never
  in_end false is never = inl is

  -- what an act values has the same value, where it has to
  counted_base : (act : Act)
      → IsCounted unit begins setups later front act (facts_of begins unit front).config
      (unvalued unit joined (act ∷ later))
      → IsPriced unit (prices_of here) (prices_of there) act
  counted_base act counted =
      let its = base_counted unit begins setups later front act (elim counted [
        | inl (are, answers, none) ↦ inl (
          rw (as_base unit begins front).0 at are,
          answers,
          valued unit joined (act ∷ later) none,
        )
        | inr same ↦ inr same
      ]) in
      rw (prices_are unit joined later, prices_are unit begins (later ++ front)) its

  counted_alike : (act : Act)
      → IsCounted unit begins setups later front act (facts_of begins unit front).config
      (unvalued unit joined (act ∷ later))
      → IsActAlike here there it unit act
  counted_alike (acts.Ask command) (inl (are, answers, none)) = λ its is. (
    counted_base (acts.Ask command) (inl (are, answers, none)) its is,
    λ asks. inl ((ask_valued unit joined command later (omega (arith, none))).1
        (ap asks_sale is ∙ asks)),
  )
  counted_alike (acts.Ask command) (inr (power_on, empty, unknown)) = λ its is. (
    counted_base (acts.Ask command) (inr (power_on, empty, unknown)) its is,
    λ asks. in_end here.earlier refl (in_whole later front power_on empty),
  )
  counted_alike act counted = counted_base act counted

  -- so each step is one in the end, which gains the same where it has to
  pub extended_in_end : (act : Act) (choice : Choice) (before after : ApprovalState)
      (gains : Gains) → ReaderStep unit there act choice before after gains
      → AlsoSteps (ReaderStep unit here act choice before after)
      (IsCounted unit begins setups later front act (facts_of begins unit front).config
      (unvalued unit joined (act ∷ later))) gains
  extended_in_end act choice before after gains step =
      as_same (counted_alike act) (goes_here here there it before after gains unit act choice step)
