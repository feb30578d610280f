-- What is known of a reader in the end of a recording by itself is known in the whole recording,
-- too. Where the end leaves no amount without a value, each act has the same price there. Lists of
-- acts stand newest first.
use Rattle.mdb_late_start.proofs.Words.{◌≡◌, ◌⊎◌, ℕ, Bool, true, false, ◌&&◌, ◌||◌, List, [], ◌∷◌, ◌++◌, Option, Some, None, refl, inl, inr, unwrap_or, arith, ap, sym, ◌∙◌, sum_by, is_none, Command, ReaderCommand, ReaderUnit, Reply, ReaderMsg, ReaderConfig, config_known, Act, Beginning, is_approval, known_before, last_told, or_else, one_if, asks_sale, config_in, last_said, messages_of, own, first_of_three, AnswersLast, amount_by, config_by, messages_by, own_messages, option_map, Setups, PowerOn, Joined, profile_of, kept_of, last_list, unless_empty, IsNothingOr, taken_told}
use Rattle.mdb_bus.specs.declared.act.Act.TheVariants as acts
use Rattle.mdb_machine.specs.Unvalued as amounts
use Rattle.mdb_cashless.specs.ReaderAmounts.{unvalued, unvalued_by}
use Rattle.mdb_cashless.specs.ReaderFacts.{known_of, KnownFacts, asked_by, effect_of, parts_by}
use Rattle.mdb_cashless.specs.declared.reader.transaction.Transaction.{Transaction}
use Rattle.mdb_late_start.proofs.Covering.{Covers, all_later, asked_over, covers_over, known_over, owed_end, same_over, told_over}

-- what values hang on: the config message, and the amount of the last message 05
pub record Prices : Type 0 where
  pub config : Option ReaderConfig
  pub amount : ℕ

-- prices are the same where their fields are
pub same_prices : {one other : Prices} → one.config ≡ other.config → one.amount ≡ other.amount
    → one ≡ other
same_prices {one} {other} config amount =
    let same : record one { config = one.config } ≡ record other { config = other.config } =
    cc (config, amount) in
    same

-- a command is no sale, or a sale has the same value
abbrev pub IsSalePriced : Prices → Prices → ReaderCommand → Type 0
IsSalePriced one other its = (asks_sale (Some its) ≡ false) ⊎ (one ≡ other)

-- how many messages 05 there are
abbrev pub approvals : List ReaderMsg → ℕ
approvals said = sum_by (λ message. one_if (is_approval message)) said

-- the config message that the messages of a reply are valued by
abbrev pub config_with : Reply → Option ReaderConfig → Option ReaderConfig
config_with reply config = or_else (last_said config_in (messages_of reply)) config

-- messages have no 05, or have the same value
abbrev pub AreSaidPriced : Reply → Option ReaderConfig → Option ReaderConfig → Type 0
AreSaidPriced reply one other = (approvals (messages_of reply) ≡ 0) ⊎ (one ≡ other)

-- what an act values has the same value
abbrev pub IsPriced : ReaderUnit → Prices → Prices → Act → Type 0
IsPriced unit one other (acts.Ask command) =
    (its : ReaderCommand) → own unit command ≡ Some its → IsSalePriced one other its
IsPriced unit one other (acts.Ack command) =
    (its : ReaderCommand) → own unit command ≡ Some its → IsSalePriced one other its
IsPriced unit one other (acts.Reply command reply) =
    (its : ReaderCommand) → own unit command ≡ Some its → IsSalePriced one other its
    × AreSaidPriced reply (config_with reply one.config) (config_with reply other.config)
IsPriced unit one other (acts.VmcAck command reply) =
    (its : ReaderCommand) → own unit command ≡ Some its
    → AreSaidPriced reply one.config other.config
IsPriced unit one other act = Unit {0}

-- so it is where all has the same value
pub all_priced : (unit : ReaderUnit) (one other : Prices) (act : Act) → one ≡ other
    → IsPriced unit one other act
all_priced unit one other (acts.Ask c) same = λ its is. inr same
all_priced unit one other (acts.Ack c) same = λ its is. inr same
all_priced unit one other (acts.Reply c r) same = λ its is. (inr same, inr (cc))
all_priced unit one other (acts.VmcAck c r) same = λ its is. inr (cc)
all_priced unit one other act same = tt

-- ---- what is known

-- something is known
abbrev pub IsSome : {X : Type 0} → Option X → Type 0
IsSome {X} found = (x : X) × (found ≡ Some x)

-- what is known is the same there, after a reply that may tell something
same_after : {X : Type 0} (its here there : Option X)
    → ((x : X) → here ≡ Some x → there ≡ Some x) → IsSome (or_else its here)
    → or_else its here ≡ or_else its there
same_after (Some x) here there too some = refl
same_after None here there too some = some.1 ∙ sym (too some.0 some.1)

-- it stays known
stays : {X : Type 0} (first last elsewhere : Option X) → IsSome (or_else last elsewhere)
    → IsSome (or_else (or_else first last) elsewhere)
stays (Some x) last elsewhere some = (x, refl)
stays None last elsewhere some = some

-- a command is no sale, or one that has a value
sale_known : {X : Type 0} (asks : Bool) (config : Option X) (amount : Option ℕ)
    → one_if (asks && (is_none config || is_none amount)) ≡ 0
    → (asks ≡ false) ⊎ (IsSome config × IsSome amount)
sale_known false config amount none = inl refl
sale_known true (Some config) (Some amount) none = inr ((config, refl), (amount, refl))
sale_known true config amount none = absurd (omega (arith, none))

-- there are no amounts, or they have a value
amounts_known : {X : Type 0} (setup : Option X) (count : ℕ) → amounts.unvalued_by setup count ≡ 0
    → (count ≡ 0) ⊎ IsSome setup
amounts_known None count none = inl none
amounts_known (Some setup) count none = inr (setup, refl)

-- what a reply to this reader tells
pub said : (unit : ReaderUnit) (command : Command) (reply : Reply) (its : ReaderCommand)
    → own unit command ≡ Some its → messages_by unit (acts.Reply command reply) ≡ messages_of reply
said unit command reply its is = rw (is, own_messages) refl

module _ (unit : ReaderUnit) (begins : Beginning) where
  -- the config message that is known, and the amount
  abbrev pub known_config : List Act → Option ReaderConfig
  known_config acts = (known_of begins unit acts).config

  abbrev amount_of : List Act → Option ℕ
  amount_of acts = last_told (amount_by unit) acts

  abbrev IsValued : List Act → Type 0
  IsValued acts = unvalued unit begins acts ≡ 0

  -- a command is no sale, or has a value after acts
  abbrev IsSaleKnown : ReaderCommand → List Act → Type 0
  IsSaleKnown its acts =
      (asks_sale (Some its) ≡ false) ⊎ (IsSome (known_config acts) × IsSome (amount_of acts))

  -- the parts of a sum that is 0
  first_valued : (act : Act) (before : List Act) → IsValued (act ∷ before)
      → unvalued_by unit (known_of begins unit before) act ≡ 0
  first_valued act before none = omega (arith, none)

  pub rest_valued : (again before : List Act) → IsValued (again ++ before) → IsValued before
  rest_valued [] before none = none
  rest_valued (act ∷ again) before none = rest_valued again before (omega (arith, none))

  module _ (command : Command) (its : ReaderCommand) (is : own unit command ≡ Some its) where
    -- a command that is asked
    asked_known : (before : List Act) → IsValued (acts.Ask command ∷ before)
        → IsSaleKnown its before
    asked_known before none =
        sale_known (asks_sale (Some its)) (known_config before) (amount_of before)
        (rw is at (first_valued (acts.Ask command) before none))

    -- one that is answered
    answered_known : (later before : List Act) → later ≡ acts.Ask command ∷ before
        → IsValued later → IsSaleKnown its later
    answered_known later before order = rw order (asked_known before)

    module _ (reply : Reply) (before : List Act) where
      abbrev Replied : List Act
      Replied = acts.Reply command reply ∷ before

      -- a reply has no message 05, or a config message is known that they are valued by
      reply_known : IsValued Replied
          → (approvals (messages_of reply) ≡ 0) ⊎ IsSome (config_with reply (known_config before))
      reply_known none =
          amounts_known (config_with reply (known_config before)) (approvals (messages_of reply))
          (rw (said unit command reply its is) at
          (first_valued (acts.Reply command reply) before none))

      -- which is known after it
      known_after : (again : List Act) → IsSome (config_with reply (known_config before))
          → IsSome (known_config (again ++ Replied))
      known_after [] some = rw (said unit command reply its is) (rw first_of_three at some)
      known_after (act ∷ again) some = stays (config_by unit act)
          (last_told (config_by unit) (again ++ Replied))
          (known_before (λ setups. config_known setups unit) begins) (known_after again some)

  -- ---- the same prices

  abbrev pub prices_known : List Act → Prices
  prices_known acts =
      record { config = known_config acts; amount = unwrap_or (amount_of acts) 0 }

  -- Those of the whole recording are the same, where they are known.
  pub record Counts (later : List Act) (whole : Prices) : Type 0 where
    pub config : (config : ReaderConfig) → known_config later ≡ Some config
        → whole.config ≡ Some config
    pub amount : (amount : ℕ) → amount_of later ≡ Some amount → whole.amount ≡ amount

  sale_priced : (later : List Act) (whole : Prices) (its : ReaderCommand) → Counts later whole
      → IsSaleKnown its later → IsSalePriced (prices_known later) whole its
  sale_priced later whole its count (inl none) = inl none
  sale_priced later whole its count (inr (config, amount)) = inr (same_prices
      (config.1 ∙ sym (count.config config.0 config.1))
      (ap (λ last. unwrap_or last 0) amount.1 ∙ sym (count.amount amount.0 amount.1)))

  pub priced : (later : List Act) (whole : Prices) (act : Act) → Counts later whole
      → AnswersLast act later → IsValued (act ∷ later)
      → IsPriced unit (prices_known later) whole act
  priced later whole (acts.Ask c) count answers none =
      λ its is. sale_priced later whole its count (asked_known c its is later none)
  priced later whole (acts.Ack c) count answers none =
      λ its is. sale_priced later whole its count (answered_known c its is later answers.0 answers.1
      (rest_valued (acts.Ack c ∷ []) later none))
  priced later whole (acts.Reply c r) count answers none =
      λ its is. (
        sale_priced later whole its count (answered_known c its is later answers.0 answers.1
            (rest_valued (acts.Reply c r ∷ []) later none)),
        elim (reply_known c its is r later none) [
          | inl nothing ↦ inl nothing
          | inr some ↦ inr (same_after (last_said config_in (messages_of r)) (known_config later)
              whole.config count.config some)
        ],
      )
  priced later whole (acts.VmcAck c r) count answers none =
      λ its is. elim (reply_known c its is r answers.before
      (rest_valued answers.again (acts.Reply c r ∷ answers.before)
      (rw answers.order at (rest_valued (acts.VmcAck c r ∷ []) later none)))) [
        | inl nothing ↦ inl nothing
        | inr some ↦ inr (same_after None (known_config later) whole.config count.config
            (rw answers.order (known_after c its is r answers.before answers.again some)))
      ]
  priced later whole act count answers none = tt

-- Where a step gains the same in an end: what is told from elsewhere was known in front (`config`),
-- and the end leaves no amount without a value; and where both are one recording from power-on on,
-- and nothing was told from elsewhere.
abbrev pub IsCounted : ReaderUnit → Beginning → Setups → List Act → List Act → Act
    → Option ReaderConfig → ℕ → Type 0
IsCounted unit begins setups later front act config unvalued =
    (IsNothingOr (config_known setups unit) config × AnswersLast act later × (unvalued ≡ 0))
    ⊎ ((begins ≡ PowerOn (profile_of begins)) × (front ≡ [])
    × (config_known setups unit ≡ None))

-- What is known of a reader by the base profile, but for the config message and the amount.
pub record IsKnownInEnd (whole end : KnownFacts) : Type 0 where
  pub asked : Covers end.asked whole.asked
  pub taken : Covers end.taken whole.taken
  pub kept : Covers end.past.last_kept whole.past.last_kept
  pub owed : end.past.reset_owed ≡ true → whole.past.reset_owed ≡ true

module _ (unit : ReaderUnit) (begins : Beginning) (setups : Setups) (later front : List Act) where
  pub known_in_end : IsKnownInEnd (known_of begins unit (later ++ front))
      (known_of (Joined setups (profile_of begins)) unit later)
  known_in_end =
      let to_some : Transaction → Option Transaction = λ transaction. Some transaction in
      let asked : List Act → Option Transaction = last_told (asked_by unit) in
      record {
        asked = covers_over begins setups None (option_map to_some (asked later))
            (option_map to_some (asked front)) _
            (ap (option_map to_some) (told_over (asked_by unit) later front)
            ∙ asked_over (asked later) (asked front));
        taken = covers_over begins setups None (last_told (taken_told unit) later)
            (last_told (taken_told unit) front) _ (told_over (taken_told unit) later front);
        kept = covers_over begins setups [] (last_list (parts_by unit) later)
            (last_list (parts_by unit) front) _
            (told_over (λ act. unless_empty (kept_of (parts_by unit act))) later front);
        owed = owed_end begins setups (effect_of unit) (parts_by unit) later front;
      }

  -- what an act values has the same value by the config message and the amount, where it has to
  pub counted : (act : Act)
      → IsCounted unit begins setups later front act (known_config unit begins front)
      (unvalued unit (Joined setups (profile_of begins)) (act ∷ later))
      → IsPriced unit (prices_known unit (Joined setups (profile_of begins)) later)
      (prices_known unit begins (later ++ front)) act
  counted act (inl (are, answers, none)) =
      priced unit (Joined setups (profile_of begins)) later
      (prices_known unit begins (later ++ front)) act (record {
        config = λ config. known_over (config_by unit) (λ told. config_known told unit) begins
            setups later front config are;
        amount = λ amount is. ap (λ last. unwrap_or last 0) (told_over (amount_by unit) later front
            ∙ ap (λ last. or_else last (last_told (amount_by unit) front)) is);
      }) answers none
  counted act (inr (power_on, empty, unknown)) =
      all_priced unit (prices_known unit (Joined setups (profile_of begins)) later)
      (prices_known unit begins (later ++ front)) act (same_prices
      (same_over (config_by unit) (λ told. config_known told unit) begins setups later front
      power_on empty unknown)
      (ap (λ acts. unwrap_or (last_told (amount_by unit) acts) 0) (all_later later front empty)))
