-- What a device that keeps messages does, it may do in mid-session: its steps in a recording are
-- steps of the end of that by itself. This is shown once for changer and validator, from what is
-- so of their conduct. Lists of acts stand newest first.
use Rattle.mdb_late_start.proofs.Words.{◌≡◌, ◌⊎◌, inl, inr, ℕ, ◌<◌, Bool, true, false, ◌&&◌, List, [], ◌∷◌, ◌++◌, Option, Some, None, refl, ap, sym, ◌∙◌, arith, if◌then◌else◌, sum_by, AllByRecursion, sum_by-cons, Command, Reply, Setups, IsReply, NamesAReply, Act, Beginning, PowerOn, Joined, profile_of, Choice, Lost, Restart, fun_ext, Gains, Part, controller_gains, device_gains, IsNew, has_reset, holds_after, kept_of, Known, Is, known_before, StartsIn, last_list, last_told, or_else, unless_empty, one_if, AnswersLast, HasTold, IsNothingOr, GoesOnInEnd, TellsOnlyWhatIsSo, Device, IsNotKnown, StateOf, machine_of, unvalued_of, Tables, setup_by, held, holds_acked, holds_read, Allows, AllowsKept, known_by, amounts_in}
use Rattle.mdb_bus.specs.declared.act.Act.TheVariants as acts
use Rattle.mdb_machine.specs.Keeper.{Facts, KnownFacts, known_of, parts_by}
use Rattle.mdb_machine.specs.KeeperConduct.{AckStep, Conduct, KeeperStep, ReplyStep, StepKnowing, VmcAckStep, worth}
use Rattle.mdb_machine.specs.Known.{Unknown}
use Rattle.mdb_machine.specs.Steps.{ForOwn}
use Rattle.mdb_machine.specs.Unvalued.{unvalued}
use Rattle.mdb_late_start.proofs.Covering.{Covers, known_in_end, known_over, same_over}

-- The facts of a step as the end of a recording has them, where this is known there: what was asked
-- last and the last kept list are what they were.
abbrev pub in_end : {Setup Asked M : Type 0} → KnownFacts Setup Asked M → Facts Setup Asked M
    → Facts Setup Asked M
in_end known facts = record {
  setup = known.setup;
  last_asked = facts.last_asked;
  enabled = known.enabled;
  past = record { reset_owed = known.past.reset_owed; last_kept = facts.past.last_kept };
}

-- a step with some gains, the same as these where that holds
pub record AlsoSteps (Step : Gains → Type 0) (Same : Type 0) (gains : Gains) : Type 0 where
  pub other : Gains
  pub step : Step other
  pub same : Same → other ≡ gains

-- Each type that is enabled by the facts is in the end, too.
abbrev pub IsEnabledIn : {Setup Asked M : Type 0} → KnownFacts Setup Asked M
    → Facts Setup Asked M → Type 0
IsEnabledIn known facts = (kind : ℕ) → kind < 16 → facts.enabled kind ≡ true
    → known.enabled kind ≡ true

-- what is so of messages is so of the new ones among them, which are the last, or none
all_last : {X : Type 0} (P : X → Type 0) (front back : List X) → AllByRecursion P (front ++ back)
    → AllByRecursion P back
all_last P [] back all = all
all_last P (x ∷ front) back all = all_last P front back all.1

all_new : {M : Type 0} (P : M → Type 0) (poll : Bool) (holding kept new : List M)
    → IsNew poll holding kept new → AllByRecursion P kept → AllByRecursion P new
all_new P poll holding kept new (inl is) all = all_last P holding new (rw is at all)
all_new P poll holding kept new (inr none) all = rw none.2 tt

-- messages that tell no amount come to nothing
is_none : (b : Bool) → one_if b ≡ 0 → b ≡ false
is_none true one = absurd (omega (arith, one))
is_none false one = refl

-- where messages tell of no amount, none of them does
none_told : {M : Type 0} (tells : M → Bool) (messages : List M)
    → sum_by (λ m. one_if (tells m)) messages ≡ 0
    → AllByRecursion (λ m. tells m ≡ false) messages
none_told tells [] none = tt
none_told tells (m ∷ messages) none =
    let parts = sym (sum_by-cons (λ x. one_if (tells x)) m messages) ∙ none in (
      is_none (tells m) (omega (arith, parts)),
      none_told tells messages (omega (arith, parts)),
    )

-- and then what they add is nothing
sum_none : {M : Type 0} (tells : M → Bool) (gain : M → ℕ) (messages : List M)
    → ((m : M) → tells m ≡ false → gain m ≡ 0)
    → AllByRecursion (λ m. tells m ≡ false) messages → sum_by gain messages ≡ 0
sum_none tells gain [] nothing all = refl
sum_none tells gain (m ∷ messages) nothing all =
    let one = nothing m all.0 in
    let rest = sum_none tells gain messages nothing all.1 in
    sum_by-cons gain m messages ∙ omega (arith, one, rest)

-- The act whose amounts an act goes back to: an ACK to those of the ask that it answers, the
-- controller's ACK to those of the reply that it acknowledges, and any other act to its own.
abbrev pub told_by : Act → Act
told_by (acts.Ack command) = acts.Ask command
told_by (acts.VmcAck command reply) = acts.Reply command reply
told_by act = act

-- a step as it is
pub as_it_is : {Step : Gains → Type 0} {Same : Type 0} {gains : Gains} → Step gains
    → AlsoSteps Step Same gains
as_it_is {gains = gains} step = record { other = gains; step = step; same = λ is. refl }

-- a step by a command of the device as another, where its command has both
pub by_own : {Own State : Type 0} {Same : Type 0} {before after : State} {gains : Gains}
    (command : Option Own) (One Other : Own → State → State → Gains → Type 0)
    → ((own : Own) → command ≡ Some own → One own before after gains
    → AlsoSteps (Other own before after) Same gains)
    → ForOwn command One before after gains
    → AlsoSteps (ForOwn command Other before after) Same gains
by_own None One Other each step = as_it_is step
by_own (Some own) One Other each step = each own refl step

-- the same where less is wanted for the same gains
pub as_same : {Step : Gains → Type 0} {One Other : Type 0} {gains : Gains} → (Other → One)
    → AlsoSteps Step One gains → AlsoSteps Step Other gains
as_same of step = record { other = step.other; step = step.step; same = λ is. step.same (of is) }

-- What is known in the whole is what may be known in the end.
pub allowed_end : {X : Type 0} (end whole : Known X) (x : X) → Covers end whole → Allows whole x
    → Allows end x
allowed_end Unknown whole x covers allowed = tt
allowed_end (Is known) whole x covers allowed = rw covers at allowed

-- So it is with the last kept list: where the end doesn't know it, a device that holds messages has
-- told one, as it is known here, or as it may be.
pub kept_end : {M : Type 0} (end whole : Known (List M)) (holds : Bool) (kept : List M)
    → Covers end whole → HasTold holds whole → AllowsKept whole holds kept
    → AllowsKept end holds kept
kept_end (Is known) whole holds kept covers told allowed = rw covers at allowed
kept_end Unknown Unknown holds kept covers told allowed = allowed
kept_end Unknown (Is known) holds kept covers told allowed =
    λ holding empty. told holding (ap (λ k. Is k) (sym allowed ∙ empty))

-- And so it is after a reply with kept messages; after any other act it is, if the device holds
-- none that it didn't hold before.
pub told_next : {M : Type 0} (begins : Beginning) (kept : List M) (last : Option (List M))
    (before after : Bool) → HasTold before (known_by begins [] last)
    → (kept ≡ [] → after ≡ true → before ≡ true)
    → HasTold after (known_by begins [] (or_else (unless_empty kept) last))
told_next begins [] last before after told held = λ holding. told (held refl holding)
told_next begins (m ∷ kept) last before after told held = λ holding same. absurd cc

-- what a device holds once a reply is read, it held before
pub held_read : (choice : Choice) (holds : Bool) → holds_read choice holds ≡ true → holds ≡ true
held_read Restart holds is = absurd cc
held_read choice holds is = is

-- and what it holds after an ACK of the controller's
pub held_acked : {M : Type 0} (choice : Choice) (kept : List M) (holds : Bool)
    → holds_acked choice kept holds ≡ true → holds ≡ true
held_acked choice [] holds is = is
held_acked Lost (m ∷ kept) holds is = is
held_acked choice (m ∷ kept) holds is = absurd cc

-- by a command of another device it comes to hold nothing
pub held_by_own : {Own State : Type 0} {before after : State} {gains : Gains}
    (holds : State → Bool) (command : Option Own) (Step : Own → State → State → Gains → Type 0)
    → ((own : Own) → command ≡ Some own → Step own before after gains → holds after ≡ true
    → holds before ≡ true)
    → ForOwn command Step before after gains → holds after ≡ true → holds before ≡ true
held_by_own holds None Step each step is = sym (ap holds step.0) ∙ is
held_by_own holds (Some own) Step each step is = each own refl step is

-- what a device does is a step of the end by itself, by what it gains there
pub recorded : (begins : Beginning) (setups : Setups) (device : Device) (later front : List Act)
    (act : Act) (choice : Choice) (before after : StateOf device) (gains : Gains)
    → AlsoSteps ((machine_of (Joined setups (profile_of begins)) device).Step later act choice
    before after)
    ((TellsOnlyWhatIsSo setups begins device front × AnswersLast act later
    × (unvalued_of (Joined setups (profile_of begins)) device (act ∷ later) ≡ 0))
    ⊎ ((begins ≡ PowerOn (profile_of begins)) × (front ≡ [])
    × IsNotKnown (Joined setups (profile_of begins)) device)) gains
    → GoesOnInEnd begins setups device later front act choice before after gains
recorded begins setups device later front act choice before after gains is = record {
  other = is.other;
  step = is.step;
  valued = λ are answers none. is.same (inl (are, answers, none));
  alike = λ power_on empty unknown. is.same (inr (power_on, empty, unknown));
}

module _ {Own Setup Asked M State : Type 0} (tables : Tables Own Setup Asked M)
    (conduct : Conduct Own Setup Asked M State) where
  -- What is so of the conduct of a device, where its kept messages are of some form (`Fits`). What
  -- it does may be done with the facts of the end, for the same gains where no money is asked for
  -- or told, or the setup table is the same. By no act but a reply does it come to hold messages.
  pub record IsSteady (Fits : M → Type 0) : Type 0 where
    pub asks : (known : KnownFacts Setup Asked M) (facts : Facts Setup Asked M) (command : Own)
        (before after : State) (gains : Gains) → conduct.Asks facts command before after gains
        → AlsoSteps (conduct.Asks (in_end known facts) command before after)
        ((known.setup ≡ facts.setup) ⊎ (conduct.asks_amount command ≡ false)) gains
    pub acks : (known : KnownFacts Setup Asked M) (facts : Facts Setup Asked M) (command : Own)
        (choice : Choice) (before after : State) (gains : Gains)
        → conduct.Acks facts command choice before after gains
        → AlsoSteps (conduct.Acks (in_end known facts) command choice before after)
        ((known.setup ≡ facts.setup) ⊎ (conduct.asks_amount command ≡ false)) gains
    pub fits : (command : Command) (reply : Reply) → IsReply command reply
        → AllByRecursion Fits (kept_of (tables.parts_of reply))
    pub tells_news : (known : KnownFacts Setup Asked M) (facts : Facts Setup Asked M)
        (choice : Choice) (news : List M) (before after : State) → IsEnabledIn known facts
        → AllByRecursion Fits news → conduct.TellsNews facts choice news before after
        → conduct.TellsNews (in_end known facts) choice news before after
    pub gain : (one other : Facts Setup Asked M) → one.setup ≡ other.setup
        → conduct.gain one ≡ conduct.gain other
    pub no_gain : (facts : Facts Setup Asked M) (slot : ℕ) (message : M)
        → conduct.tells_amount message ≡ false → conduct.gain facts slot message ≡ 0
    pub power_on_free : conduct.holds conduct.power_on ≡ false
    pub heard : (state : State) → conduct.holds (conduct.heard_reset state) ≡ conduct.holds state
    pub ask_holds : (facts : Facts Setup Asked M) (command : Own) (before after : State)
        (gains : Gains) → conduct.Asks facts command before after gains
        → conduct.holds after ≡ true → conduct.holds before ≡ true
    pub ack_holds : (facts : Facts Setup Asked M) (command : Own) (choice : Choice)
        (before after : State) (gains : Gains)
        → conduct.Acks facts command choice before after gains
        → conduct.holds after ≡ true → conduct.holds before ≡ true
    pub news_hold : (facts : Facts Setup Asked M) (choice : Choice) (news : List M)
        (before after : State) → conduct.TellsNews facts choice news before after
        → conduct.holds after ≡ conduct.holds before

  module _ (Fits : M → Type 0) (steady : IsSteady Fits) (known : KnownFacts Setup Asked M)
      (facts : Facts Setup Asked M) where
    -- the facts that the end has
    abbrev ended : Facts Setup Asked M
    ended = in_end known facts

    -- the setup table is the same, or something else is so
    abbrev OrSame : Type 0 → Type 0
    OrSame Else = (known.setup ≡ facts.setup) ⊎ Else

    or_same : {One Other : Type 0} → (One → Other) → OrSame One → OrSame Other
    or_same to (inl same) = inl same
    or_same to (inr one) = inr (to one)

    -- messages tell of no amount
    abbrev TellNone : List M → Type 0
    TellNone messages = AllByRecursion (λ m. conduct.tells_amount m ≡ false) messages

    -- the gains of a step are the same: the setup table is the same, or no amount counts
    abbrev IsSame : Act → Type 0
    IsSame act = OrSame (amounts_in tables conduct (told_by act) ≡ 0)

    -- an ask for no amount is one of a command that asks for none
    asks_none : (command : Command) (own : Own) → tables.own command ≡ Some own
        → OrSame (amounts_in tables conduct (acts.Ask command) ≡ 0)
        → OrSame (conduct.asks_amount own ≡ false)
    asks_none command own is = or_same (λ none. is_none (conduct.asks_amount own) (rw is at none))

    -- and a reply with none is one whose kept messages tell of none
    tells_none : (command : Command) (reply : Reply) (own : Own) → tables.own command ≡ Some own
        → OrSame (amounts_in tables conduct (acts.Reply command reply) ≡ 0)
        → OrSame (TellNone (kept_of (tables.parts_of reply)))
    tells_none command reply own is = or_same (λ none.
        none_told conduct.tells_amount (kept_of (tables.parts_of reply)) (rw is at none))

    -- so the sums over messages are the same
    same_sums : (messages : List M) → OrSame (TellNone messages)
        → worth conduct ended messages ≡ worth conduct facts messages
    same_sums messages (inl same) =
        ap (λ gain slot. sum_by (gain slot) messages) (steady.gain ended facts same)
    same_sums messages (inr none) =
        let nothing : (its : Facts Setup Asked M) (slot : ℕ)
        → sum_by (conduct.gain its slot) messages ≡ 0 =
        λ its slot. sum_none conduct.tells_amount (conduct.gain its slot) messages
        (steady.no_gain its slot) none in
        fun_ext (λ slot. nothing ended slot ∙ sym (nothing facts slot))

    module _ (choice : Choice) (before after : State) (gains : Gains) where
      -- an ACK, of POLL or of another command, in the end
      ack_in_end : (poll : Bool) (command : Own)
          → AckStep conduct facts poll command choice before after gains
          → AlsoSteps (AckStep conduct ended poll command choice before after)
          (OrSame (conduct.asks_amount command ≡ false)) gains
      ack_in_end true command step = as_it_is step
      ack_in_end false command step = steady.acks known facts command choice before after gains step

      -- a reply in the end: what is new fits, and a reset message is owed there only where it is
      -- here
      reply_in_end : (poll : Bool) (parts : List (Part M)) → IsEnabledIn known facts
          → (known.past.reset_owed ≡ true → facts.past.reset_owed ≡ true)
          → AllByRecursion Fits (kept_of parts)
          → ReplyStep conduct facts poll parts choice before after gains
          → AlsoSteps (ReplyStep conduct ended poll parts choice before after)
          (OrSame (TellNone (kept_of parts))) gains
      reply_in_end poll parts enabled owed fits step =
          let holding = held (holds_read choice (conduct.holds before)) facts.past.last_kept in
          let among : (P : M → Type 0) → AllByRecursion P (kept_of parts)
          → AllByRecursion P step.news =
          λ P. all_new P poll holding (kept_of parts) step.news step.has_news.new in
          record {
            other = device_gains (worth conduct ended step.news);
            step = record {
              news = step.news;
              has_news = record {
                read = step.has_news.read;
                reset = λ is. step.has_news.reset (owed is);
                new = step.has_news.new;
              };
              tells_news = steady.tells_news known facts choice step.news _ after enabled
                  (among Fits fits) step.tells_news;
              gained = refl;
            };
            same = λ is. ap device_gains (same_sums step.news
                (or_same (among (λ m. conduct.tells_amount m ≡ false)) is)) ∙ sym step.gained;
          }

      -- the controller's ACK in the end
      vmc_ack_in_end : (poll : Bool) (parts : List (Part M))
          → VmcAckStep conduct facts poll parts choice before after gains
          → AlsoSteps (VmcAckStep conduct ended poll parts choice before after)
          (OrSame (TellNone (kept_of parts))) gains
      vmc_ack_in_end true parts step = record {
        other = controller_gains (worth conduct ended (kept_of parts));
        step = record { to = step.to; gained = refl };
        same = λ is. ap controller_gains (same_sums (kept_of parts) is) ∙ sym step.gained;
      }
      vmc_ack_in_end false parts step = as_it_is (record { to = step.to; gained = step.gained })

      -- so each step after some facts is one after those that the end has
      keeper_in_end : (act : Act) → NamesAReply act → IsEnabledIn known facts
          → (known.past.reset_owed ≡ true → facts.past.reset_owed ≡ true)
          → KeeperStep tables conduct facts act choice before after gains
          → AlsoSteps (KeeperStep tables conduct ended act choice before after) (IsSame act) gains
      keeper_in_end (acts.Ask c) names enabled owed step =
          by_own (tables.own c) _ _ (λ own is ask. as_same (asks_none c own is)
          (steady.asks known facts own before after gains ask)) step
      keeper_in_end (acts.Ack c) names enabled owed step =
          by_own (tables.own c) _ _ (λ own is ack. as_same (asks_none c own is)
          (ack_in_end (tables.is_poll own) own ack)) step
      keeper_in_end (acts.Reply c r) names enabled owed step =
          by_own (tables.own c) _ _ (λ own is reply. as_same (tells_none c r own is)
          (reply_in_end (tables.is_poll own) (tables.parts_of r) enabled owed
          (steady.fits c r names) reply)) step
      keeper_in_end (acts.VmcAck c r) names enabled owed step =
          by_own (tables.own c) _ _ (λ own is ack. as_same (tells_none c r own is)
          (vmc_ack_in_end (tables.is_poll own) (tables.parts_of r) ack)) step
      keeper_in_end act names enabled owed step = as_it_is step

  module _ (begins : Beginning) where
    -- no setup table is known after acts, and they leave no amount without a value
    abbrev NoSetup : List Act → Type 0
    NoSetup so_far = (known_of tables begins so_far).setup ≡ None

    abbrev IsValued : List Act → Type 0
    IsValued so_far = unvalued tables conduct begins so_far ≡ 0

    -- a setup table that was told isn't forgotten, so where there is none there was none before
    none_before : (act : Act) (so_far : List Act) → NoSetup (act ∷ so_far) → NoSetup so_far
    none_before act so_far none =
        second (setup_by tables act) (last_told (setup_by tables) so_far)
        (known_before tables.setup_known begins) none
      where
        second : {X : Type 0} (first told known : Option X)
            → or_else (or_else first told) known ≡ None → or_else told known ≡ None
        second (Some x) told known is = absurd cc
        second None told known is = is

    -- where no setup table is known, an amount without a value is any amount
    no_amount : (act : Act) (so_far : List Act) → NoSetup so_far → IsValued (act ∷ so_far)
        → (amounts_in tables conduct act ≡ 0) × IsValued so_far
    no_amount act so_far none zero =
        let sum = rw none at zero in (omega (arith, sum), omega (arith, sum))

    -- so acts that leave none without a value tell none
    tell_none : (so_far : List Act) → NoSetup so_far → IsValued so_far
        → AllByRecursion (λ act. amounts_in tables conduct act ≡ 0) so_far
    tell_none [] none zero = tt
    tell_none (act ∷ so_far) none zero =
        let before = none_before act so_far none in
        let parts = no_amount act so_far before zero in
        (parts.0, tell_none so_far before parts.1)

    -- and an act with its answer goes back to no amount
    nothing_told : (act : Act) (later : List Act) → NoSetup later → AnswersLast act later
        → IsValued (act ∷ later) → amounts_in tables conduct (told_by act) ≡ 0
    nothing_told (acts.Ack c) later none answers zero =
        (rw answers.1 at (tell_none later none (no_amount (acts.Ack c) later none zero).1)).0
    nothing_told (acts.VmcAck c r) later none answers zero =
        (all_last _ answers.again (acts.Reply c r ∷ answers.before) (rw answers.order at
        (tell_none later none (no_amount (acts.VmcAck c r) later none zero).1))).0
    nothing_told act later none answers zero = (no_amount act later none zero).0

  module _ (Fits : M → Type 0) (steady : IsSteady Fits) (begins : Beginning) (setups : Setups)
      (later front : List Act) where
    abbrev joined : Beginning
    joined = Joined setups (profile_of begins)

    abbrev end : KnownFacts Setup Asked M
    end = known_of tables joined later

    abbrev whole : KnownFacts Setup Asked M
    whole = known_of tables begins (later ++ front)

    -- Where a step gains the same: what is told from elsewhere was known in front, and the end
    -- leaves no amount without a value; and where both are one recording from power-on on, and
    -- nothing was told from elsewhere.
    abbrev IsCounted : Act → Type 0
    IsCounted act =
        (IsNothingOr (tables.setup_known setups) (known_of tables begins front).setup
        × AnswersLast act later × (unvalued tables conduct joined (act ∷ later) ≡ 0))
        ⊎ ((begins ≡ PowerOn (profile_of begins)) × (front ≡ [])
        × (tables.setup_known setups ≡ None))

    counted : (act : Act) (facts : Facts Setup Asked M) (setup : Option Setup)
        → end.setup ≡ setup → facts.setup ≡ whole.setup → IsCounted act
        → IsSame Fits steady end facts act
    counted act facts (Some setup) is same (inl (are, answers, zero)) =
        inl (is ∙ sym (known_over (setup_by tables) tables.setup_known begins setups later front
        setup are is) ∙ sym same)
    counted act facts None is same (inl (are, answers, zero)) =
        inr (nothing_told joined act later is answers zero)
    counted act facts setup is same (inr (power_on, empty, none)) =
        inl (same_over (setup_by tables) tables.setup_known begins setups later front power_on empty
        none ∙ sym same)

    -- a step in the whole is one in the end
    pub step_in_end : (act : Act) (choice : Choice) (before after : State) (gains : Gains)
        → NamesAReply act → HasTold (conduct.holds before) whole.past.last_kept
        → StepKnowing tables conduct whole act choice before after gains
        → AlsoSteps (StepKnowing tables conduct end act choice before after) (IsCounted act) gains
    step_in_end act choice before after gains names told step =
        let knows = known_in_end tables begins setups later front in
        let facts = step.facts in
        let past = step.allowed.past in
        let also = keeper_in_end Fits steady end facts choice before after gains act names
        (λ kind few is. knows.enabled kind few (sym (ap (λ e. e kind) step.allowed.enabled) ∙ is))
        (λ is. past.reset_owed ∙ knows.owed is) step.step in
        record {
          other = also.other;
          step = record {
            facts = in_end end facts;
            allowed = record {
              setup = refl;
              last_asked = allowed_end end.last_asked whole.last_asked facts.last_asked knows.asked
                  step.allowed.last_asked;
              enabled = refl;
              past = record {
                reset_owed = refl;
                last_kept = kept_end end.past.last_kept whole.past.last_kept (conduct.holds before)
                    facts.past.last_kept knows.kept told past.last_kept;
              };
            };
            step = also.step;
          };
          same = λ when. also.same (counted act facts end.setup refl step.allowed.setup when);
        }

  module _ (Fits : M → Type 0) (steady : IsSteady Fits) where
    -- from power-on a device holds nothing
    none_held : {X : Type 0} (state : State) → state ≡ conduct.power_on
        → conduct.holds state ≡ true → X
    none_held state is holding =
        absurd (cc (steady.power_on_free, ap conduct.holds is, holding))

    -- A device that holds messages has told some as the recording begins: from power-on it holds
    -- none, and in mid-session it isn't known what it told.
    pub told_first : (begins : Beginning) (state : State)
        → StartsIn conduct.power_on begins state
        → HasTold (conduct.holds state) (known_of tables begins []).past.last_kept
    told_first (PowerOn profile) state is = λ holding. none_held state is holding
    told_first (Joined setups profile) state is = λ holding same. absurd cc

    module _ (facts : Facts Setup Asked M) (choice : Choice) (before after : State)
        (gains : Gains) where
      -- by no other act does a device come to hold messages
      held_before : (act : Act) → KeeperStep tables conduct facts act choice before after gains
          → kept_of (parts_by tables act) ≡ [] → conduct.holds after ≡ true
          → conduct.holds before ≡ true
      held_before (acts.Ask c) step empty = held_by_own conduct.holds (tables.own c) _
          (λ own is ask. steady.ask_holds facts own before after gains ask) step
      held_before (acts.Ack c) step empty = held_by_own conduct.holds (tables.own c) _
          (λ own is. ack_held (tables.is_poll own) own) step
        where
          ack_held : (poll : Bool) (own : Own)
              → AckStep conduct facts poll own choice before after gains
              → conduct.holds after ≡ true → conduct.holds before ≡ true
          ack_held true own ack is = sym (ap conduct.holds ack.1.0) ∙ is
          ack_held false own ack is = steady.ack_holds facts own choice before after gains ack is
      held_before (acts.Reply c r) step empty =
          held_by_own conduct.holds (tables.own c) _ (λ own is reply holding.
          let none : kept_of (tables.parts_of r) ≡ [] = rw is at empty in
          let read = holds_read choice (conduct.holds before) in
          let as_read = steady.news_hold facts choice reply.news _ after reply.tells_news
          ∙ conduct.holds_as_set (holds_after (kept_of (tables.parts_of r)) read) before
          ∙ ap (λ kept. holds_after kept read) none in
          held_read choice (conduct.holds before) (sym as_read ∙ holding)) step
      held_before (acts.VmcAck c r) step empty =
          held_by_own conduct.holds (tables.own c) _ (λ own is ack holding.
          let kept = kept_of (tables.parts_of r) in
          let acked = holds_acked choice kept (conduct.holds before) in
          let released = conduct.with_holds acked before in
          let as_acked = ap conduct.holds ack.to
          ∙ heard (tables.is_poll own && has_reset (tables.parts_of r)) released
          ∙ conduct.holds_as_set acked before in
          held_acked choice kept (conduct.holds before) (sym as_acked ∙ holding)) step
        where
          heard : (b : Bool) (state : State)
              → conduct.holds (if b then conduct.heard_reset state else state) ≡ conduct.holds state
          heard true state = steady.heard state
          heard false state = refl
      held_before (acts.Break n) step empty = λ holding. none_held after step.0 holding
      held_before act step empty = λ holding. sym (ap conduct.holds step.0) ∙ holding

      -- so a device that holds messages has told some after each step
      pub told_on : (begins : Beginning) (so_far : List Act) (act : Act)
          → HasTold (conduct.holds before) (known_of tables begins so_far).past.last_kept
          → KeeperStep tables conduct facts act choice before after gains
          → HasTold (conduct.holds after) (known_of tables begins (act ∷ so_far)).past.last_kept
      told_on begins so_far act told step =
          told_next begins (kept_of (parts_by tables act)) (last_list (parts_by tables) so_far)
          (conduct.holds before) (conduct.holds after) told (held_before act step)
