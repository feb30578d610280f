-- That a device that keeps messages may do by the extended profile what it may do by the base one:
-- the types that are enabled by this are enabled by that too. Lists of acts stand newest first.
use Rattle.mdb_machine.proofs.Words.{◌≡◌, ◌∙◌, ℕ, Bool, true, false, not, ◌&&◌, ◌||◌, List, [], ◌∷◌, Option, Some, None, refl, ap, sym, subst, ltb, option_map, if◌then◌else◌, list_any, Command, Setups, Act, PowerOn, Joined, Choice, Gains, Part, Effect, disables, enabled_of, enables, known_enabled, Facts, KnownFacts, Tables, asked_by, effect_of, known_of, parts_by, AckStep, Conduct, KeeperStep, ReplyStep, StepKnowing, VmcAckStep, Allows, known_by, AllowsPast, acts_from, effect_by, last_list, last_told, powers_on, same_known_past, or_cases, or_left, or_right, and_right, and_parts, inl, inr}
use Rattle.mdb_bus.specs.declared.act.Act.TheVariants as acts
use Rattle.mdb_bus.specs.declared.scope.Profile.TheVariants.{Base, Extended}
use Rattle.mdb_machine.specs.shared.KeeperPlain.{as_for_own}

-- the same facts, where these types are enabled
abbrev pub enabling : {Setup Asked M : Type 0} → Facts Setup Asked M → (ℕ → Bool)
    → Facts Setup Asked M
enabling facts enabled = record facts { enabled = enabled }

-- the types that are enabled are among others
abbrev pub AreAmong : (ℕ → Bool) → (ℕ → Bool) → Type 0
AreAmong few more = (kind : ℕ) → few kind ≡ true → more kind ≡ true

-- what a device does of its own, it may do where more types are enabled
pub record Widens {Own Setup Asked M State : Type 0} (conduct : Conduct Own Setup Asked M State)
    : Type 0 where
  pub asks : (facts : Facts Setup Asked M) (more : ℕ → Bool) (command : Own) (before after : State)
      (gains : Gains) → conduct.Asks facts command before after gains
      → conduct.Asks (enabling facts more) command before after gains
  pub acks : (facts : Facts Setup Asked M) (more : ℕ → Bool) (command : Own) (choice : Choice)
      (before after : State) (gains : Gains)
      → conduct.Acks facts command choice before after gains
      → conduct.Acks (enabling facts more) command choice before after gains
  pub tells_news : (facts : Facts Setup Asked M) (more : ℕ → Bool) (choice : Choice)
      (news : List M) (before after : State) → AreAmong facts.enabled more
      → conduct.TellsNews facts choice news before after
      → conduct.TellsNews (enabling facts more) choice news before after
  pub gain : (facts : Facts Setup Asked M) (more : ℕ → Bool)
      → conduct.gain (enabling facts more) ≡ conduct.gain facts

-- Steps, where more types are enabled.

module _ {Own Setup Asked M State : Type 0} (tables : Tables Own Setup Asked M)
    (conduct : Conduct Own Setup Asked M State) (widens : Widens conduct) where
  module _ (facts : Facts Setup Asked M) (more : ℕ → Bool) (among : AreAmong facts.enabled more)
      (choice : Choice) (before after : State) (gains : Gains) where
    ack_wider : (poll : Bool) (command : Own)
        → AckStep conduct facts poll command choice before after gains
        → AckStep conduct (enabling facts more) poll command choice before after gains
    ack_wider true command step = step
    ack_wider false command step = widens.acks facts more command choice before after gains step

    reply_wider : (poll : Bool) (parts : List (Part M))
        → ReplyStep conduct facts poll parts choice before after gains
        → ReplyStep conduct (enabling facts more) poll parts choice before after gains
    reply_wider poll parts step = record {
      news = step.news;
      has_news = step.has_news;
      tells_news = widens.tells_news facts more choice step.news _ after among step.tells_news;
      gained = rw (widens.gain facts more) step.gained;
    }

    vmc_ack_wider : (poll : Bool) (parts : List (Part M))
        → VmcAckStep conduct facts poll parts choice before after gains
        → VmcAckStep conduct (enabling facts more) poll parts choice before after gains
    vmc_ack_wider true parts step =
        record { to = step.to; gained = rw (widens.gain facts more) step.gained }
    vmc_ack_wider false parts step = record { to = step.to; gained = step.gained }

    step_wider : (act : Act) → KeeperStep tables conduct facts act choice before after gains
        → KeeperStep tables conduct (enabling facts more) act choice before after gains
    step_wider (acts.Ask c) = as_for_own (tables.own c) _ _ before after gains
        (λ own. widens.asks facts more own before after gains)
    step_wider (acts.Ack c) = as_for_own (tables.own c) _ _ before after gains
        (λ own. ack_wider (tables.is_poll own) own)
    step_wider (acts.Reply c r) = as_for_own (tables.own c) _ _ before after gains
        (λ own. reply_wider (tables.is_poll own) (tables.parts_of r))
    step_wider (acts.VmcAck c r) = as_for_own (tables.own c) _ _ before after gains
        (λ own. vmc_ack_wider (tables.is_poll own) (tables.parts_of r))
    step_wider _ = λ step. step

  -- a step of a machine, after facts that are known
  knowing_wider : (one other : KnownFacts Setup Asked M) → one.setup ≡ other.setup
      → one.last_asked ≡ other.last_asked → AreAmong one.enabled other.enabled
      → one.past ≡ other.past → (act : Act) (choice : Choice) (before after : State)
      (gains : Gains) → StepKnowing tables conduct one act choice before after gains
      → StepKnowing tables conduct other act choice before after gains
  knowing_wider one other setup asked among past act choice before after gains step = record {
    facts = enabling step.facts other.enabled;
    allowed = record {
      setup = step.allowed.setup ∙ setup;
      last_asked = subst (λ k. Allows k step.facts.last_asked) asked step.allowed.last_asked;
      enabled = refl;
      past = subst (λ k. AllowsPast k (conduct.holds before) step.facts.past) past
          step.allowed.past;
    };
    step = step_wider step.facts other.enabled
        (λ kind is. among kind (sym (ap (λ e. e kind) step.allowed.enabled) ∙ is)) choice before
        after gains act step.step;
  }

-- The types that are enabled.

-- what is so of an act since another is so of one of all
any_of_all : (p ends : Act → Bool) (so_far : List Act) → list_any p (acts_from ends so_far) ≡ true
    → list_any p so_far ≡ true
any_of_all p ends [] any = any
any_of_all p ends (act ∷ so_far) any =
    at_act (p act) (ends act) (any_of_all p ends so_far) any
  where
    at_act : (is stops : Bool)
        → (list_any p (acts_from ends so_far) ≡ true → list_any p so_far ≡ true)
        → (is || list_any p (if stops then [] else acts_from ends so_far)) ≡ true
        → (is || list_any p so_far) ≡ true
    at_act true stops more any = refl
    at_act false true more any = absurd cc
    at_act false false more any = more any

either_more : (a b c d : Bool) → (a ≡ true → b ≡ true) → (c ≡ true → d ≡ true)
    → (a || c) ≡ true → (b || d) ≡ true
either_more a b c d one other is =
    elim (or_cases a c is)
    [ inl first ↦ or_left b d (one first) | inr second ↦ or_right b d (other second) ]

-- by the extended profile no act ends them, so all acts count
module _ (effect : Command → Effect) where
  never_ends : (act : Act) → disables Extended effect act ≡ false
  never_ends act = and_right (powers_on effect act) false refl

  all_from : (so_far : List Act) → acts_from (disables Extended effect) so_far ≡ so_far
  all_from [] = refl
  all_from (act ∷ so_far) = rw (never_ends act, all_from so_far) refl

  none_ends : (so_far : List Act) → list_any (disables Extended effect) so_far ≡ false
  none_ends [] = refl
  none_ends (act ∷ so_far) = rw (never_ends act) (none_ends so_far)

  enabled_wider : (so_far : List Act)
      → AreAmong (enabled_of Base effect so_far) (enabled_of Extended effect so_far)
  enabled_wider so_far kind is =
      let p : Act → Bool = λ act. enables kind (effect_by effect act) in
      ap (list_any p) (all_from so_far) ∙ any_of_all p (disables Base effect) so_far is

  started_wider : (so_far : List Act) → AreAmong (known_enabled (PowerOn Base) effect so_far)
      (known_enabled (PowerOn Extended) effect so_far)
  started_wider so_far kind = either_more (enabled_of Base effect so_far kind) _
      (false && ltb kind 16) (false && ltb kind 16) (enabled_wider so_far kind) (λ is. is)

  joined_wider : (setups : Setups) (so_far : List Act)
      → AreAmong (known_enabled (Joined setups Base) effect so_far)
      (known_enabled (Joined setups Extended) effect so_far)
  joined_wider setups so_far kind = either_more (enabled_of Base effect so_far kind) _
      (not (list_any (disables Base effect) so_far) && ltb kind 16) _ (enabled_wider so_far kind)
      (λ is. ap (λ b. not b && ltb kind 16) (none_ends so_far)
      ∙ (and_parts (not (list_any (disables Base effect) so_far)) (ltb kind 16) is).1)

-- Steps of a machine.

same_started : {X : Type 0} (none : X) (told : Option X)
    → known_by (PowerOn Base) none told ≡ known_by (PowerOn Extended) none told
same_started none None = refl
same_started none (Some x) = refl

same_joined : {X : Type 0} (setups : Setups) (none : X) (told : Option X)
    → known_by (Joined setups Base) none told ≡ known_by (Joined setups Extended) none told
same_joined setups none None = refl
same_joined setups none (Some x) = refl

module _ {Own Setup Asked M State : Type 0} (tables : Tables Own Setup Asked M)
    (conduct : Conduct Own Setup Asked M State) (widens : Widens conduct) where
  pub steps_from_power_on : (so_far : List Act) (act : Act) (choice : Choice)
      (before after : State) (gains : Gains)
      → StepKnowing tables conduct (known_of tables (PowerOn Base) so_far) act choice before after
      gains
      → StepKnowing tables conduct (known_of tables (PowerOn Extended) so_far) act choice before
      after gains
  steps_from_power_on so_far =
      knowing_wider tables conduct widens (known_of tables (PowerOn Base) so_far)
      (known_of tables (PowerOn Extended) so_far) refl
      (same_started None (option_map (λ (a : Asked). Some a) (last_told (asked_by tables) so_far)))
      (started_wider (effect_of tables) so_far)
      (same_known_past refl (same_started [] (last_list (parts_by tables) so_far)))

  pub steps_in_mid_session : (setups : Setups) (so_far : List Act) (act : Act) (choice : Choice)
      (before after : State) (gains : Gains)
      → StepKnowing tables conduct (known_of tables (Joined setups Base) so_far) act choice before
      after gains
      → StepKnowing tables conduct (known_of tables (Joined setups Extended) so_far) act choice
      before after gains
  steps_in_mid_session setups so_far =
      knowing_wider tables conduct widens (known_of tables (Joined setups Base) so_far)
      (known_of tables (Joined setups Extended) so_far) refl
      (same_joined setups None
      (option_map (λ (a : Asked). Some a) (last_told (asked_by tables) so_far)))
      (joined_wider (effect_of tables) setups so_far)
      (same_known_past refl (same_joined setups [] (last_list (parts_by tables) so_far)))
