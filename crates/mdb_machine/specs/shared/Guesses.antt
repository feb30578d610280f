-- That a step depends on the last kept list by what the device holds alone, and on what was asked
-- last by an ask of what counts alone. This serves laws of the trait `Pair` and of machines, where
-- a recording begins in mid-session.
use Rattle.std.specs.Prelude.{◌≡◌, ◌⊎◌, List, Option, None, Some, refl}
use Rattle.std.proofs.Common.{ap, sym, subst, ◌∙◌, inl, inr}
use Rattle.mdb_bus.specs.declared.act.Act.{Act}
use Rattle.mdb_bus.specs.declared.act.Act.TheVariants as acts
use Rattle.mdb_machine.specs.declared.choice.Choice.{Choice}
use Rattle.mdb_machine.specs.declared.gains.Gains.{Gains}
use Rattle.mdb_machine.specs.declared.kept.Part.{Part}
use Rattle.mdb_machine.specs.Gains.{device_gains, controller_gains}
use Rattle.mdb_machine.specs.Keeper.{Facts, Tables}
use Rattle.mdb_machine.specs.KeeperConduct.{AckStep, Conduct, KeeperStep, ReplyStep, VmcAckStep}
use Rattle.mdb_machine.specs.Kept.{IsNew, held, holds_read, kept_of}
use Rattle.mdb_machine.specs.Steps.{ForOwn}
use Rattle.std.specs.Prelude.{Bool, true, false, sum_by}

-- facts with another guess of what was asked last, and of the last kept list
abbrev pub guessing : {Setup Asked M : Type 0} → Facts Setup Asked M → Option Asked → List M
    → Facts Setup Asked M
guessing facts asked kept =
    record facts { last_asked = asked; past = record facts.past { last_kept = kept } }

-- what a device does of its own overlooks these
pub record Overlooks {Own Setup Asked M State : Type 0} (tables : Tables Own Setup Asked M)
    (conduct : Conduct Own Setup Asked M State) : Type 0 where
  pub asks : (facts : Facts Setup Asked M) (kept : List M) (command : Own) (before after : State)
      (gains : Gains) → conduct.Asks facts command before after gains
      → conduct.Asks (guessing facts facts.last_asked kept) command before after gains
  pub asks_nothing : (facts : Facts Setup Asked M) (asked : Option Asked) (command : Own)
      (before after : State) (gains : Gains) → tables.asked_of command ≡ None
      → conduct.Asks facts command before after gains
      → conduct.Asks (guessing facts asked facts.past.last_kept) command before after gains
  pub asks_again : (facts : Facts Setup Asked M) (command : Own) (before after : State)
      (gains : Gains) → conduct.Asks facts command before after gains
      → conduct.Asks (guessing facts None facts.past.last_kept) command before after gains
      ⊎ conduct.Asks (guessing facts (tables.asked_of command) facts.past.last_kept) command
      before after gains
  pub acks : (facts : Facts Setup Asked M) (asked : Option Asked) (kept : List M) (command : Own)
      (choice : Choice) (before after : State) (gains : Gains)
      → conduct.Acks facts command choice before after gains
      → conduct.Acks (guessing facts asked kept) command choice before after gains
  pub tells_news : (facts : Facts Setup Asked M) (asked : Option Asked) (kept : List M)
      (choice : Choice) (news : List M) (before after : State)
      → conduct.TellsNews facts choice news before after
      → conduct.TellsNews (guessing facts asked kept) choice news before after
  pub gain : (facts : Facts Setup Asked M) (asked : Option Asked) (kept : List M)
      → conduct.gain (guessing facts asked kept) ≡ conduct.gain facts

-- Where a step by an act may have been with this guess too: what was asked last is the same for an
-- ask of what counts, and so is what the device holds for a reply.
abbrev pub MayGuess : {Own Setup Asked M State : Type 0} → Tables Own Setup Asked M
    → Conduct Own Setup Asked M State → Facts Setup Asked M → Option Asked → List M → Act → Choice
    → State → Type 0
MayGuess {Own = Own} tables conduct facts asked kept (acts.Ask command) choice before =
    (own : Own) → tables.own command ≡ Some own
    → (asked ≡ facts.last_asked) ⊎ (tables.asked_of own ≡ None)
MayGuess {Own = Own} {M = M} tables conduct facts asked kept (acts.Reply command reply) choice
    before =
    (own : Own) → tables.own command ≡ Some own → (news : List M)
    → IsNew (tables.is_poll own) (held (holds_read choice (conduct.holds before))
    facts.past.last_kept) (kept_of (tables.parts_of reply)) news
    → IsNew (tables.is_poll own) (held (holds_read choice (conduct.holds before)) kept)
    (kept_of (tables.parts_of reply)) news
MayGuess tables conduct facts asked kept act choice before = Unit {0}

-- a step by a command of the device as another, where its command has both
by_its_own : {Own State : Type 0} (command : Option Own)
    (One Other : Own → State → State → Gains → Type 0) (before after : State) (gains : Gains)
    → ((own : Own) → command ≡ Some own → One own before after gains → Other own before after gains)
    → ForOwn command One before after gains → ForOwn command Other before after gains
by_its_own None One Other before after gains each step = step
by_its_own (Some own) One Other before after gains each step = each own refl step

ask_guessing : {Own Setup Asked M State : Type 0} (tables : Tables Own Setup Asked M)
    (conduct : Conduct Own Setup Asked M State) → Overlooks tables conduct
    → (facts : Facts Setup Asked M) (asked : Option Asked) (kept : List M) (command : Own)
    (before after : State) (gains : Gains)
    → (asked ≡ facts.last_asked) ⊎ (tables.asked_of command ≡ None)
    → conduct.Asks facts command before after gains
    → conduct.Asks (guessing facts asked kept) command before after gains
ask_guessing tables conduct overlooks facts asked kept command before after gains (inl same) step =
    subst (λ a. conduct.Asks (guessing facts a kept) command before after gains) (sym same)
    (overlooks.asks facts kept command before after gains step)
ask_guessing tables conduct overlooks facts asked kept command before after gains (inr none) step =
    overlooks.asks (guessing facts asked facts.past.last_kept) kept command before after gains
    (overlooks.asks_nothing facts asked command before after gains none step)

ack_guessing : {Own Setup Asked M State : Type 0} (tables : Tables Own Setup Asked M)
    (conduct : Conduct Own Setup Asked M State) → Overlooks tables conduct
    → (facts : Facts Setup Asked M) (asked : Option Asked) (kept : List M) (poll : Bool)
    (command : Own) (choice : Choice) (before after : State) (gains : Gains)
    → AckStep conduct facts poll command choice before after gains
    → AckStep conduct (guessing facts asked kept) poll command choice before after gains
ack_guessing tables conduct overlooks facts asked kept true command choice before after gains step =
    step
ack_guessing tables conduct overlooks facts asked kept false command choice before after gains
    step =
    overlooks.acks facts asked kept command choice before after gains step

reply_guessing : {Own Setup Asked M State : Type 0} (tables : Tables Own Setup Asked M)
    (conduct : Conduct Own Setup Asked M State) → Overlooks tables conduct
    → (facts : Facts Setup Asked M) (asked : Option Asked) (kept : List M) (poll : Bool)
    (parts : List (Part M)) (choice : Choice) (before after : State) (gains : Gains)
    → ((news : List M)
    → IsNew poll (held (holds_read choice (conduct.holds before)) facts.past.last_kept)
    (kept_of parts) news
    → IsNew poll (held (holds_read choice (conduct.holds before)) kept) (kept_of parts) news)
    → ReplyStep conduct facts poll parts choice before after gains
    → ReplyStep conduct (guessing facts asked kept) poll parts choice before after gains
reply_guessing tables conduct overlooks facts asked kept poll parts choice before after gains may
    step = record {
      news = step.news;
      has_news = record {
        read = step.has_news.read;
        reset = step.has_news.reset;
        new = may step.news step.has_news.new;
      };
      tells_news = overlooks.tells_news facts asked kept choice step.news _ after step.tells_news;
      gained = step.gained
          ∙ ap (λ gain. device_gains (λ slot. sum_by (gain slot) step.news))
          (sym (overlooks.gain facts asked kept));
    }

vmc_ack_guessing : {Own Setup Asked M State : Type 0} (tables : Tables Own Setup Asked M)
    (conduct : Conduct Own Setup Asked M State) → Overlooks tables conduct
    → (facts : Facts Setup Asked M) (asked : Option Asked) (kept : List M) (poll : Bool)
    (parts : List (Part M)) (choice : Choice) (before after : State) (gains : Gains)
    → VmcAckStep conduct facts poll parts choice before after gains
    → VmcAckStep conduct (guessing facts asked kept) poll parts choice before after gains
vmc_ack_guessing tables conduct overlooks facts asked kept true parts choice before after gains
    step = record {
      to = step.to;
      gained = step.gained
          ∙ ap (λ gain. controller_gains (λ slot. sum_by (gain slot) (kept_of parts)))
          (sym (overlooks.gain facts asked kept));
    }
vmc_ack_guessing tables conduct overlooks facts asked kept false parts choice before after gains
    step = record { to = step.to; gained = step.gained }

-- so a step is one with the guess too
pub step_guessing : {Own Setup Asked M State : Type 0} (tables : Tables Own Setup Asked M)
    (conduct : Conduct Own Setup Asked M State) → Overlooks tables conduct
    → (facts : Facts Setup Asked M) (asked : Option Asked) (kept : List M) (act : Act)
    (choice : Choice) (before after : State) (gains : Gains)
    → MayGuess tables conduct facts asked kept act choice before
    → KeeperStep tables conduct facts act choice before after gains
    → KeeperStep tables conduct (guessing facts asked kept) act choice before after gains
step_guessing tables conduct overlooks facts asked kept (acts.Ask c) choice before after gains may
    step = by_its_own (tables.own c) _ _ before after gains
    (λ own is. ask_guessing tables conduct overlooks facts asked kept own before after gains
    (may own is)) step
step_guessing tables conduct overlooks facts asked kept (acts.Ack c) choice before after gains may
    step = by_its_own (tables.own c) _ _ before after gains
    (λ own is. ack_guessing tables conduct overlooks facts asked kept (tables.is_poll own) own
    choice before after gains) step
step_guessing tables conduct overlooks facts asked kept (acts.Reply c r) choice before after gains
    may step = by_its_own (tables.own c) _ _ before after gains
    (λ own is. reply_guessing tables conduct overlooks facts asked kept (tables.is_poll own)
    (tables.parts_of r) choice before after gains (may own is)) step
step_guessing tables conduct overlooks facts asked kept (acts.VmcAck c r) choice before after gains
    may step = by_its_own (tables.own c) _ _ before after gains
    (λ own is. vmc_ack_guessing tables conduct overlooks facts asked kept (tables.is_poll own)
    (tables.parts_of r) choice before after gains) step
step_guessing tables conduct overlooks facts asked kept (acts.Nak c) choice before after gains may
    step = step
step_guessing tables conduct overlooks facts asked kept (acts.VmcNak c r) choice before after gains
    may step = step
step_guessing tables conduct overlooks facts asked kept (acts.VmcRet c r) choice before after gains
    may step = step
step_guessing tables conduct overlooks facts asked kept (acts.Repeat c r) choice before after gains
    may step = step
step_guessing tables conduct overlooks facts asked kept acts.Foreign choice before after gains may
    step = step
step_guessing tables conduct overlooks facts asked kept (acts.Break n) choice before after gains may
    step = step
