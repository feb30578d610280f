-- That a choice that can't stand on an act leads nowhere else than the plain one, for a device that
-- keeps messages. This proves a law of machines.
use Rattle.std.specs.Prelude.{◌≡◌, ◌≢◌, Bool, true, false, ◌&&◌, List, Option, Some, None, if◌then◌else◌, refl}
use Rattle.std.proofs.Common.{ap, subst, sym, ◌∙◌}
use Rattle.mdb_bus.specs.declared.act.Act.{Act}
use Rattle.mdb_bus.specs.declared.act.Act.TheVariants as acts
use Rattle.mdb_machine.specs.declared.choice.Choice.{Choice}
use Rattle.mdb_machine.specs.declared.choice.Choice.TheVariants.{Plain, Lost, Restart, Again}
use Rattle.mdb_machine.specs.declared.gains.Gains.{Gains}
use Rattle.mdb_machine.specs.declared.kept.Part.{Part}
use Rattle.mdb_machine.specs.Choices.{CanStand}
use Rattle.mdb_machine.specs.Keeper.{Facts, Tables}
use Rattle.mdb_machine.specs.KeeperConduct.{AckStep, Conduct, KeeperStep, ReplyStep, VmcAckStep}
use Rattle.mdb_machine.specs.Kept.{IsNew, has_reset, held, holds_after, holds_read, kept_of}
use Rattle.mdb_machine.specs.shared.PlainKept.{acked_plain}
use Rattle.mdb_machine.specs.Steps.{ForOwn}

-- what a device does of its own looks at no choice that can't stand there
pub record LooksAway {Own Setup Asked M State : Type 0}
    (conduct : Conduct Own Setup Asked M State) : Type 0 where
  pub acks : (facts : Facts Setup Asked M) (command : Own) (choice : Choice)
      (before after : State) (gains : Gains) → choice ≢ Lost
      → conduct.Acks facts command choice before after gains
      → conduct.Acks facts command Plain before after gains
  pub tells_news : (facts : Facts Setup Asked M) (choice : Choice) (news : List M)
      (before after : State) → choice ≢ Restart
      → conduct.TellsNews facts choice news before after
      → conduct.TellsNews facts Plain news before after

-- a step by a command of the device as another, where each of its commands has both
pub as_for_own : {Own State : Type 0} (command : Option Own)
    (One Other : Own → State → State → Gains → Type 0) (before after : State) (gains : Gains)
    → ((own : Own) → One own before after gains → Other own before after gains)
    → ForOwn command One before after gains → ForOwn command Other before after gains
as_for_own None One Other before after gains each step = step
as_for_own (Some own) One Other before after gains each step = each own step

-- an ACK of the device is heard or lost
as_ack : {Own Setup Asked M State : Type 0} (conduct : Conduct Own Setup Asked M State)
    → LooksAway conduct → (facts : Facts Setup Asked M) (poll : Bool) (command : Own)
    (choice : Choice) (before after : State) (gains : Gains) → choice ≢ Lost
    → AckStep conduct facts poll command choice before after gains
    → AckStep conduct facts poll command Plain before after gains
as_ack conduct looks facts true command choice before after gains heard step = step
as_ack conduct looks facts false command choice before after gains heard step =
    looks.acks facts command choice before after gains heard step

-- a device that isn't restarted still holds what it held
read_plain : (choice : Choice) → choice ≢ Restart → (holds : Bool)
    → holds_read choice holds ≡ holds
read_plain Restart runs holds = absurd (runs refl)
read_plain choice runs holds = refl

-- a reply isn't lost: who doesn't hear it says so by what comes next
as_reply : {Own Setup Asked M State : Type 0} (conduct : Conduct Own Setup Asked M State)
    → LooksAway conduct → (facts : Facts Setup Asked M) (poll : Bool) (parts : List (Part M))
    (choice : Choice) (before after : State) (gains : Gains) → choice ≢ Restart
    → ReplyStep conduct facts poll parts choice before after gains
    → ReplyStep conduct facts poll parts Plain before after gains
as_reply conduct looks facts poll parts choice before after gains runs step =
    let same = read_plain choice runs (conduct.holds before) in
    record {
      news = step.news;
      has_news = record {
        read = tt;
        reset = step.has_news.reset;
        new = subst (λ holds. IsNew poll (held holds facts.past.last_kept) (kept_of parts)
            step.news) same step.has_news.new;
      };
      tells_news = looks.tells_news facts choice step.news _ after runs
          (subst (λ holds. conduct.TellsNews facts choice step.news (conduct.with_holds
          (holds_after (kept_of parts) holds) before) after) same step.tells_news);
      gained = step.gained;
    }

-- so is an ACK of the controller
as_vmc_ack : {Own Setup Asked M State : Type 0} (conduct : Conduct Own Setup Asked M State)
    (facts : Facts Setup Asked M) (poll : Bool) (parts : List (Part M)) (choice : Choice)
    (before after : State) (gains : Gains) → choice ≢ Lost
    → VmcAckStep conduct facts poll parts choice before after gains
    → VmcAckStep conduct facts poll parts Plain before after gains
as_vmc_ack {State = State} conduct facts poll parts choice before after gains heard step = record {
  to = step.to ∙ ap (λ holds.
      let released : State = conduct.with_holds holds before in
      if poll && has_reset parts then conduct.heard_reset released else released)
      (acked_plain choice heard (kept_of parts) (conduct.holds before));
  gained = step.gained;
}

pub as_plain : {Own Setup Asked M State : Type 0} (tables : Tables Own Setup Asked M)
    (conduct : Conduct Own Setup Asked M State) → LooksAway conduct
    → (facts : Facts Setup Asked M) (act : Act) (choice : Choice) (before after : State)
    (gains : Gains) → (CanStand act choice → ⊥)
    → KeeperStep tables conduct facts act choice before after gains
    → KeeperStep tables conduct facts act Plain before after gains
as_plain tables conduct looks facts (acts.Ask c) choice before after gains barred step = step
as_plain tables conduct looks facts (acts.Ack c) choice before after gains barred step =
    as_for_own (tables.own c) _ _ before after gains
    (λ own. as_ack conduct looks facts (tables.is_poll own) own choice before after gains
    (λ lost. barred (subst (CanStand (acts.Ack c)) (sym lost) tt))) step
as_plain tables conduct looks facts (acts.Reply c r) choice before after gains barred step =
    as_for_own (tables.own c) _ _ before after gains
    (λ own. as_reply conduct looks facts (tables.is_poll own) (tables.parts_of r) choice before
    after gains (λ restarts. barred (subst (CanStand (acts.Reply c r)) (sym restarts) tt))) step
as_plain tables conduct looks facts (acts.VmcAck c r) choice before after gains barred step =
    as_for_own (tables.own c) _ _ before after gains
    (λ own. as_vmc_ack conduct facts (tables.is_poll own) (tables.parts_of r) choice before after
    gains (λ lost. barred (subst (CanStand (acts.VmcAck c r)) (sym lost) tt))) step
as_plain tables conduct looks facts act choice before after gains barred step = step
