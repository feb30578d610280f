-- The steps of a device that keeps messages, as the code finds them.
use Rattle.mdb_machine.proofs.Words.{◌≡◌, ◌∙◌, ◌↔◌, ◌&&◌, ◌==◌, not, ℕ, Bool, true, false, List, [], None, Some, refl, ap, sym, subst, length, map, if◌then◌else◌, OnFalse, eqb-true, Command, Reply, Act, Choice, Plain, Lost, Restart, Again, Gains, Part, CanStand, Stays, controller_gains, device_gains, no_gains, Facts, Tables, Conduct, KeeperStep, ReplyStep, VmcAckStep, worth, MayBeRead, HasNews, has_reset, held, holds_acked, holds_after, holds_read, kept_of, IsSummary, IsOnly, IsOnlyStep, nil_from_length}
use Rattle.mdb_bus.specs.declared.act.Act.TheVariants as acts
use Rattle.mdb_machine.proofs.KeptLists.{HasNewsOnly, free_acked, only_news}

-- the state in which a reply with these messages leaves what its device holds
abbrev pub holding_of : {Own Setup Asked M State : Type 0} → Conduct Own Setup Asked M State
    → List (Part M) → Choice → State → State
holding_of conduct parts choice before =
    conduct.with_holds (holds_after (kept_of parts) (holds_read choice (conduct.holds before)))
    before

-- it, as the code finds it
pub holding : {Own Setup Asked M State : Type 0} (conduct : Conduct Own Setup Asked M State)
    (parts : List (Part M)) (choice : Choice) {kept : List M} {before state : State}
    {was holds still : Bool}
    → was ≡ conduct.holds before → holds ≡ holds_read choice was → kept ≡ kept_of parts
    → still ≡ holds_after kept holds → state ≡ conduct.with_holds still before
    → state ≡ holding_of conduct parts choice before
holding conduct parts choice was_is holds_is kept_is still_is state_is =
    rw (state_is, still_is, kept_is, holds_is, was_is) refl

-- what a reply tells, as the code finds it
pub telling : {Own Setup Asked M State : Type 0} (conduct : Conduct Own Setup Asked M State)
    (facts : Facts Setup Asked M) {poll polls was holds reset early : Bool} {parts : List (Part M)}
    {last held_now kept news : List M} {choice : Choice} {before : State}
    → poll ≡ polls → was ≡ conduct.holds before → holds ≡ holds_read choice was
    → last ≡ facts.past.last_kept → held_now ≡ held holds last → IsSummary kept reset early parts
    → ((parts : List (Part M)) → IsSummary kept reset early parts
    → HasNews poll choice facts.past.reset_owed held_now parts news)
    → ((parts : List (Part M)) (other : List M) → IsSummary kept reset early parts
    → HasNews poll choice facts.past.reset_owed held_now parts other → other ≡ news)
    → HasNewsOnly polls choice facts.past.reset_owed
    (held (holds_read choice (conduct.holds before)) facts.past.last_kept) parts news
telling conduct facts poll_is was_is holds_is last_is held_is summary found only =
    only_news poll_is (rw (held_is, last_is, holds_is, was_is) refl) refl summary found only

-- a reply that tells nothing that it could
module _ {Own Setup Asked M State : Type 0} {conduct : Conduct Own Setup Asked M State}
    {facts : Facts Setup Asked M} {poll polls was holds reset early : Bool} {parts : List (Part M)}
    {last held_now kept : List M} {choice : Choice} {before : State} where
  pub untold : poll ≡ polls → was ≡ conduct.holds before → holds ≡ holds_read choice was
      → last ≡ facts.past.last_kept → held_now ≡ held holds last
      → IsSummary kept reset early parts
      → ((parts : List (Part M)) (other : List M) → IsSummary kept reset early parts
      → HasNews poll choice facts.past.reset_owed held_now parts other → ⊥)
      → IsOnlyStep (ReplyStep conduct facts polls parts choice before) None
  untold poll_is was_is holds_is last_is held_is summary none after gains step =
      none parts step.news summary (rw (poll_is, held_is, last_is, holds_is, was_is) step.has_news)

module _ {Own Setup Asked M State : Type 0} {conduct : Conduct Own Setup Asked M State}
    {facts : Facts Setup Asked M} {poll : Bool} {parts : List (Part M)} {choice : Choice}
    {before holding : State} {news : List M}
    (telling : HasNewsOnly poll choice facts.past.reset_owed
    (held (holds_read choice (conduct.holds before)) facts.past.last_kept) parts news)
    (holding_is : holding ≡ holding_of conduct parts choice before) where
  -- its step tells these news
  tells_them : (after : State) {gains : Gains}
      → ReplyStep conduct facts poll parts choice before after gains
      → conduct.TellsNews facts choice news holding after
  tells_them after step =
      subst (λ h. conduct.TellsNews facts choice news h after) (sym holding_is)
      (subst
      (λ ns. conduct.TellsNews facts choice ns (holding_of conduct parts choice before) after)
      (telling.only step.news step.has_news) step.tells_news)

  -- a reply that tells these news, and no others
  pub told : {after : State} {gains : Gains}
      → IsOnly (conduct.TellsNews facts choice news holding) (Some after)
      → gains ≡ device_gains (worth conduct facts news)
      → IsOnlyStep (ReplyStep conduct facts poll parts choice before) (Some (after, gains))
  told {after} tells gains_are = (
    record {
      news = news;
      has_news = telling.has_news;
      tells_news = subst (λ h. conduct.TellsNews facts choice news h after) holding_is tells.0;
      gained = gains_are;
    },
    λ other more step. (
      tells.1 other (tells_them other step),
      step.gained ∙ ap (λ ns. device_gains (worth conduct facts ns))
          (telling.only step.news step.has_news) ∙ sym gains_are,
    ),
  )

  -- a reply whose new messages can't be
  pub impossible : IsOnly (conduct.TellsNews facts choice news holding) None
      → IsOnlyStep (ReplyStep conduct facts poll parts choice before) None
  impossible none after gains step = none after (tells_them after step)

-- the controller's ACK is one step
module _ {Own Setup Asked M State : Type 0} {conduct : Conduct Own Setup Asked M State}
    {facts : Facts Setup Asked M} {polls poll reset was acked : Bool} {parts : List (Part M)}
    {kept : List M} {choice : Choice} {before released after : State} {gains : Gains} where
  pub acknowledged : poll ≡ polls → reset ≡ has_reset parts → kept ≡ kept_of parts
      → was ≡ conduct.holds before → acked ≡ holds_acked choice kept was
      → released ≡ conduct.with_holds acked before
      → after ≡ (if poll && reset then conduct.heard_reset released else released)
      → gains ≡ (if poll then controller_gains (worth conduct facts kept) else no_gains)
      → IsOnlyStep (VmcAckStep conduct facts polls parts choice before) (Some (after, gains))
  acknowledged poll_is reset_is kept_is was_is acked_is released_is after_is gains_are =
      let step : VmcAckStep conduct facts polls parts choice before after gains = record {
        to = rw (after_is, released_is, acked_is, was_is, kept_is, reset_is, poll_is) refl;
        gained = rw (gains_are, kept_is, poll_is) refl;
      } in
      (step, λ other more its. (its.to ∙ sym step.to, its.gained ∙ sym step.gained))

-- the acts that no device has a step by
module _ {Own Setup Asked M State : Type 0} (tables : Tables Own Setup Asked M)
    (conduct : Conduct Own Setup Asked M State) (facts : Facts Setup Asked M) (choice : Choice)
    (before : State) (gains : Gains) (is : gains ≡ no_gains) where
  pub no_part : (act : Act) → ((c : Command) → act ≡ acts.Ask c → ⊥)
      → ((c : Command) → act ≡ acts.Ack c → ⊥)
      → ((c : Command) (r : Reply) → act ≡ acts.Reply c r → ⊥)
      → ((c : Command) (r : Reply) → act ≡ acts.VmcAck c r → ⊥)
      → ((n : ℕ) → act ≡ acts.Break n → ⊥)
      → IsOnlyStep (KeeperStep tables conduct facts act choice before) (Some (before, gains))
  no_part (acts.Ask c) ask ack reply vmc_ack break = absurd (ask c refl)
  no_part (acts.Ack c) ask ack reply vmc_ack break = absurd (ack c refl)
  no_part (acts.Reply c r) ask ack reply vmc_ack break = absurd (reply c r refl)
  no_part (acts.VmcAck c r) ask ack reply vmc_ack break = absurd (vmc_ack c r refl)
  no_part (acts.Break n) ask ack reply vmc_ack break = absurd (break n refl)
  no_part act ask ack reply vmc_ack break =
      ((refl, is), λ after more stays. (stays.0, stays.1 ∙ sym is))

-- an ACK of a reply without messages changes nothing
module _ {Own Setup Asked M State : Type 0} (conduct : Conduct Own Setup Asked M State)
    (facts : Facts Setup Asked M) (choice : Choice) (before after : State) (gains : Gains) where
  idle_ack : (poll : Bool) → VmcAckStep conduct facts poll [] choice before after gains
      ↔ Stays before after gains
  idle_ack true = (
    λ step. (step.to ∙ conduct.same_as_set before, step.gained),
    λ stays. record { to = stays.0 ∙ sym (conduct.same_as_set before); gained = stays.1 },
  )
  idle_ack false = (
    λ step. (step.to ∙ conduct.same_as_set before, step.gained),
    λ stays. record { to = stays.0 ∙ sym (conduct.same_as_set before); gained = stays.1 },
  )

-- each choice that can stand on an act leads nowhere else than the plain one
abbrev pub IsUnheeded : {Own Setup Asked M State : Type 0} → Tables Own Setup Asked M
    → Conduct Own Setup Asked M State → Act → State → Type 0
IsUnheeded {Setup = Setup} {Asked = Asked} {M = M} {State = State} tables conduct act before =
    (facts : Facts Setup Asked M) (choice : Choice) (after : State) (gains : Gains)
    → CanStand act choice → KeeperStep tables conduct facts act choice before after gains
    → KeeperStep tables conduct facts act Plain before after gains

-- a reply that tells of no restart
module _ {Own Setup Asked M State : Type 0} (conduct : Conduct Own Setup Asked M State)
    (facts : Facts Setup Asked M) (poll : Bool) (parts : List (Part M)) (before after : State)
    (gains : Gains) where
  plain_alone : (command : Command) (reply : Reply) → (MayBeRead Restart parts → ⊥)
      → (choice : Choice) → CanStand (acts.Reply command reply) choice
      → ReplyStep conduct facts poll parts choice before after gains
      → ReplyStep conduct facts poll parts Plain before after gains
  plain_alone command reply never Plain stands step = step
  plain_alone command reply never Lost stands step = absurd stands
  plain_alone command reply never Restart stands step = absurd (never step.has_news.read)
  plain_alone command reply never Again stands step = absurd step.has_news.read

  -- the controller's ACK while nothing is held
  still_free : (choice : Choice) → conduct.holds before ≡ false
      → VmcAckStep conduct facts poll parts choice before after gains
      → VmcAckStep conduct facts poll parts Plain before after gains
  still_free choice free step =
      let released : Bool → State = λ h. conduct.with_holds h before in
      record {
        to =
            step.to
            ∙ ap (λ h. if poll && has_reset parts then conduct.heard_reset (released h)
            else released h) (free_acked choice (kept_of parts) free
            ∙ sym (free_acked Plain (kept_of parts) free));
        gained = step.gained;
      }

-- messages of a reply, as the code finds them
module _ {T Own Setup Asked M State : Type 0} (tables : Tables Own Setup Asked M)
    (conduct : Conduct Own Setup Asked M State) (part_of : T → Part M) (messages : List T)
    (act : Act) (command : Command) (own : Own) (reply : Reply) where
  -- an ACK of none of them changes nothing
  pub idle : (empty : Bool) → act ≡ acts.VmcAck command reply → tables.own command ≡ Some own
      → map part_of messages ≡ tables.parts_of reply → empty ≡ (length messages == 0)
      → OnFalse (not empty) ((facts : Facts Setup Asked M) (choice : Choice)
      (before after : State) (gains : Gains)
      → KeeperStep tables conduct facts act choice before after gains
      ↔ (after ≡ before) × (gains ≡ no_gains))
  idle false is own_is parts e = tt
  idle true is own_is parts e = λ facts choice before after gains.
      let none = nil_from_length messages (eqb-true (length messages) 0 (sym e)) in
      rw (is, own_is, ← parts, none)
      (idle_ack conduct facts choice before after gains (tables.is_poll own))

  -- a choice is unheeded where they can't be read otherwise
  pub unread : (before : State) (may : Bool) → act ≡ acts.Reply command reply
      → tables.own command ≡ Some own → map part_of messages ≡ tables.parts_of reply
      → OnFalse may (MayBeRead Restart (map part_of messages) → ⊥)
      → OnFalse may (IsUnheeded tables conduct act before)
  unread before true is own_is parts never = tt
  unread before false is own_is parts never = λ facts choice after gains.
      rw (is, own_is) (plain_alone conduct facts (tables.is_poll own) (tables.parts_of reply)
      before after gains command reply (λ read. never (rw parts read)) choice)

pub unheard : {Own Setup Asked M State : Type 0} (tables : Tables Own Setup Asked M)
    (conduct : Conduct Own Setup Asked M State) (act : Act) (command : Command) (own : Own)
    (reply : Reply) (before : State) (holds : Bool)
    → act ≡ acts.VmcAck command reply → tables.own command ≡ Some own → conduct.holds before ≡ holds
    → OnFalse holds (IsUnheeded tables conduct act before)
unheard tables conduct act command own reply before true is own_is free = tt
unheard tables conduct act command own reply before false is own_is free =
    λ facts choice after gains.
    rw (is, own_is) (λ stands. still_free conduct facts (tables.is_poll own)
    (tables.parts_of reply) before after gains choice free)
