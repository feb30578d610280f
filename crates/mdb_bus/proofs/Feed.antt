-- The bus after a row: what it stands for, and why a row is refused.
use Rattle.mdb_bus.proofs.Words.{[], Act, act_after, act_in, ap, Asked, asked_after, awaited_after, awaited_at, Base, Bool, Command, device_of, EachStep, ended_act, Err, Event, Extended, false, fault_at, fault_of, GoesOn, HasAdvanced, haste_after, haste_by, IfErr, IfOk, InAsk, is_untimely, IsAt, IsEnded, IsFirstBroken, IsFirstByPlace, HasEffect, IsLinkFault, IsReadAt, IsSound, Effect, known_by, known_if, known_of, KnownFeatures, Leads, Levels, levels_after, levels_by, levels_if, LinkFault, List, None, Ok, OnOk, Option, Piece, pieces_after, Place, Position, position_at, position_of, Profile, profile_of, refl, Reply, Result, Rule, situation_of, Some, StandsFor, Step, subst, sym, true, untimely_sender, wide_at, with_act, ◌∙◌, ◌≡◌}
use Rattle.mdb_bus.specs.declared.bus.Bus.{Bus}
use Rattle.mdb_bus.specs.inner.Gone.{HasGone, KeepsAwaited, situation_at}
use Rattle.mdb_bus.specs.declared.act.Act.TheVariants as acts
use Rattle.mdb_bus.specs.shared.Step as step
use Rattle.mdb_bus.specs.declared.effect.Effect.TheVariants as effect
use Rattle.mdb_bus.proofs.GrownTimes.{awaited_by_step, awaited_on, haste_on, none_in_time, untimely_by_step}
use Rattle.mdb_bus.proofs.Decided.{by_place}
use Rattle.mdb_bus.proofs.EachLead.{each_break, leads_of, some_each}
use Rattle.mdb_bus.proofs.Forward.{break_after, forward, leads_at}
use Rattle.mdb_bus.proofs.Lists.{last_push}
use Rattle.mdb_bus.proofs.Sound.{is_sound}

module _ (old : Bus) (pieces : List Piece) (stands : StandsFor old pieces) where
  -- the situation of the bus is that of the pieces that it stands for
  same_situation : situation_of old.scope pieces ≡ situation_at old
  same_situation = rw (stands.position, stands.last, stands.levels)

  -- and its position is sound
  pub sound_at : IsSound old.scope (position_at old.place)
  sound_at = rw stands.position at (is_sound old.scope pieces stands.in_order)

  -- the fault of a row that is refused
  pub has_fault : (row : Event) (first : Rule) (told : LinkFault)
      → IsFirstByPlace (situation_at old) row first
      → told ≡ fault_at (position_at old.place) old.asked (wide_at old.features old.levels)
      old.haste row first → IsLinkFault old.scope pieces row told.rule told.blame
  has_fault row first told effect is =
      let same : told ≡ fault_of old.scope pieces row first =
      rw (stands.position, stands.asked, stands.features, stands.levels, stands.haste) is in
      record {
        first = first;
        rule = subst (λ s. IsFirstBroken s row first) (sym same_situation)
            (by_place (situation_at old) row first effect);
        counts = ap (λ (f : LinkFault). f.rule) same;
        blame = ap (λ (f : LinkFault). f.blame) same;
      }

  -- a row in its time has no sender that would be counted
  pub sends_none : (row : Event) → is_untimely (position_at old.place) old.last row ≡ false
      → untimely_sender old.scope pieces row ≡ None
  sends_none row timely = rw (stands.position, stands.last, timely)

-- what is known of features after acts and one more, if there is one
known_more : (before : KnownFeatures) (act : Option Act) (acts : List Act)
    → known_of before (with_act act acts) ≡ known_if act (known_of before acts)
known_more before None acts = refl
known_more before (Some act) acts = refl

-- by the base profile there is no haste, however it goes on
haste_again : (profile : Profile) (awaited : Bool) (from : Option Event) (row : Event)
    (haste : Bool) → haste_by profile (haste_after awaited from row (haste_by profile haste))
    ≡ haste_by profile (haste_after awaited from row haste)
haste_again Base awaited from row haste = refl
haste_again Extended awaited from row haste = refl

-- whether the controller is in haste after a row of a bus
abbrev haste_next : Bus → Event → Bool
haste_next bus row =
    haste_by (profile_of bus.scope.begins) (haste_after
    (awaited_at (position_at bus.place) bus.awaited) bus.last row bus.haste)

-- a row in its time leaves no haste where there is none, and where no foreign answer is awaited
pub no_haste : (bus : Bus) (row : Event) (next : Step) → bus.haste ≡ false → bus.awaited ≡ false
    → is_untimely (position_at bus.place) bus.last row ≡ false → Leads (situation_at bus) row next
    → bus.haste ≡ haste_next bus row
no_haste bus row next none nothing timely leads =
    rw (none, nothing) (by (profile_of bus.scope.begins)
    (none_in_time bus.scope bus.last bus.levels (position_at bus.place) row next timely leads))
  where
    by : (profile : Profile) {haste : Bool} → haste ≡ false → false ≡ haste_by profile haste
    by Base is = refl
    by Extended is = sym is

module _ (old new : Bus) (awaited haste : Bool) (pieces : List Piece) (row : Event)
    (stands : StandsFor old pieces)
    (keeps : awaited_at (position_at new.place) awaited
    ≡ awaited_at (position_at new.place) new.awaited)
    (hastens : (next : Step) → Leads (situation_at old) row next → haste ≡ haste_next old row) where
  -- the bus once haste is told, and what is kept where it says nothing
  abbrev Told : Bus
  Told = record new { awaited = awaited; haste = haste }

  -- it stands for one row more, by a step
  pub stands_by : (next : Step) (act : Option Act) → Leads (situation_at old) row next
      → (IsAt (position_at old.place) next → HasGone old next row new act)
      → GoesOn Told pieces row act
  stands_by next act leads gone =
      let went : HasGone old next row new act = gone (leads_at (situation_at old) row next leads) in
      let there : Leads (situation_of old.scope pieces) row next =
      subst (λ s. Leads s row next) (sym (same_situation old pieces stands)) leads in
      let more = forward old.scope pieces row next stands.in_order there in
      let ended : act_after (position_of old.scope pieces) next ≡ act =
      ap (λ p. act_after p next) stands.position ∙ sym went.advanced.act in
      record {
        longer = pieces_after old.scope pieces row next;
        stands = record {
          in_order = rw went.scope more.in_order;
          position = rw (went.scope, more.position, stands.position) (sym went.advanced.position);
          last = rw (more.rows, last_push) (sym went.last);
          levels = rw (went.scope, more.levels, ended, stands.levels) (sym went.levels);
          features = rw (went.scope, more.acts, ended, known_more, stands.features)
              (sym went.features);
          asked = rw (more.asked, stands.asked) (sym went.asked);
          awaited = rw (more.rows, awaited_on, stands.awaited)
              (awaited_by_step old.scope old.last old.levels old.awaited new.awaited _ row next
              leads went.awaited
              ∙ ap (λ p. awaited_at p new.awaited) (sym went.advanced.position) ∙ sym keeps);
          haste = rw (
            went.scope,
            more.rows,
            haste_on,
            ← haste_again (profile_of old.scope.begins),
            stands.haste,
            stands.awaited,
            stands.last,
          ) (sym (hastens next leads));
        };
        rows = more.rows;
        acts = rw ended at more.acts;
        grown = rw ended at more.grown;
        untimely = rw went.scope
            (untimely_by_step old.scope pieces row next _ stands.in_order there more.grown);
      }

  -- the same for the effect of a row that ends no reply
  pub stands_on : (found : Effect) (act : Option Act) → (found ≡ effect.Reply → ⊥)
      → HasEffect (situation_at old) row (Ok found)
      → EachStep found row (λ next. IsAt (position_at old.place) next
      → HasGone old next row new act) → GoesOn Told pieces row act
  stands_on found act other effect gone =
      let both = some_each found row (Leads (situation_at old) row)
      (λ next. IsAt (position_at old.place) next → HasGone old next row new act)
      (leads_of found (situation_at old) row other effect) gone in
      stands_by both.0 act both.1 both.2

  -- a row that ends a reply goes on where the reply can be read
  pub read_goes_on : (act : Act) (result : Result Bool Rule) → IsEnded (situation_at old) row
      → IfOk result (λ ends. (reply : Reply)
      × IsReadAt old.scope.begins (position_at old.place) old.levels (Ok reply)
      × HasGone old (step.Reply reply) row new (ended_act ends act))
      → IfOk result (λ ends. GoesOn Told pieces row (ended_act ends act))
  read_goes_on act (Ok ends) ended h =
      stands_by (step.Reply h.0) (ended_act ends act) (ended (Ok h.0) h.1) (λ _. h.2)
  read_goes_on act (Err broken) ended h = tt

-- and else it breaks a rule
pub read_breaks : (old : Bus) (row : Event) (result : Result Bool Rule)
    → IsEnded (situation_at old) row
    → IfErr result (λ first. IsReadAt old.scope.begins (position_at old.place) old.levels
    (Err first)) → IfErr result (IsFirstByPlace (situation_at old) row)
read_breaks old row (Ok ends) ended read = tt
read_breaks old row (Err first) ended read = ended (Err first) read

-- what holds anyway holds where a row was taken
pub on_ok : {P : Type 0} (result : Result Bool Rule) → P → OnOk result P
on_ok (Ok ends) holds = holds
on_ok (Err broken) holds = tt

-- the act that an ask ends, and an ACK
asks : (at : Position) (command : Command) → IsAt at (step.Ask command)
    → act_after at (step.Ask command) ≡ Some (acts.Ask command)
asks (InAsk bytes) command there = refl
asks at command there = absurd there

acked : (at : Position) → IsAt at step.Ack
    → (command : Command) × (act_after at step.Ack ≡ Some (acts.Ack command))
acked (Asked command) there = (command, refl)
acked at there = absurd there

-- an act that was ended is the one that is told
ended_is : (ended : Bool) (act told : Act) → ended_act ended act ≡ Some told → act ≡ told
ended_is true act told is = cc
ended_is false act told is = absurd (cc)

-- a step that ends no act of which anything is kept
abbrev IsIdle : Step → Type 0
IsIdle (step.Ask command) = ⊥
IsIdle (step.Reply reply) = ⊥
IsIdle step.Ack = ⊥
IsIdle (step.Break length) = ⊥
IsIdle next = Unit {0}

-- tells no level, and settles no features
tells_none : (profile : Profile) (at : Position) (next : Step) (levels : Levels)
    (known : KnownFeatures) → IsIdle next → (levels_if profile (act_after at next) levels ≡ levels)
    × (known_if (act_after at next) known ≡ known)
tells_none profile (InAsk bytes) (step.AskByte byte) levels known idle = (refl, refl)
tells_none profile at (step.AskByte byte) levels known idle = (refl, refl)
tells_none profile at next levels known idle = search

module _ (old new : Bus) (row : Event) (scope : new.scope ≡ old.scope) (last : new.last ≡ Some row)
  where
    abbrev Keeps : Step → Type 0
    Keeps next =
        KeepsAwaited next (awaited_after row (awaited_at (position_at old.place) old.awaited))
        new.awaited

    abbrev At : Position
    At = position_at old.place

    -- by the effect the place of the bus has advanced, and the bus has gone
    abbrev Advances : Place → Effect → Option Act → Type 0
    Advances place found act =
        EachStep found row (λ next. IsAt At next → HasAdvanced At next (position_at place) act)

    abbrev Goes : Effect → Option Act → Type 0
    Goes found act = EachStep found row (λ next. IsAt At next → HasGone old next row new act)

    -- by a step that ends an act, where what the act tells is kept
    gone_by : (next : Step) (ended : Bool) (act told : Act) → act_after At next ≡ Some told
        → (act ≡ told → new.levels ≡ levels_by (profile_of old.scope.begins) told old.levels)
        → (act ≡ told → new.features ≡ known_by told old.features)
        → (act ≡ told → new.asked ≡ asked_after old.asked next)
        → Keeps next → HasAdvanced At next (position_at new.place) (ended_act ended act)
        → HasGone old next row new (ended_act ended act)
    gone_by next ended act told ends levels features asked keeps advanced =
        let is = advanced.act ∙ ends in
        let same = ended_is ended act told is in
        record {
          scope = scope;
          advanced = advanced;
          last = last;
          levels = rw is (levels same);
          features = rw is (features same);
          asked = asked same;
          awaited = keeps;
        }

    -- an ask
    pub gone_ask : (found : Effect) (place : Place) (ended : Bool) (act : Act) → found ≡ effect.Ask
        → new.place ≡ place → new.features ≡ old.features
        → ((command : Command) → act ≡ acts.Ask command
        → new.levels ≡ levels_after command old.levels)
        → ((command : Command) → act ≡ acts.Ask command → new.asked ≡ Some (device_of command))
        → Advances place found (ended_act ended act) → Goes found (ended_act ended act)
    gone_ask found place ended act is there features levels asked advanced =
        rw is (λ command at.
        gone_by (step.Ask command) ended act (acts.Ask command) (asks At command at)
        (levels command) (λ same. features) (asked command) tt
        (rw there ((rw is at advanced) command at)))

    module _ (levels : new.levels ≡ old.levels) where
      -- an ACK
      pub gone_ack : (found : Effect) (ended : Bool) (act : Act) → found ≡ effect.Ack
          → new.features ≡ known_by act old.features → new.asked ≡ old.asked
          → Advances new.place found (ended_act ended act) → Goes found (ended_act ended act)
      gone_ack found ended act is features asked advanced =
          rw is (λ at.
          let told = acked At at in
          gone_by step.Ack ended act (acts.Ack told.0) told.1 (λ same. levels)
          (λ same. rw same at features) (λ same. asked) tt ((rw is at advanced) at))

      -- a break
      pub gone_break : (found : Effect) (ended : Bool) (act : Act) → found ≡ effect.Break
          → new.features ≡ known_by act old.features → new.asked ≡ None
          → Advances new.place found (ended_act ended act) → Goes found (ended_act ended act)
      gone_break found ended act is features asked advanced =
          each_break found row _ is (λ start length there at.
          gone_by (step.Break length) ended act (acts.Break length)
          (ap (λ (p : List Event → Piece). act_in (p [])) (break_after old.scope At length))
          (λ same. levels) (λ same. rw same at features) (λ same. asked) tt
          ((rw (is, there) at advanced) at))

      module _ (features : new.features ≡ old.features) where
        -- by a step that ends none of these
        gone_idle : (next : Step) (act : Option Act) → IsIdle next
            → new.asked ≡ asked_after old.asked next → Keeps next
            → HasAdvanced At next (position_at new.place) act → HasGone old next row new act
        gone_idle next act idle asked keeps advanced =
            let none = tells_none (profile_of old.scope.begins) At next old.levels old.features idle
            in record {
              scope = scope;
              advanced = advanced;
              last = last;
              levels = rw (advanced.act, none.0) levels;
              features = rw (advanced.act, none.1) features;
              asked = asked;
              awaited = keeps;
            }

        -- a foreign word
        pub gone_foreign : (act : Option Act) → new.asked ≡ None → Keeps step.Foreign
            → HasAdvanced At step.Foreign (position_at new.place) act
            → HasGone old step.Foreign row new act
        gone_foreign act asked keeps advanced = gone_idle step.Foreign act tt asked keeps advanced

        -- another step, after which the device that was asked is the same
        pub gone_on : (found : Effect) (act : Option Act) → (found ≡ effect.Ask → ⊥)
            → (found ≡ effect.Ack → ⊥) → (found ≡ effect.Foreign → ⊥) → (found ≡ effect.Break → ⊥)
            → new.asked ≡ old.asked → Advances new.place found act → Goes found act
        gone_on effect.Ask act ask ack foreign pause asked advanced = absurd (ask refl)
        gone_on effect.Ack act ask ack foreign pause asked advanced = absurd (ack refl)
        gone_on effect.Foreign act ask ack foreign pause asked advanced = absurd (foreign refl)
        gone_on effect.Break act ask ack foreign pause asked advanced = absurd (pause refl)
        gone_on effect.Reply act ask ack foreign pause asked advanced = tt
        gone_on found act ask ack foreign pause asked advanced =
            λ at. gone_idle _ act tt asked tt (advanced at)
