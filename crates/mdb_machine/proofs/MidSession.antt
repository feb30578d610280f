-- The ways that an act of a device that keeps messages may go in a recording that begins in
-- mid-session.
use Rattle.mdb_machine.proofs.Words.{◌≡◌, ◌≢◌, ◌↔◌, inl, inr, ℕ, ◌≤◌, Bool, true, false, List, [], ◌∷◌, ◌++◌, Option, Some, None, refl, ap, sym, subst, ◌∙◌, arith, drop, take, length, option_and_then, option_map, sum_by, drop-append_seam, length-append, length-take-le, take-append-drop, All-from_recursion, recursion_from_All, list_any, Setups, Act, Joined, Profile, Choice, Plain, Gains, Part, Stays, device_gains, AllowsFacts, Facts, Tables, asked_by, effect_of, known_of, parts_by, facts_of, Conduct, KeeperStep, ReplyStep, StepKnowing, worth, IsNew, held, holds_after, holds_read, keeps_early, kept_of, Allows, AllowsKept, known_by, last_list, last_told, powers_on, unless_empty, MayGuess, Overlooks, guessing, step_guessing, Command, Reply, KnownFacts}
use Rattle.mdb_bus.specs.declared.act.Act.TheVariants as acts
use Rattle.mdb_machine.specs.declared.kept.Part.TheVariants as part
use Rattle.mdb_machine.specs.MidSession.{AsksNone, IsSettled, TellsHeldFirst, TellsNone, facts_recorded}
use Rattle.mdb_machine.specs.shared.ToldWays.{allows_told, asked_so, empty_unless, kept_so, kept_told, none_told, not_not, told_by_none}
use Rattle.mdb_machine.proofs.Knowing.{and_back, as_guessing}

-- the list that is held, and what is new
rest : {M : Type 0} (poll holds : Bool) (last kept news : List M) → holds ≡ true → last ≢ []
    → kept ≢ [] → IsNew poll (held (holds_read Plain holds) last) kept news
    → (count : ℕ) × (1 ≤ count) × (count ≤ length kept) × (news ≡ drop count kept)
rest poll false last kept news holds some more new = absurd cc
rest poll true [] kept news holds some more new = absurd (some refl)
rest poll true (x ∷ last) kept news holds some more (inr none) = absurd (more none.1)
rest poll true (x ∷ last) kept news holds some more (inl order) =
    let lengths = ap length order ∙ length-append (x ∷ last) news in (
      length (x ∷ last),
      omega arith,
      omega (arith, lengths),
      sym (ap (drop (length (x ∷ last))) order ∙ drop-append_seam (x ∷ last) news),
    )

nothing_left : {M : Type 0} (poll holds : Bool) (last kept news : List M) → holds ≡ true
    → last ≢ [] → kept ≡ [] → IsNew poll (held (holds_read Plain holds) last) kept news
    → (poll ≡ false) × (news ≡ [])
nothing_left poll false last kept news holds some empty new = absurd cc
nothing_left poll true [] kept news holds some empty new = absurd (some refl)
nothing_left poll true (x ∷ last) kept news holds some empty (inr none) = (none.0, none.2)
nothing_left poll true (x ∷ last) kept news holds some empty (inl order) =
    let clash : [] ≡ x ∷ (last ++ news) = sym empty ∙ order in
    absurd cc

early_of_none : {M : Type 0} (parts : List (Part M)) → kept_of parts ≡ []
    → keeps_early parts ≡ false
early_of_none (part.Kept message ∷ parts) empty = absurd cc
early_of_none (part.Other ∷ parts) empty = early_of_none parts empty
early_of_none parts empty = refl

-- what acts of a recording tell, and the facts that may be after them
module _ {Own Setup Asked M : Type 0} (tables : Tables Own Setup Asked M) (setups : Setups)
    (profile : Profile) (so_far : List Act) where
  abbrev Told : Facts Setup Asked M
  Told = facts_recorded tables setups profile so_far

  abbrev Known : KnownFacts Setup Asked M
  Known = known_of tables (Joined setups profile) so_far

  abbrev MayBe : Bool → Facts Setup Asked M → Type 0
  MayBe = AllowsFacts Known

  abbrev MayKeep : Bool → List M → Type 0
  MayKeep = AllowsKept Known.past.last_kept

  kept_by_none : last_list (parts_by tables) so_far ≡ None → TellsNone tables so_far
  kept_by_none none = All-from_recursion _ so_far (told_by_none
      (λ act. kept_of (parts_by tables act) ≡ []) _ (λ act. empty_unless _) so_far none)

  asked_by_none : last_told (asked_by tables) so_far ≡ None → AsksNone tables so_far
  asked_by_none none = All-from_recursion _ so_far
      (told_by_none (λ act. asked_by tables act ≡ None) _ (λ act none. none) so_far none)

  -- what was told is facts that may be, with a guess
  told_is : (holds : Bool) (facts : Facts Setup Asked M) → MayBe holds facts
      → Told ≡ guessing facts Told.last_asked Told.past.last_kept
  told_is holds facts allowed = and_back Told facts
      (as_guessing Told facts allowed.setup allowed.enabled (allowed.past.reset_owed
      ∙ not_not (facts_of tables profile so_far).past.reset_owed
      (list_any (powers_on (effect_of tables)) so_far)))

  guess_allowed : (holds : Bool) (asked : Option Asked) (kept : List M)
      → Allows Known.last_asked asked
      → MayKeep holds kept → MayBe holds (guessing Told asked kept)
  guess_allowed holds asked kept asks keeps = record {
    setup = refl;
    last_asked = asks;
    enabled = refl;
    past = record {
      reset_owed = sym (not_not (facts_of tables profile so_far).past.reset_owed
          (list_any (powers_on (effect_of tables)) so_far));
      last_kept = keeps;
    };
  }

  told_allowed : (holds : Bool) (kept : List M) → MayKeep holds kept
      → MayBe holds (guessing Told Told.last_asked kept)
  told_allowed holds kept = guess_allowed holds Told.last_asked kept
      (allows_told setups profile (last_told (asked_by tables) so_far))

  -- a kept list that may be, where none was told
  keeps_some : (holds : Bool) (kept : List M) → TellsNone tables so_far
      → MayKeep holds kept ↔ (holds ≡ true → kept ≢ [])
  keeps_some holds kept none =
      subst (λ o. AllowsKept (known_by (Joined setups profile) [] o) holds kept
      ↔ (holds ≡ true → kept ≢ []))
      (sym (none_told (λ act. kept_of (parts_by tables act) ≡ []) _ (λ act. ap unless_empty)
      so_far (recursion_from_All _ so_far none))) (λ is. is, λ is. is)

  -- facts that may be, where nothing has been asked of what counts: with any guess of that
  pub any_asked : M → (holds : Bool) (asked : Option Asked) → AsksNone tables so_far
      → (facts : Facts Setup Asked M) × MayBe holds facts × (facts.setup ≡ Told.setup)
      × (facts.last_asked ≡ asked)
  any_asked some holds asked none =
      let chosen = kept_told some setups profile holds (last_list (parts_by tables) so_far) in (
        guessing Told asked chosen.0,
        guess_allowed holds asked chosen.0
            (subst (λ o. Allows (known_by (Joined setups profile) None
            (option_map (λ (a : Asked). Some a) o)) asked)
            (sym (none_told (λ act. asked_by tables act ≡ None) _ (λ act none. none) so_far
            (recursion_from_All _ so_far none))) tt) chosen.1,
        refl,
        refl,
      )

  -- and with what was told of it
  pub some_told : M → (holds : Bool)
      → (facts : Facts Setup Asked M) × MayBe holds facts × (facts.setup ≡ Told.setup)
  some_told some holds =
      let chosen = kept_told some setups profile holds (last_list (parts_by tables) so_far) in
      (guessing Told Told.last_asked chosen.0, told_allowed holds chosen.0 chosen.1, refl)

  -- a device that overlooks what was asked and kept
  module _ {State : Type 0} (conduct : Conduct Own Setup Asked M State) where
    -- an act that is settled may be one after a guess
    module _ (facts : Facts Setup Asked M) (asked : Option Asked) (kept : List M) (choice : Choice)
        (before : State) (asks : (AsksNone tables so_far → ⊥) → asked ≡ facts.last_asked)
        (keeps : (TellsNone tables so_far → ⊥) → kept ≡ facts.past.last_kept) where
      may_guess : (act : Act) → IsSettled tables conduct so_far act choice before
          → MayGuess tables conduct facts asked kept act choice before
      may_guess (acts.Ask c) (inl none) =
          λ own is. inr (sym (ap (λ o. option_and_then tables.asked_of o) is) ∙ none)
      may_guess (acts.Ask c) (inr known) = λ own is. inl (asks known)
      may_guess (acts.Reply c r) (inl other) = λ own is news new.
          let clash : None ≡ Some own = sym other ∙ is in
          absurd cc
      may_guess (acts.Reply c r) (inr (inl free)) = λ own is news new. rw free (rw free at new)
      may_guess (acts.Reply c r) (inr (inr known)) = λ own is news new. rw (keeps known) new
      may_guess act is = tt

    pub settled_steps : M → Overlooks tables conduct → (act : Act) (choice : Choice)
        (before after : State) (gains : Gains) → IsSettled tables conduct so_far act choice before
        → StepKnowing tables conduct Known act choice before after gains
        ↔ KeeperStep tables conduct Told act choice before after gains
    settled_steps some overlooks act choice before after gains is =
        let holds = conduct.holds before in
        let list = last_list (parts_by tables) so_far in
        let chosen = kept_told some setups profile holds list in (
          λ step.
              let facts = step.facts in
              subst (λ f. KeeperStep tables conduct f act choice before after gains)
              (sym (told_is holds facts step.allowed))
              (step_guessing tables conduct overlooks facts Told.last_asked Told.past.last_kept act
              choice before after gains
              (may_guess facts Told.last_asked Told.past.last_kept choice before
              (λ known. sym (asked_so setups profile (last_told (asked_by tables) so_far)
              facts.last_asked step.allowed.last_asked (λ none. known (asked_by_none none))))
              (λ known. sym (kept_so setups profile holds list facts.past.last_kept
              step.allowed.past.last_kept (λ none. known (kept_by_none none)))) act is) step.step),
          λ step. record {
            facts = guessing Told Told.last_asked chosen.0;
            allowed = told_allowed holds chosen.0 chosen.1;
            step = step_guessing tables conduct overlooks Told Told.last_asked chosen.0 act choice
                before after gains
                (may_guess Told Told.last_asked chosen.0 choice before (λ known. refl)
                (λ known. chosen.2 (λ none. known (kept_by_none none))) act is) step;
          },
        )

    -- A reply of a device that holds an unknown list.
    module _ {own : Own} (command : Command) (reply : Reply) (before after : State) (gains : Gains)
        (is_own : tables.own command ≡ Some own) (none : TellsNone tables so_far)
        (holds : conduct.holds before ≡ true) where
      abbrev Replies : Type 0
      Replies = StepKnowing tables conduct Known (acts.Reply command reply) Plain before after gains

      abbrev StepAfter : Facts Setup Asked M → Type 0
      StepAfter facts = ReplyStep conduct facts (tables.is_poll own) (tables.parts_of reply) Plain
          before after gains

      abbrev ItsKept : List M
      ItsKept = kept_of (tables.parts_of reply)

      its_step : (step : Replies) → StepAfter step.facts
      its_step step = rw is_own at step.step

      as_step : (kept : List M) → (conduct.holds before ≡ true → kept ≢ [])
          → StepAfter (guessing Told Told.last_asked kept) → Replies
      as_step kept some step = record {
        facts = guessing Told Told.last_asked kept;
        allowed = told_allowed (conduct.holds before) kept
            ((keeps_some (conduct.holds before) kept none).1 some);
        step = rw is_own step;
      }

      -- what a device holds isn't empty
      held_some : (step : Replies) → step.facts.past.last_kept ≢ []
      held_some step = (keeps_some (conduct.holds before) step.facts.past.last_kept none).0
          step.allowed.past.last_kept holds

      -- news are told in the state before, where the device holds something
      tells_before : (facts : Facts Setup Asked M) (news : List M)
          → conduct.TellsNews facts Plain news (conduct.with_holds
          (holds_after ItsKept (holds_read Plain (conduct.holds before))) before) after
          ↔ conduct.TellsNews facts Plain news before after
      tells_before facts news =
          let same = ap (λ h. conduct.with_holds h before)
          (either ItsKept (conduct.holds before) holds) ∙ conduct.same_as_set before in
          let Tells = λ (b : State). conduct.TellsNews facts Plain news b after in
          (λ tells. subst Tells same tells, λ tells. subst Tells (sym same) tells)
        where
          either : (kept : List M) (h : Bool) → h ≡ true → holds_after kept (holds_read Plain h) ≡ h
          either [] h is = refl
          either (x ∷ kept) h is = sym is

      -- one of k ways, where there are k kept messages
      pub held_ways : Overlooks tables conduct → ItsKept ≢ []
          → Replies ↔ ((count : ℕ)
          × TellsHeldFirst conduct Told (tables.parts_of reply) count before after gains)
      held_ways overlooks more = (
        λ knowing.
            let facts = knowing.facts in
            let step = its_step knowing in
            let new = rest (tables.is_poll own) (conduct.holds before) facts.past.last_kept ItsKept
            step.news holds (held_some knowing) more step.has_news.new in
            let is = sym (told_is (conduct.holds before) facts knowing.allowed) in
            let same = sym (overlooks.gain facts Told.last_asked Told.past.last_kept)
            ∙ ap conduct.gain is in (
              new.0,
              record {
                some = new.1;
                told = new.2;
                reset = λ owed. step.has_news.reset
                    (ap (λ (f : Facts Setup Asked M). f.past.reset_owed) is ∙ owed);
                news = subst (λ f. conduct.TellsNews f Plain (drop new.0 ItsKept) before after) is
                    (overlooks.tells_news facts Told.last_asked Told.past.last_kept Plain _ before
                    after (subst (λ n. conduct.TellsNews facts Plain n before after) new.3
                    ((tells_before facts step.news).0 step.tells_news)));
                gained = step.gained
                    ∙ ap (λ gain. device_gains (λ slot. sum_by (gain slot) step.news)) same
                    ∙ ap (λ n. device_gains (worth conduct Told n)) new.3;
              },
            ),
        λ way.
            let tells = way.1 in
            let last = take way.0 ItsKept in
            let news = drop way.0 ItsKept in
            let some : last ≢ [] = λ empty.
            let none_left = ap length empty in
            omega (arith, length-take-le way.0 ItsKept tells.told, none_left, tells.some) in
            as_step last (λ h. some) record {
              news = news;
              has_news = record {
                read = tt;
                reset = tells.reset;
                new = inl (sym (take-append-drop way.0 ItsKept)
                    ∙ ap (λ h. held (holds_read Plain h) last ++ news) (sym holds));
              };
              tells_news = (tells_before (guessing Told Told.last_asked last) news).1
                  (overlooks.tells_news Told Told.last_asked last Plain news before after
                  tells.news);
              gained = tells.gained
                  ∙ ap (λ gain. device_gains (λ slot. sum_by (gain slot) news))
                  (sym (overlooks.gain Told Told.last_asked last));
            },
      )

      -- a reply without a kept message leaves nothing new, and is none to POLL
      module _ (empty : ItsKept ≡ []) where
        nothing_new : (knowing : Replies)
            → (tables.is_poll own ≡ false) × ((its_step knowing).news ≡ [])
        nothing_new knowing =
            nothing_left (tables.is_poll own) (conduct.holds before) knowing.facts.past.last_kept
            ItsKept (its_step knowing).news holds (held_some knowing) empty
            (its_step knowing).has_news.new

        pub no_way : tables.is_poll own ≡ true → Replies → ⊥
        no_way poll knowing =
            let other = (nothing_new knowing).0 in
            absurd cc

        -- there is one way to answer another command
        pub silent_way : M → tables.is_poll own ≡ false
            → ((facts : Facts Setup Asked M) → conduct.TellsNews facts Plain [] before after
            ↔ (after ≡ before))
            → Replies ↔ Stays before after gains
        silent_way some other quiet = (
          λ knowing.
              let left = (nothing_new knowing).1 in
              let step = its_step knowing in (
                (quiet knowing.facts).0
                    (subst (λ n. conduct.TellsNews knowing.facts Plain n before after) left
                    ((tells_before knowing.facts step.news).0 step.tells_news)),
                step.gained ∙ ap (λ n. device_gains (worth conduct knowing.facts n)) left,
              ),
          λ same.
              as_step (some ∷ []) (λ h is. absurd cc) record {
                news = [];
                has_news = record {
                  read = tt;
                  reset = λ owed. early_of_none (tables.parts_of reply) empty;
                  new = inr (other, empty, refl);
                };
                tells_news = (tells_before (guessing Told Told.last_asked (some ∷ [])) []).1
                    ((quiet (guessing Told Told.last_asked (some ∷ []))).1 same.0);
                gained = same.1;
              },
        )
