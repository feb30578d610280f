-- The ways that an act of a reader may go in a recording that begins in mid-session.
use Rattle.mdb_cashless.proofs.Words.{common_steps, All, ◌≤◌, ◌≡◌, ◌≢◌, ◌↔◌, ◌⊎◌, inl, inr, ℕ, Bool, true, false, List, [], ◌∷◌, Option, Some, None, refl, ap, sym, ◌∙◌, arith, drop, length, if◌then◌else◌, drop-append_seam, take-append_seam, list_any, ReaderCommand, ReaderUnit, Reply, Act, Joined, Profile, Choice, Gains, device_gains, in_slots, IsNew, held, kept_of, Allows, AllowsKept, known_by, last_list, last_told, or_else, powers_on, unless_empty, ReaderActivity, ReaderState, Ended, Transaction, known_of, config_in, last_said, messages_of, parts_of, amounts, transaction_of, keeping, length-take-le, take-append-drop, All-from_recursion, recursion_from_All, all_approved, StepKnowing, is_poll, is_repeated, sold_any, take_any, AllowsFacts, KnownFacts, asked_by, effect_of, ends_transactions, own_transaction, parts_by, taken_told, transaction_taken_by, Command, length-append, take, option_map, VendDenied, AskStep, ReaderStep, before_messages, machine, read, taken, Facts, facts_of}
use Rattle.mdb_msgs.specs.declared.setups.Setups.{Setups}
use Rattle.mdb_cashless.specs.MidSession.{AckWay, AreHeld, IsSettled, MayBeAgain, ReplyWay, SendsNone, Takes, TakesNone, TellsNone, facts_recorded}
use Rattle.mdb_machine.specs.shared.ToldWays.{allows_if, allows_told, as_allowed, asked_so, empty_unless, keeps_if, kept_so, kept_told, list_told, none_told, not_not, told_by_none}
use Rattle.mdb_cashless.proofs.Guesses.{held_before, is_itself, repeats}
use Rattle.mdb_cashless.proofs.Knowing.{Same, asks_any, settled_steps}
use Rattle.mdb_cashless.proofs.PowerOn.{last_taken_is}
use Rattle.mdb_cashless.proofs.Sales.{is_last, own_of_unit}
use Rattle.mdb_cashless.proofs.ReaderMoves.{as_found}

-- no act tells something where it isn't told
nothing : {X : Type 0} (No : Act → Type 0) (tells : Act → Option X) (so_far : List Act)
    → ((act : Act) → No act ↔ (tells act ≡ None)) → All No so_far ↔ (last_told tells so_far ≡ None)
nothing No tells so_far is = (
  λ all. none_told No tells (λ act. (is act).0) so_far (recursion_from_All _ so_far all),
  λ none. All-from_recursion No so_far (told_by_none No tells (λ act. (is act).1) so_far none),
)

untaken : (ends : Bool) (its : Option Transaction) → ((ends ≡ false) × (its ≡ None))
    ↔ ((if ends then Some None else option_map (λ (t : Transaction). Some t) its) ≡ None)
untaken ends its = grind (arith, common_steps)

module _ (unit : ReaderUnit) (so_far : List Act) where
  none_kept : TellsNone unit so_far ↔ (last_list (parts_by unit) so_far ≡ None)
  none_kept = nothing (λ act. kept_of (parts_by unit act) ≡ [])
      (λ act. unless_empty (kept_of (parts_by unit act))) so_far
      (λ act. (ap unless_empty, empty_unless (kept_of (parts_by unit act))))

  none_asked : SendsNone unit so_far ↔ (last_told (asked_by unit) so_far ≡ None)
  none_asked = nothing (λ act. asked_by unit act ≡ None) (asked_by unit) so_far
      (λ act. (λ none. none, λ none. none))

  none_taken : TakesNone unit so_far ↔ (last_told (taken_told unit) so_far ≡ None)
  none_taken = nothing
      (λ act. (ends_transactions unit act ≡ false) × (transaction_taken_by unit act ≡ None))
      (taken_told unit) so_far
      (λ act. untaken (ends_transactions unit act) (transaction_taken_by unit act))

  is_taken_known : TakesNone unit so_far ⊎ (TakesNone unit so_far → ⊥)
  is_taken_known = by (last_told (taken_told unit) so_far) refl
    where
      by : (o : Option (Option Transaction)) → last_told (taken_told unit) so_far ≡ o
          → TakesNone unit so_far ⊎ (TakesNone unit so_far → ⊥)
      by None is = inl (none_taken.1 is)
      by (Some t) is = inr (λ none. let told = none_taken.0 none in absurd cc)

-- whether a transaction is repeated
repeated_so : (last its : Option Transaction) (holds : Bool) → repeats last its holds ≡ true
    → (t : Transaction) × (its ≡ Some t) × (holds ≡ true) × (last ≡ Some t)
repeated_so last its holds is =
    let last_is = is_last last in grind (arith, common_steps, last_is)

not_repeated : (last its : Option Transaction) (holds : Bool)
    → ((t : Transaction) → its ≡ Some t → holds ≡ true → last ≢ Some t)
    → repeats last its holds ≡ false
not_repeated last its holds other =
    let last_is = is_last last in grind (arith, common_steps, last_is)

repeated : (t : Transaction) (its : Option Transaction) (holds : Bool)
    → its ≡ Some t → holds ≡ true → repeats (Some t) its holds ≡ true
repeated t its holds is held = rw (is, held) (is_itself t)

-- what is held of a reply's kept messages
held_to : (unit : ReaderUnit) (so_far : List Act) (poll holds : Bool)
    (last kept news : List ReaderActivity) → (holds ≡ true → last ≢ [])
    → ((TellsNone unit so_far → ⊥) → last ≡ (facts_of unit so_far).past.last_kept)
    → IsNew poll (held holds last) kept news
    → (count : ℕ) × (AreHeld unit so_far poll holds kept count × (news ≡ drop count kept))
held_to unit so_far poll false last kept news some known (inl order) = (0, (refl, sym order))
held_to unit so_far poll false last kept news some known (inr none) =
    (0, (refl, none.2 ∙ sym none.1))
held_to unit so_far poll true [] kept news some known new = absurd (some refl refl)
held_to unit so_far poll true (x ∷ last) kept news some known (inl order) =
    let lengths = ap length order ∙ length-append (x ∷ last) news in
    let front = ap (take (length (x ∷ last))) order ∙ take-append_seam (x ∷ last) news in
    let rest = ap (drop (length (x ∷ last))) order ∙ drop-append_seam (x ∷ last) news in
    let few : (1 ≤ length (x ∷ last)) × (length (x ∷ last) ≤ length kept) =
    (omega arith, omega (arith, lengths)) in
    (length (x ∷ last), (inl (few.0, few.1, λ told. front ∙ known told), sym rest))
held_to unit so_far poll true (x ∷ last) kept news some known (inr none) =
    (0, (inr (none.0, none.1, refl), none.2 ∙ sym none.1))

module _ (unit : ReaderUnit) (setups : Setups) (profile : Profile) (so_far : List Act) where
  abbrev known : KnownFacts
  known = known_of (Joined setups profile) unit so_far

  abbrev base : Facts
  base = facts_recorded unit setups so_far

  same_owed : known.past.reset_owed ≡ base.past.reset_owed
  same_owed = not_not (facts_of unit so_far).past.reset_owed
      (list_any (powers_on (effect_of unit)) so_far)

  -- what may have been taken last
  taken_allows : (t : Option Transaction) → ((TakesNone unit so_far → ⊥) → t ≡ base.taken)
      → Allows known.taken t
  taken_allows t is = allows_if setups profile None (last_told (taken_told unit) so_far) t
      (λ told. is (λ none. told ((none_taken unit so_far).0 none)) ∙ last_taken_is unit so_far)

  taken_so : (t : Option Transaction) → Allows known.taken t → (TakesNone unit so_far → ⊥)
      → t ≡ base.taken
  taken_so t allows told = as_allowed setups profile None (last_told (taken_told unit) so_far) t
      allows (λ none. told ((none_taken unit so_far).1 none)) ∙ sym (last_taken_is unit so_far)

  its_taken : Allows known.taken base.taken
  its_taken = taken_allows base.taken (λ told. refl)

  its_asked : Allows known.asked base.asked
  its_asked = allows_told setups profile (last_told (asked_by unit) so_far)

  -- what is known of which list was kept last
  module _ (holds : Bool) where
    abbrev MayKeep : List ReaderActivity → Type 0
    MayKeep last = AllowsKept known.past.last_kept holds last

    some_kept : (last : List ReaderActivity) → MayKeep last → holds ≡ true → last ≢ []
    some_kept last allows held = by (last_list (parts_by unit) so_far) refl allows
      where
        by : (o : Option (List ReaderActivity)) → last_list (parts_by unit) so_far ≡ o
            → AllowsKept (known_by (Joined setups profile) [] o) holds last → last ≢ []
        by None is may = may held
        by (Some list) is may = λ empty.
            list_told (λ act. kept_of (parts_by unit act)) so_far list is (sym may ∙ empty)

    a_list : (kept : List ReaderActivity) × MayKeep kept
    a_list =
        let some = kept_told VendDenied setups profile holds (last_list (parts_by unit) so_far) in
        (some.0, some.1)

    -- facts that may be
    guess_allowed : (a t : Option Transaction) (k : List ReaderActivity) → Allows known.asked a
        → Allows known.taken t → MayKeep k
        → AllowsFacts known holds (keeping (record base { asked = a; taken = t }) k)
    guess_allowed a t k asked taken kept = record {
      config = refl;
      asked = asked;
      taken = taken;
      amount = refl;
      past = record { reset_owed = sym same_owed; last_kept = kept };
    }

  -- an ask of which it isn't known what was sent before it
  pub sent : (command : ReaderCommand) (choice : Choice) (before after : ReaderState)
      (gains : Gains) → SendsNone unit so_far
      → (machine unit (Joined setups profile)).Step so_far
      (Act.Ask (Command.Reader unit command)) choice before after gains
      ↔ AskStep (record base { asked = transaction_of command }) command before after gains
  sent command choice before after gains none =
      let its = transaction_of command in
      let kept = a_list before.holds in
      let may : Allows known.asked its = rw ((none_asked unit so_far).0 none) tt in
      as_found (rw (own_of_unit unit command) (asks_any (record base { asked = its }) kept.0 command
      before after gains refl
      (guess_allowed before.holds its base.taken kept.0 may its_taken kept.1)))

  held_from : (poll holds before : Bool) (kept : List ReaderActivity) (count : ℕ)
      → AreHeld unit so_far poll holds kept count → (last : List ReaderActivity)
      × (MayKeep before last × IsNew poll (held holds last) kept (drop count kept))
  held_from poll false before kept count none =
      let some = a_list before in (some.0, (some.1, inl (rw none refl)))
  held_from poll true before kept count (inl first) =
      let size = length-take-le count kept first.1 in
      let some : take count kept ≢ [] = λ empty.
      let none_left = ap length empty in
      omega (arith, size, none_left, first.0) in (
        take count kept,
        (
          keeps_if setups profile before (last_list (parts_by unit) so_far) (take count kept)
              (λ none. some) (λ told. first.2 (λ none. told ((none_kept unit so_far).0 none))),
          inl (sym (take-append-drop count kept)),
        ),
      )
  held_from poll true before kept count (inr none) =
      let some = a_list before in
      (some.0, (some.1, inr (none.0, none.1, rw none.2 none.1)))

  -- a command that is taken after facts that may be is taken in one of the ways
  takes_to : (facts : Facts) (holds : Bool) → AllowsFacts known holds facts
      → (its : Option ReaderCommand) (before : ReaderState)
      → Takes unit so_far base its before (take_any facts its before)
      (sold_any facts its before)
  takes_to facts holds allowed None before = inr (λ t is held told same. absurd cc, refl, refl)
  takes_to facts holds allowed (Some command) before =
      by (is_repeated facts command before.holds) refl
    where
      by : (r : Bool) → is_repeated facts command before.holds ≡ r
          → Takes unit so_far base (Some command) before (take_any facts (Some command) before)
          (sold_any facts (Some command) before)
      by true is =
          let so = repeated_so facts.taken (transaction_of command) before.holds is in
          let again : MayBeAgain unit so_far (Some command) before.holds = record {
            transaction = so.0;
            is = so.1;
            holds_some = so.2;
            last = λ told. sym (taken_so facts.taken allowed.taken told) ∙ so.3;
          } in
          inl (again, rw is refl, rw is refl)
      by false is = inr (
        λ t is_own held told same.
            let last = taken_so facts.taken allowed.taken told ∙ same in
            let clash : true ≡ false = sym (repeated t _ before.holds is_own held)
            ∙ (sym (ap (λ l. repeats l (transaction_of command) before.holds) last) ∙ is) in
            absurd cc,
        rw is refl,
        rw (is, allowed.config, allowed.amount) refl,
      )

  -- a guess with which a command isn't repeated
  another_guess : (its : Option Transaction) (holds : Bool) (guess : Option Transaction)
      → Allows known.taken guess
      → ((t : Transaction) → its ≡ Some t → holds ≡ true → (TakesNone unit so_far → ⊥)
      → base.taken ≢ Some t)
      → (t : Option Transaction) × Allows known.taken t
      × (or_else its t ≡ or_else its guess) × (repeats t its holds ≡ false)
  another_guess None holds guess may other =
      (guess, may, refl, not_repeated guess None holds (λ t is. absurd cc))
  another_guess (Some s) holds guess may other = elim (is_taken_known unit so_far) [
    | inl none ↦ (
      None,
      taken_allows None (λ told. absurd (told none)),
      refl,
      not_repeated None (Some s) holds (λ t is held same. absurd cc),
    )
    | inr told ↦ (
      base.taken,
      its_taken,
      refl,
      not_repeated base.taken (Some s) holds (λ t is held. other t is held told),
    )
  ]

  -- and each way is one after some guess of the last transaction, which may be; where no
  -- transaction is taken, any that may be does
  takes_from : (its : Option ReaderCommand) (before after : ReaderState) (sold : Ended)
      (guess : Option Transaction) → Allows known.taken guess
      → Takes unit so_far base its before after sold
      → (t : Option Transaction) × (Allows known.taken t
      × (or_else (own_transaction its) t ≡ or_else (own_transaction its) guess)
      × (take_any (record base { taken = t }) its before ≡ after)
      × (sold_any (record base { taken = t }) its before ≡ sold))
  takes_from None before after sold guess may (inl again) = absurd cc
  takes_from (Some command) before after sold guess may (inl again) =
      let t = again.0.transaction in
      let is = repeated t (transaction_of command) before.holds again.0.is
      again.0.holds_some in (
        Some t,
        (
          taken_allows (Some t) (λ told. sym (again.0.last told)),
          rw again.0.is refl,
          rw is (sym again.1),
          rw is (sym again.2),
        ),
      )
  takes_from None before after sold guess may (inr another) =
      (guess, (may, refl, sym another.1, sym another.2))
  takes_from (Some command) before after sold guess may (inr another) =
      let one = another_guess (transaction_of command) before.holds guess may another.0 in
      (one.0, (one.1, one.2, rw one.3 (sym another.1), rw one.3 (sym another.2)))

  -- an ACK
  module _ (command : ReaderCommand) (choice : Choice) (before after : ReaderState)
      (gains : Gains) where
    pub acked : (machine unit (Joined setups profile)).Step so_far
        (Act.Ack (Command.Reader unit command)) choice before after gains
        ↔ AckWay unit so_far base command choice before after gains
    acked = as_found (rw (own_of_unit unit command) (
      λ way.
          let one = takes_from (Some command) before way.middle way.sold base.taken its_taken
          way.takes in
          let kept = a_list before.holds in (
            keeping (record base { taken = one.0 }) kept.0,
            guess_allowed before.holds base.asked one.0 kept.0 its_asked one.1.0 kept.1,
            record { poll = way.poll; to = rw one.1.2 way.to; gained = rw one.1.3 way.gained },
          ),
      λ some. record {
        middle = take_any some.0 (Some command) before;
        sold = sold_any some.0 (Some command) before;
        poll = some.2.poll;
        takes = takes_to some.0 before.holds some.1 (Some command) before;
        to = some.2.to;
        gained = some.2.gained;
      },
    ))

  -- a reply
  module _ (command : ReaderCommand) (reply : Reply) (choice : Choice)
      (before after : ReaderState) (gains : Gains) where
    abbrev kept : List ReaderActivity
    kept = kept_of (parts_of reply)

    pub replied : (machine unit (Joined setups profile)).Step so_far
        (Act.Reply (Command.Reader unit command) reply) choice before after gains
        ↔ ReplyWay unit so_far base command reply choice before after gains
    replied = as_found (rw (own_of_unit unit command) (
      λ way.
          let one = takes_from (taken command reply) (read choice before) way.middle way.sold
          way.last (taken_allows way.last way.known) way.takes in
          let list = held_from (is_poll command) way.middle.holds before.holds kept way.count
          way.held in (
            keeping (record base { taken = one.0 }) list.0,
            guess_allowed before.holds base.asked one.0 list.0 its_asked one.1.0 list.1.0,
            record {
              news = drop way.count kept;
              has_news = record {
                read = way.may_be_read;
                reset = way.reset;
                new = rw one.1.2 list.1.1;
              };
              told = rw (one.1.1, one.1.2) way.told;
              view = way.view;
              holds = rw one.1.2 way.holds;
              gained = rw one.1.3 way.gained;
            },
          ),
      λ some.
          let facts = some.0 in
          let may = some.1 in
          let step = some.2 in
          let middle = before_messages facts command reply choice before in
          let is = held_to unit so_far (is_poll command) middle.holds facts.past.last_kept kept
          step.news
          (λ holds. some_kept before.holds facts.past.last_kept may.past.last_kept
          (held_before facts command reply choice before holds))
          (λ told. kept_so setups profile before.holds (last_list (parts_by unit) so_far)
          facts.past.last_kept may.past.last_kept (λ none. told ((none_kept unit so_far).1 none)))
          step.has_news.new in
          record {
            middle = middle;
            sold = sold_any facts (taken command reply) (read choice before);
            count = is.0;
            last = facts.taken;
            may_be_read = step.has_news.read;
            takes = takes_to facts before.holds may (taken command reply) (read choice before);
            held = is.1.0;
            reset = rw (may.past.reset_owed ∙ same_owed) at step.has_news.reset;
            known = taken_so facts.taken may.taken;
            told = rw is.1.1 at step.told;
            view = step.view;
            holds = step.holds;
            gained = (rw is.1.1 at step.gained)
                ∙ ap (λ c. device_gains (in_slots (amounts (all_approved
                (or_else (last_said config_in (messages_of reply)) c) (drop is.0 kept))
                (sold_any facts (taken command reply) (read choice before))))) may.config;
          },
    ))

  -- any other act leads where it does after the facts that were told
  settled_same : (act : Act) → IsSettled unit so_far act → (holds : Bool) (facts : Facts)
      → AllowsFacts known holds facts → Same unit base facts act
  settled_same (Act.Ask command) (inl none) holds facts may =
      λ its is. inr (sym (ap own_transaction is) ∙ none)
  settled_same (Act.Ask command) (inr sends) holds facts may = λ its is.
      inl (asked_so setups profile (last_told (asked_by unit) so_far) facts.asked may.asked
      (λ none. sends ((none_asked unit so_far).1 none)))
  settled_same (Act.Ack command) none holds facts may = λ its is. cc
  settled_same (Act.Reply command reply) none holds facts may = λ its is. cc
  settled_same act settled holds facts may = tt

  pub settled_way : (act : Act) (choice : Choice) (before after : ReaderState) (gains : Gains)
      → IsSettled unit so_far act
      → StepKnowing unit known act choice before after gains
      ↔ ReaderStep unit base act choice before after gains
  settled_way act choice before after gains settled =
      let kept = a_list before.holds in
      settled_steps unit choice before after gains base kept.0
      (guess_allowed before.holds base.asked base.taken kept.0 its_asked its_taken kept.1) act
      (settled_same act settled before.holds)
