-- Which levels are told on.
use Rattle.mdb_surveyor.proofs.Words.{refl, ap, sym, ◌∙◌, ◌≡◌, ◌↔◌, ◌⊎◌, inl, inr, ℕ, List, [], ◌∷◌, ◌++◌, Option, Some, None, All, option_map, All-cons, All-head, All-nil, All-tail, ReaderCommand, ReaderUnit, First, Second, ReaderConfig, Setups, ReaderMessages, known_with, last_config, with_config, Act, Beginning, Profile, profile_of, Told, learnt_by, level_of, told_after, with_answer}
use Rattle.mdb_msgs.specs.declared.command.Command.TheVariants as commands
use Rattle.mdb_msgs.specs.declared.command.Device.TheVariants as devices
use Rattle.mdb_msgs.specs.declared.command.ReaderCommand.TheVariants as readers
use Rattle.mdb_msgs.specs.declared.reply.Reply.TheVariants as replies
use Rattle.mdb_bus.specs.declared.act.Act.TheVariants as acts
use Rattle.mdb_surveyor.specs.Unanswered.{HasConfig, IsNeither, IsUnanswered, TellsLevel}
use Rattle.mdb_surveyor.proofs.Learning.{heard}

-- what is told on of a reader
abbrev kept : ReaderUnit → Told → Option ℕ
kept unit told = level_of unit told.unanswered

-- what an act does to that
data Does (profile : Profile) (unit : ReaderUnit) (act : Act) (told : Told) : Type 0 where
  tells : (level : ℕ) → TellsLevel unit level act
      → kept unit (learnt_by profile act told) ≡ Some level → Does profile unit act told
  answers : HasConfig unit act → kept unit (learnt_by profile act told) ≡ None
      → Does profile unit act told
  neither : IsNeither unit act → kept unit (learnt_by profile act told) ≡ kept unit told
      → Does profile unit act told

-- a reply of another reader
other_keeps : (setups : Option Setups) (told : Told)
    → (kept First (with_answer (devices.Reader Second) setups told) ≡ kept First told)
    × (kept Second (with_answer (devices.Reader First) setups told) ≡ kept Second told)
other_keeps None told = (refl, refl)
other_keeps (Some setups) told = (refl, refl)

-- what stands before a reply of this reader, with or without a config message
abbrev answered_by : ReaderUnit → Told → Option ReaderConfig → Option ℕ
answered_by unit told None = kept unit told
answered_by unit told (Some config) = None

own_answer : (unit : ReaderUnit) (told : Told) (config : Option ReaderConfig)
    → kept unit (with_answer (devices.Reader unit)
    (option_map (with_config told.setups unit) config) told) ≡ answered_by unit told config
own_answer First told None = refl
own_answer First told (Some config) = refl
own_answer Second told None = refl
own_answer Second told (Some config) = refl

own_reply : (profile : Profile) (unit : ReaderUnit) (asked : ReaderCommand) (list : ReaderMessages)
    (told : Told) (config : Option ReaderConfig) → last_config list.messages ≡ config
    → kept unit (learnt_by profile (acts.Reply (commands.Reader unit asked) (replies.Reader list))
    told) ≡ answered_by unit told config
    → Does profile unit (acts.Reply (commands.Reader unit asked) (replies.Reader list)) told
own_reply profile unit asked list told None none step =
    neither (λ level tells. cc (tells.is), λ has. cc (none, has.has, has.is)) step
own_reply profile unit asked list told (Some config) is step =
    answers (record { asked = asked; list = list; is = refl; config = config; has = is }) step

-- each act
does : (profile : Profile) (unit : ReaderUnit) (act : Act) (told : Told)
    → Does profile unit act told
does profile First (acts.Ask (commands.Reader First
    (readers.SetupConfig level columns rows display)))
    told = tells level (record { columns = columns; rows = rows; display = display; is = refl })
    refl
does profile Second (acts.Ask (commands.Reader Second
    (readers.SetupConfig level columns rows display)))
    told = tells level (record { columns = columns; rows = rows; display = display; is = refl })
    refl
does profile First (acts.Ask (commands.Reader Second
    (readers.SetupConfig level columns rows display)))
    told = neither (λ other tells. cc (tells.is), λ has. cc (has.is)) refl
does profile Second (acts.Ask (commands.Reader First
    (readers.SetupConfig level columns rows display)))
    told = neither (λ other tells. cc (tells.is), λ has. cc (has.is)) refl
does profile First (acts.Reply (commands.Reader First asked) (replies.Reader list)) told =
    own_reply profile First asked list told (last_config list.messages) refl
    (own_answer First (heard profile (commands.Reader First asked) list told)
    (last_config list.messages))
does profile Second (acts.Reply (commands.Reader Second asked) (replies.Reader list)) told =
    own_reply profile Second asked list told (last_config list.messages) refl
    (own_answer Second (heard profile (commands.Reader Second asked) list told)
    (last_config list.messages))
does profile First (acts.Reply (commands.Reader Second asked) (replies.Reader list)) told =
    neither (λ level tells. cc (tells.is), λ has. cc (has.is))
    (other_keeps (known_with told.setups (devices.Reader Second) (replies.Reader list))
    (heard profile (commands.Reader Second asked) list told)).0
does profile Second (acts.Reply (commands.Reader First asked) (replies.Reader list)) told =
    neither (λ level tells. cc (tells.is), λ has. cc (has.is))
    (other_keeps (known_with told.setups (devices.Reader First) (replies.Reader list))
    (heard profile (commands.Reader First asked) list told)).1
does profile unit (acts.Reply (commands.Changer asked) (replies.ChangerSetup table)) told =
    neither (λ level tells. cc (tells.is), λ has. cc (has.is)) refl
does profile unit (acts.Reply (commands.Bill asked) (replies.BillSetup table)) told =
    neither (λ level tells. cc (tells.is), λ has. cc (has.is)) refl
does profile unit act told = neither (λ level tells. cc (tells.is), λ has. cc (has.is)) refl

module _ (begins : Beginning) (unit : ReaderUnit) (told : Told) where
  -- what is told on of it after acts
  abbrev Kept : List Act → Option ℕ
  Kept done = kept unit (told_after begins told done)

  goes : (act : Act) (done : List Act)
      → Does (profile_of begins) unit act (told_after begins told done)
  goes act done = does (profile_of begins) unit act (told_after begins told done)

  same : (act : Act) (done : List Act) → IsNeither unit act → Kept (act ∷ done) ≡ Kept done
  same act done is_neither = elim (goes act done) [
    | tells level it is ↦ absurd (is_neither.0 level it)
    | answers has is ↦ absurd (is_neither.1 has)
    | neither so is ↦ is
  ]

  leave : (done : List Act) → All (IsNeither unit) done → Kept done ≡ kept unit told
  leave [] since = refl
  leave (act ∷ done) since = same act done (All-head (IsNeither unit) act done since)
      ∙ leave done (All-tail (IsNeither unit) act done since)

  module _ (level : ℕ) where
    told_last : (later before : List Act) (ask : Act) → TellsLevel unit level ask
        → All (IsNeither unit) later → Kept (later ++ ask ∷ before) ≡ Some level
    told_last [] before ask it since = elim (goes ask before) [
      | tells other also is ↦ is ∙ cc (it.is, also.is)
      | answers has is ↦ cc (it.is, has.is)
      | neither is_neither is ↦ absurd (is_neither.0 level it)
    ]
    told_last (act ∷ later) before ask it since =
        same act (later ++ ask ∷ before) (All-head (IsNeither unit) act later since)
        ∙ told_last later before ask it (All-tail (IsNeither unit) act later since)

    -- what is told on, and why
    abbrev Why : List Act → Type 0
    Why done = IsUnanswered unit level done
        ⊎ (All (IsNeither unit) done × (kept unit told ≡ Some level))

    further : (act : Act) (done : List Act) → IsNeither unit act → Why done → Why (act ∷ done)
    further act done is_neither (inl last) = inl (record {
      later = act ∷ last.later;
      ask = last.ask;
      before = last.before;
      order = ap (λ l. act ∷ l) last.order;
      tells = last.tells;
      since = All-cons (IsNeither unit) act last.later is_neither last.since;
    })
    further act done is_neither (inr none) =
        inr (All-cons (IsNeither unit) act done is_neither none.0, none.1)

    why_kept : (done : List Act) → Kept done ≡ Some level → Why done
    why_kept [] is = inr (All-nil (IsNeither unit), is)
    why_kept (act ∷ done) kept_is = elim (goes act done) [
      | tells other it is ↦
          let is_level : other ≡ level = cc in
          inl (record {
            later = [];
            ask = act;
            before = done;
            order = refl;
            tells = rw is_level at it;
            since = All-nil (IsNeither unit);
          })
      | answers has is ↦ absurd cc
      | neither is_neither is ↦ further act done is_neither (why_kept done (sym is ∙ kept_is))
    ]

    kept_why : (done : List Act) → Why done → Kept done ≡ Some level
    kept_why done (inl last) =
        rw last.order (told_last last.later last.before last.ask last.tells last.since)
    kept_why done (inr none) = leave done none.0 ∙ none.1

pub unanswered_after : (begins : Beginning) (told : Told) (done : List Act) (unit : ReaderUnit)
    (level : ℕ)
    → (level_of unit (told_after begins told done).unanswered ≡ Some level)
    ↔ (IsUnanswered unit level done
    ⊎ (All (IsNeither unit) done × (level_of unit told.unanswered ≡ Some level)))
unanswered_after begins told done unit level =
    (why_kept begins unit told level done, kept_why begins unit told level done)
