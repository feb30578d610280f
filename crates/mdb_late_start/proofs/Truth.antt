-- What came to the accounts in the end of a recording lies within the bounds of the end's report.
-- So it is of rows that have foreign words in front of it, and tails after it: a run of the middle
-- is one of the rows. Lists of acts and pieces stand newest first, lists of events oldest first.
use Rattle.mdb_late_start.proofs.Words.{ap, refl, ◌∙◌, ◌≡◌, inl, inr, List, [], ◌∷◌, ◌++◌, All, AllByRecursion, append-nil, recursion_from_All, Event, Device, Setups, Levels, Joined, Scope, Profile, IsForeignWord, IsTail, with_foreign, own_acts, AllSums, Run, HasMiddle, told_later, EndLaws, IsLessKnown, MayBeReadAlone, AreForeignWords, first_levels, levels_before, no_levels, profile_of, Beginning, Base, Extended, Piece, Whole, InForeign, ArePieces, IsActList, acts_of, events_of, first_position, last_of, levels_of, piece_events, position_of, sym, ℤ, Act, LeavesOutMore, leave_out, IsFollowed, Report, AreSumsWithout, IsReport, device_unvalued, unvalued_of, BeginAnew, Passes, both_sums, TellsOnlyWhatIsSo, AreToldBy, CameToWithin, IsInside}
use Rattle.mdb_bus.specs.declared.act.Act.TheVariants as acts
use Rattle.mdb_late_start.proofs.CutWords.{foreign_both, foreign_end, first_anew}
use Rattle.mdb_late_start.proofs.ToldCuts.{as_told, by_profile, front_list, other_levels}
use Rattle.mdb_late_start.proofs.EndRuns.{front_in_order, run_by, gained_there, later_pieces}
use Rattle.mdb_late_start.proofs.InEnds.{own_later, AreForeign, after_foreign, none_of_its, acts_in_two}
use Rattle.mdb_late_start.proofs.Cutting.{none_or_same, begins_nothing}
use Rattle.mdb_follow.specs.declared.account.Account.{Account}
use Rattle.mdb_follow.specs.declared.account_name.AccountName.{AccountName}
use Rattle.mdb_follow.specs.declared.range.Range.{Range}
use Rattle.mdb_follow.specs.AccountNames.{account_device, account_of, account_slot, sums_of}
use Rattle.mdb_follow.specs.Ranges.{IsRange}
use Rattle.mdb_follow.specs.AccountRanges.{IsAccount}
use Rattle.mdb_follow.proofs.OneAnswer.{named-account}
use Rattle.mdb_follow.proofs.Told.{device-told}

-- foreign words, by recursion
are_words : (words : List Event) → All IsForeignWord words → AreForeignWords words
are_words words foreign = each words (recursion_from_All IsForeignWord words foreign)
  where
    each : (words : List Event) → AllByRecursion IsForeignWord words → AreForeignWords words
    each [] all = tt
    each (word ∷ words) all = (all.0, each words all.1)

-- so are those of a front
foreign_front : (events others : List Event) → AreForeignWords (events ++ others)
    → AreForeignWords events
foreign_front [] others words = tt
foreign_front (event ∷ events) others words = (words.0, foreign_front events others words.1)

-- foreign acts tell no level
none_told_by : (profile : Profile) (levels : Levels) (pieces : List Piece) → AreForeign pieces
    → levels_of profile levels pieces ≡ levels
none_told_by profile levels [] foreign = refl
none_told_by profile levels (Whole acts.Foreign events ∷ pieces) foreign =
    none_told_by profile levels pieces foreign.1
none_told_by profile levels (piece ∷ pieces) foreign = absurd foreign.0

module _ (scope : Scope) (begins : first_position scope.begins ≡ InForeign) where
  -- foreign acts leave foreign traffic
  still_foreign : (pieces : List Piece) → AreForeign pieces
      → position_of scope pieces ≡ InForeign
  still_foreign [] foreign = begins
  still_foreign (Whole acts.Foreign events ∷ pieces) foreign = refl
  still_foreign (piece ∷ pieces) foreign = absurd foreign.0

  -- pieces of foreign words alone are foreign acts, where a recording begins in mid-session
  foreign_only : (pieces : List Piece) → ArePieces scope pieces
      → AreForeignWords (events_of pieces) → AreForeign pieces
  foreign_only [] are words = tt
  foreign_only (piece ∷ pieces) are words =
      let earlier = foreign_only pieces are.2
      (foreign_front (events_of pieces) (piece_events piece) words) in
      let its = rw are.1.begins at (foreign_end (events_of pieces) (piece_events piece) words) in
      elim (first_anew scope InForeign (last_of (events_of pieces)) are.1.first are.1.others piece
      are.0.said are.1.begins (rw (still_foreign pieces earlier) at are.1.comes) tt) [
        | inl anew ↦ absurd (begins_nothing are.1.first its.0 anew)
        | inr further ↦ (further.0, earlier)
      ]

-- tails have no acts
acts_past : (tail pieces : List Piece) → AllByRecursion IsTail tail
    → acts_of (tail ++ pieces) ≡ acts_of pieces
acts_past [] pieces tails = refl
acts_past (Whole act events ∷ tail) pieces tails = absurd tails.0
acts_past (piece ∷ tail) pieces tails = acts_past tail pieces tails.1

-- The acts of rows are those of the act list of their middle, and foreign ones before them.
pub record Parts (scope : Scope) (rows middle : List Event) (has : HasMiddle scope rows middle)
    : Type 0 where
  pub later : List Piece
  pub before : List Piece
  pub acts : acts_of (has.tail ++ has.whole) ≡ acts_of later ++ acts_of before
  pub foreign : AreForeign before
  pub list : IsActList scope later middle

-- what is known as such rows begin
first_less : (setups : Setups) (profile : Profile) (levels : Levels)
    → IsLessKnown (first_levels (Joined setups profile) no_levels)
    (first_levels (Joined setups profile) levels)
first_less setups Base levels = search
first_less setups Extended levels = search none_or_same

module _ (setups : Setups) (levels : Levels) (scope : Scope) where
  abbrev late : Scope
  late = told_later setups levels scope

  abbrev profile : Profile
  profile = profile_of scope.begins

  -- pieces of foreign words alone tell no level
  none_told_in : (pieces : List Piece) (rows : List Event) → IsActList late pieces rows
      → AreForeignWords rows → levels_of profile (levels_before late) pieces ≡ levels_before late
  none_told_in pieces rows list words =
      none_told_by profile (levels_before late) pieces
      (foreign_only late refl pieces list.in_order (rw list.whole words))

  -- so the link may read the middle by itself, where that has an act list
  pub middle_linked : (words middle : List Event) (pieces : List Piece) → All IsForeignWord words
      → IsActList late pieces middle → MayBeReadAlone late setups words middle
  middle_linked words middle pieces foreign list = elim (by_profile profile) [
    | inl base ↦ inl base
    | inr extended ↦ inr (record {
      act_list = (pieces, other_levels setups levels no_levels scope pieces middle extended list);
      tells = λ more rest before parts others anew front.
          rw (none_told_in before (words ++ more) front (foreign_both words more
          (are_words words foreign) (are_words more others)))
          (first_less setups profile levels);
    })
  ]

  module _ (laws : EndLaws) (rows middle : List Event) (has : HasMiddle late rows middle)
      (linked : MayBeReadAlone late setups has.words middle) where
    pub parts : Parts late rows middle has
    parts =
        let list : IsActList late has.whole (has.words ++ middle) = record {
          in_order = front_in_order late has.tail has.whole has.act_list.in_order;
          whole = has.of_whole;
        } in
        let cut = laws.splits_rows late setups has.words middle has.whole linked list in
        let front = front_list cut has.anew in
        let words = are_words has.words has.foreign in
        let before = none_told_in cut.before has.words front words in
        let there : IsActList late (cut.later ++ with_foreign cut.words []) middle =
        elim (by_profile profile) [
          | inl base ↦ laws.told late setups levels has.words middle has.whole list cut
              (rw (before, as_told setups profile base levels)
              (none_or_same levels.first.asked, none_or_same levels.second.asked))
          | inr extended ↦ other_levels setups no_levels levels scope
              (cut.later ++ with_foreign cut.words []) middle extended cut.act_list
        ] in
        record {
          later = cut.later;
          before = cut.before;
          acts = acts_past has.tail has.whole (recursion_from_All IsTail has.tail has.cut)
              ∙ ap acts_of cut.order ∙ acts_in_two cut.later cut.before;
          foreign = foreign_only late refl cut.before cut.in_front (rw front.whole words);
          list = rw (cut.clean has.anew, append-nil cut.later) at there;
        }

    -- the acts of the rows that a device has a part in are those of the middle
    pub own_in_middle : (device : Device)
        → own_acts device (acts_of (has.tail ++ has.whole))
        ≡ own_acts device (acts_of parts.later)
    own_in_middle device = ap (own_acts device) parts.acts
        ∙ own_later device (acts_of parts.later) (acts_of parts.before)
        (none_of_its device parts.before parts.foreign)

    -- and a run of the middle is one of the rows
    pub run_of_rows : (sums : AllSums) → Run late middle sums → Run late rows sums
    run_of_rows sums run =
        let begins : Beginning = Joined setups profile in
        let same = laws.one late middle run.pieces parts.later run.act_list parts.list in
        let ways = rw same at (laws.splits begins run.loss run.pieces run.states sums run.way) in
        run_by laws late rows (has.tail ++ has.whole) run.states sums has.act_list
        (λ device. rw parts.acts
        (after_foreign device setups profile parts.before parts.foreign (acts_of parts.later)
        (run.states device) (sums device) (ways device)))

-- a report counts the amounts without a value of the act list of its rows
reported : (laws : EndLaws) (scope : Scope) (rows : List Event) (report : Report)
    (pieces : List Piece) → IsReport scope rows report → IsActList scope pieces rows
    → (device : Device)
    → device_unvalued device report ≡ unvalued_of scope.begins device (acts_of pieces)
reported laws scope rows report pieces is list device =
    ap (λ r. r.facts.unvalued)
    (device-told scope (laws.one scope) rows report pieces is list device)

-- the value of some run lies within a range
inside : {S : Type 0} {Kind : S → Type 0} {value : S → ℤ} {range : Range} (sums : S)
    → IsRange Kind value range → Kind sums → IsInside range (value sums)
inside sums is run = record { low = is.low sums run; high = is.high sums run }

-- what came to an account in sums of a kind lies within its ranges
lies_within : (Kind : AllSums → Type 0) (account : AccountName) (ranges : Account)
    → IsAccount Kind (sums_of account) ranges → (whole before gained : AllSums)
    → whole (account_device account)
    ≡ both_sums (before (account_device account)) (gained (account_device account))
    → (within : AllSums) → Kind within
    → within (account_device account) ≡ gained (account_device account)
    → CameToWithin ranges (sums_of account before) (sums_of account whole)
lies_within Kind account ranges is whole before gained both within kind same = record {
  gained = sums_of account within;
  adds = ap (λ s. s (account_slot account))
      (both ∙ ap (both_sums (before (account_device account))) (sym same));
  device = inside within is.device kind;
  controller = inside within is.controller kind;
  difference = inside within is.difference kind;
}

-- a scope that leaves out more is of the same beginning, and of the same levels
is_told : (setups : Setups) (profile : Profile) (levels : Levels) (more : Scope)
    → Joined setups profile ≡ more.begins → levels ≡ more.levels
    → more ≡ told_later setups levels more
is_told setups profile levels more begins same =
    rw (← begins, begins, same) refl

module _ (laws : EndLaws) (scope : Scope) (setups : Setups) (levels : Levels)
    (front end : List Event) (sums : AllSums) (run : Run scope (front ++ end) sums)
    (may : MayBeReadAlone scope setups front end) (anew : BeginAnew end)
    (passes : Passes scope (front ++ end) sums run front)
    (levels_told : AreToldBy scope passes.before levels) where
  -- the recording from the end on, with the levels told before, and what is known as it begins
  abbrev mine : Scope
  mine = told_later setups levels scope

  abbrev begins : Beginning
  begins = Joined setups (profile_of scope.begins)

  list : IsActList mine passes.later end
  list = later_pieces laws scope setups levels front end sums run may anew passes levels_told

  -- what came to an account in the end, and what has to be so of its device
  abbrev LiesWithin : AccountName → Report → Type 0
  LiesWithin account report = CameToWithin (account_of account report)
      (sums_of account passes.sums_then) (sums_of account sums)

  abbrev IsKnown : AccountName → Report → Type 0
  IsKnown account report =
      TellsOnlyWhatIsSo setups scope.begins (account_device account) (acts_of passes.before)
      × (device_unvalued (account_device account) report ≡ 0)

  pub came_within : (report : Report) → IsReport mine end report → (account : AccountName)
      → IsKnown account report → LiesWithin account report
  came_within report is account known =
      let there = gained_there laws scope setups levels front end sums run may anew passes
      levels_told in
      let device = account_device account in
      lies_within (Run mine end) account (account_of account report)
      (named-account mine end report is account) sums passes.sums_then there.0
      (there.2 device known.0
      (sym (reported laws mine end report passes.later is list device) ∙ known.1)) there.0
      there.1 refl

  -- the amounts without a value are of a device's own acts (`alike`)
  module _ (alike : (begins : Beginning) (device : Device) (one other : List Act)
      → own_acts device one ≡ own_acts device other
      → unvalued_of begins device one ≡ unvalued_of begins device other) (rows : List Event)
      (report : Report) (account : AccountName) (known : IsKnown account report) where
    abbrev device : Device
    device = account_device account

    -- where the end is the middle of rows, of which perhaps less is followed (`more`)
    came_in_rows : (more : Scope) → begins ≡ Joined setups (profile_of more.begins)
        → HasMiddle (told_later setups levels more) rows end
        → IsReport (told_later setups levels more) rows report → (left : List Piece)
        → IsActList (told_later setups levels more) left end
        → own_acts device (acts_of left) ≡ own_acts device (acts_of passes.later)
        → ((gained : AllSums) → Run mine end gained
        → (other : AllSums) × Run (told_later setups levels more) end other
        × (other device ≡ gained device)) → LiesWithin account report
    came_in_rows more same_begins has is left left_list own runs =
        let its = told_later setups levels more in
        let there = gained_there laws scope setups levels front end sums run may anew passes
        levels_told in
        let linked = middle_linked setups levels more has.words end left has.foreign left_list in
        let parted = parts setups levels more laws rows end has linked in
        let same : left ≡ parted.later = laws.one its end left parted.later left_list parted.list in
        let all = acts_of (has.tail ++ has.whole) in
        let valued = alike its.begins device (acts_of passes.later) all
        (sym own ∙ ap (λ ps. own_acts device (acts_of ps)) same
        ∙ sym (own_in_middle setups levels more laws rows end has linked device))
        ∙ sym (reported laws its rows report (has.tail ++ has.whole) is has.act_list device)
        ∙ known.1 in
        let other = runs there.0 there.1 in
        lies_within (Run its rows) account (account_of account report)
        (named-account its rows report is account) sums passes.sums_then there.0
        (there.2 device known.0 (rw same_begins valued)) other.0
        (run_of_rows setups levels more laws rows end has linked other.0 other.1) other.2

    -- what came in it lies within the bounds of the rows
    pub came_in_middle : HasMiddle mine rows end → IsReport mine rows report
        → LiesWithin account report
    came_in_middle has is = came_in_rows scope refl has is passes.later list refl
        (λ gained there. (gained, there, refl))

    -- so too where further devices are left out, in the accounts of those that are followed
    module _ (runs : (less more : Scope) (events : List Event) (gained : AllSums)
        → LeavesOutMore less more → Run less events gained
        → (other : AllSums) × AreSumsWithout more gained other × Run more events other)
        (stays : (less more : Scope) (events : List Event) (pieces : List Piece)
        → LeavesOutMore less more → IsActList less pieces events
        → IsActList more (leave_out more pieces) events)
        (followed : (scope : Scope) (pieces : List Piece) (device : Device)
        → IsFollowed scope device
        → own_acts device (acts_of (leave_out scope pieces)) ≡ own_acts device (acts_of pieces))
      where
        pub came_in_less : (more : Scope) → LeavesOutMore mine more → HasMiddle more rows end
            → IsReport more rows report → IsFollowed more device → LiesWithin account report
        came_in_less more leaves has is its_device =
            let its = told_later setups levels more in
            let back : more ≡ its = is_told setups (profile_of scope.begins) levels more
            leaves.begins leaves.levels in
            let out : LeavesOutMore mine its = rw back at leaves in
            came_in_rows more out.begins (rw back at has) (rw back at is)
            (leave_out its passes.later) (stays mine its end passes.later out list)
            (followed its passes.later device its_device)
            (λ gained there. let other = runs mine its end gained out there in
            (other.0, other.2, other.1.followed device its_device))
