-- What a device does in the course of a recording is a way of its end by itself, and gains the same
-- there where its amounts have a value. Foreign words in front change nothing. Lists of acts and of
-- pieces stand newest first.
use Rattle.mdb_late_start.proofs.Words.{ap, refl, sym, ◌≡◌, List, [], ◌∷◌, ◌++◌, if◌then◌else◌, Event, Device, Setups, Act, Joined, Profile, has_part, with_foreign, own_acts, Arrives, StateOf, machine_of, Sums, Piece, Whole, acts_of, Beginning, Loss, AllSums, IsWay, States, RunGoesOnThrough, inl, Command, at_first, Scope, AnswersLast, ArePieces, Asked, position_of, ◌∙◌, arith, profile_of, Gains, unvalued_of, added, no_sums, both_sums, HasToldWhatItHolds, MayJoinLate, TellsOnlyWhatIsSo, Machine, fun_ext, Base, Extended, EndLaws}
use Rattle.mdb_bus.specs.declared.act.Act.TheVariants as acts
use Rattle.mdb_msgs.specs.declared.command.Device.TheVariants as devices
use Rattle.mdb_machine.specs.shared.OwnWays.{with_other, with_own}
use Rattle.mdb_follow.proofs.Machines.{is_machine_of}
use Rattle.mdb_follow.proofs.OwnWays.{ways_alike}
use Rattle.mdb_late_start.proofs.CutWords.{IsForeignAct}
use Rattle.mdb_follow.proofs.Sales.{ends_in}
use Rattle.std.proofs.Math.Nat.{add-zero, add_assoc}

-- pieces are foreign acts
abbrev pub AreForeign : List Piece → Type 0
AreForeign [] = Unit {0}
AreForeign (piece ∷ pieces) = IsForeignAct piece × AreForeign pieces

-- so are those of foreign words
pub words_are : (words : List Event) (pieces : List Piece) → AreForeign pieces
    → AreForeign (with_foreign words pieces)
words_are [] pieces foreign = foreign
words_are (word ∷ words) pieces foreign =
    words_are words (Whole acts.Foreign (word ∷ []) ∷ pieces) (tt, foreign)

module _ (device : Device) where
  -- a device has no part in foreign acts
  pub none_of_its : (pieces : List Piece) → AreForeign pieces
      → own_acts device (acts_of pieces) ≡ []
  none_of_its [] foreign = refl
  none_of_its (Whole acts.Foreign events ∷ pieces) foreign = none_of_its pieces foreign.1
  none_of_its (piece ∷ pieces) foreign = absurd foreign.0

  -- its own acts don't change where others stand in front
  pub own_later : (later others : List Act) → own_acts device others ≡ []
      → own_acts device (later ++ others) ≡ own_acts device later
  own_later [] others none = none
  own_later (act ∷ later) others none =
      ap (λ (own : List Act). if has_part device act then act ∷ own else own)
      (own_later later others none)

  -- so a way in mid-session leads on where foreign acts stand in front
  pub after_foreign : (setups : Setups) (profile : Profile) (pieces : List Piece)
      → AreForeign pieces → (later : List Act) (state : StateOf device) (sums : Sums)
      → Arrives (machine_of (Joined setups profile) device) later state sums
      → Arrives (machine_of (Joined setups profile) device) (later ++ acts_of pieces) state sums
  after_foreign setups profile pieces foreign later =
      ways_alike (record { own = with_own; other = with_other }) device
      (machine_of (Joined setups profile) device) (is_machine_of (Joined setups profile) device)
      later (later ++ acts_of pieces)
      (sym (own_later later (acts_of pieces) (none_of_its pieces foreign)))

-- the acts of pieces in two parts
pub acts_in_two : (later before : List Piece)
    → acts_of (later ++ before) ≡ acts_of later ++ acts_of before
acts_in_two [] before = refl
acts_in_two (Whole act events ∷ later) before =
    ap (λ (l : List Act). act ∷ l) (acts_in_two later before)
acts_in_two (piece ∷ later) before = acts_in_two later before

-- a way of all, in two parts
pub in_two : (begins : Beginning) (loss : Loss) (later before : List Piece) (states : States)
    (sums : AllSums) → IsWay begins loss (later ++ before) states sums
    → record {
      from : States;
      sums_from : AllSums;
      way : IsWay begins loss before from sums_from;
      onward : RunGoesOnThrough begins loss before later from sums_from states sums;
    }
in_two begins loss [] before states sums way =
    record { from = states; sums_from = sums; way = way; onward = λ device. (refl, refl) }
in_two begins loss (Whole act events ∷ later) before states sums way =
    let earlier = in_two begins loss later before way.before way.sums_before way.way in
    record {
      from = earlier.from;
      sums_from = earlier.sums_from;
      way = earlier.way;
      onward = record {
        choice = way.choice;
        stands = way.stands;
        as_lost = way.as_lost;
        before = way.before;
        sums_before = way.sums_before;
        way = earlier.onward;
        go = way.go;
      };
    }
in_two begins loss (piece ∷ later) before states sums way =
    in_two begins loss later before states sums way

-- pieces where a command is open end in its ask
pub ends_in_ask : (scope : Scope) (command : Command) (pieces : List Piece)
    → position_of scope pieces ≡ Asked command
    → (before : List Act) × (acts_of pieces ≡ acts.Ask command ∷ before)
ends_in_ask scope command [] here =
    absurd (at_first (λ p. p ≡ Asked command → ⊥) (λ e. cc) (λ e. cc) scope.begins here)
ends_in_ask scope command (Whole (acts.Ask c) events ∷ pieces) here =
    (acts_of pieces, cc here)
ends_in_ask scope command (Whole act events ∷ pieces) here = absurd cc
ends_in_ask scope command (piece ∷ pieces) here = absurd cc

-- each answer stands right after what it answers
abbrev pub AllAnswer : List Act → Type 0
AllAnswer [] = Unit {0}
AllAnswer (act ∷ so_far) = AnswersLast act so_far × AllAnswer so_far

-- so it is in pieces in order
pub all_answer : (scope : Scope) (pieces : List Piece) → ArePieces scope pieces
    → AllAnswer (acts_of pieces)
all_answer scope [] are = tt
all_answer scope (Whole (acts.Ack c) events ∷ pieces) are =
    (ends_in_ask scope c pieces are.1.comes.0, all_answer scope pieces are.2)
all_answer scope (Whole (acts.Reply c r) events ∷ pieces) are =
    (ends_in_ask scope c pieces are.1.comes.0, all_answer scope pieces are.2)
all_answer scope (Whole (acts.VmcAck c r) events ∷ pieces) are =
    (ends_in scope c r pieces are.2 (inl are.1.comes.0), all_answer scope pieces are.2)
all_answer scope (Whole act events ∷ pieces) are = (tt, all_answer scope pieces are.2)
all_answer scope (piece ∷ pieces) are = all_answer scope pieces are.2

-- with nothing, sums are what they are
and_nothing : (sums : Sums) → sums ≡ both_sums sums no_sums
and_nothing sums = fun_ext (λ slot. simp add-zero)

-- gains add to the second part
and_gains : (one other : Sums) (gains : Gains)
    → added (both_sums one other) gains ≡ both_sums one (added other gains)
and_gains one other gains = fun_ext (λ slot. simp add_assoc)

-- where acts leave no amount without a value, the acts before the last leave none
valued_before : (setups : Setups) (profile : Profile) (device : Device) (act : Act)
    (so_far : List Act) → unvalued_of (Joined setups profile) device (act ∷ so_far) ≡ 0
    → unvalued_of (Joined setups profile) device so_far ≡ 0
valued_before setups Base (devices.Reader unit) act so_far none = omega (arith, none)
valued_before setups Extended (devices.Reader unit) act so_far none = omega (arith, none)
valued_before setups profile device act so_far none = omega (arith, none)

module _ (laws : EndLaws) (scope : Scope) (setups : Setups) (device : Device) where
  abbrev machine : Machine (StateOf device)
  machine = machine_of scope.begins device

  abbrev late : Beginning
  late = Joined setups (profile_of scope.begins)

  abbrev law : MayJoinLate scope.begins setups device
  law = laws.stays scope.begins setups device

  -- a device has told what it holds, wherever its way leads
  pub holds_there : (so_far : List Act) (state : StateOf device) (sums : Sums)
      → Arrives machine so_far state sums → HasToldWhatItHolds scope.begins device so_far state
  holds_there [] state sums way = law.starts state way.0
  holds_there (act ∷ so_far) state sums way =
      law.goes_on so_far act way.choice way.before state way.gains
      (holds_there so_far way.before way.sums_before way.way) way.step

  -- A way of the end by itself, to the same state, where the device has told what it holds; what is
  -- gained there is the same where the end leaves no amount without a value.
  pub record InEnd (later front : List Act) (sums_from : Sums) (state : StateOf device)
      (sums : Sums) : Type 0 where
    pub gained : Sums
    pub holds : HasToldWhatItHolds scope.begins device (later ++ front) state
    pub way : Arrives (machine_of late device) later state gained
    pub same : AllAnswer later → TellsOnlyWhatIsSo setups scope.begins device front
        → unvalued_of late device later ≡ 0 → sums ≡ both_sums sums_from gained

  -- where a way of all goes on through pieces of the end
  module _ (loss : Loss) (before : List Piece) (from : States) (sums_from : AllSums)
      (way : IsWay scope.begins loss before from sums_from) where
    pub in_end : (later : List Piece) (states : States) (sums : AllSums)
        → ArePieces scope (later ++ before)
        → RunGoesOnThrough scope.begins loss before later from sums_from states sums
        → InEnd (acts_of later) (acts_of before) (sums_from device) (states device) (sums device)
    in_end [] states sums are onward =
        let held : HasToldWhatItHolds scope.begins device (acts_of before) (states device) =
        rw (onward device).0 (holds_there (acts_of before) (from device) (sums_from device)
        (laws.splits scope.begins loss before from sums_from way device)) in
        record {
          gained = no_sums;
          holds = held;
          way = (law.starts_anew (acts_of before) (states device) held, refl);
          same = λ answer told none. (onward device).1 ∙ and_nothing (sums_from device);
        }
    in_end (Whole act events ∷ later) states sums are onward =
        let earlier = in_end later onward.before onward.sums_before are.2 onward.way in
        let go = onward.go device in
        let step = rw (acts_in_two later before) at go.step in
        let goes = law.step (acts_of later) (acts_of before) act onward.choice
        (onward.before device) (states device) go.gains
        (laws.names scope act events (later ++ before) are) earlier.holds step in
        record {
          gained = added earlier.gained goes.other;
          holds = law.goes_on (acts_of later ++ acts_of before) act onward.choice
              (onward.before device) (states device) go.gains earlier.holds step;
          way = record {
            choice = onward.choice;
            stands = onward.stands;
            before = onward.before device;
            sums_before = earlier.gained;
            gains = goes.other;
            way = earlier.way;
            step = goes.step;
            adds = refl;
          };
          same = λ answer told none. go.adds
              ∙ ap (λ s. added s go.gains) (earlier.same answer.1 told (valued_before setups
              (profile_of scope.begins) device act (acts_of later) none))
              ∙ and_gains (sums_from device) earlier.gained go.gains
              ∙ ap (λ g. both_sums (sums_from device) (added earlier.gained g))
              (sym (goes.valued told answer.0 none));
        }
    in_end (piece ∷ later) states sums are onward = in_end later states sums are.2 onward
