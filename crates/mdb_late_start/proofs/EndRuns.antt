-- Runs of ends, and runs from power-on as runs in mid-session. From power-on rows begin anew, so
-- that all pieces begin in the end that they are. Lists of pieces are written newest first, lists
-- of events oldest first.
use Rattle.mdb_late_start.proofs.Words.{ap, refl, sym, ◌∙◌, ◌≡◌, ◌++◌, inl, inr, List, [], ◌∷◌, None, Event, DeviceSet, Setups, Profile, Scope, with_foreign, from_power_on, joined_by, MayBeReadAlone, BeginAnew, Piece, Quiet, ArePieces, IsActList, events_of, first_position, piece_events, append-nil, Device, PowerOn, Joined, Loss, IsNotKnown, AllSums, IsWay, Run, States, added, no_sums, AreAlike, GoesOnInEnd, EndLaws, Beginning, Whole, acts_of, joined_with, append_cancel_right, Levels, no_levels, profile_of, unvalued_of, IsReached, Passes, both_sums, TellsOnlyWhatIsSo, AreToldBy, WereTold, told_later}
use Rattle.mdb_late_start.proofs.Cutting.{CutsLaw, anew_still, pass_at}
use Rattle.mdb_late_start.proofs.CutWords.{first_anew}
use Rattle.mdb_late_start.proofs.InEnds.{holds_there, all_answer, in_end, acts_in_two, in_two, after_foreign, words_are}
use Rattle.mdb_follow.specs.Tables.{EachArrives}
use Rattle.mdb_late_start.proofs.ToldCuts.{front_list}

module _ (scope : Scope) (quiet : first_position scope.begins ≡ Quiet) where
  -- pieces in order begin anew, where nothing is open before them
  begin_anew : (piece : Piece) (pieces : List Piece) → ArePieces scope (piece ∷ pieces)
      → BeginAnew (events_of (piece ∷ pieces))
  begin_anew piece [] are = rw are.1.begins (elim (first_anew scope Quiet None are.1.first
      are.1.others piece are.0.said are.1.begins (rw quiet at are.1.comes) tt) [
        | inl anew ↦ anew
        | inr further ↦ absurd (cc further.1)
      ])
  begin_anew piece (earlier ∷ pieces) are =
      anew_still (events_of (earlier ∷ pieces)) (piece_events piece)
      (begin_anew earlier pieces are.2)

  -- pieces that have no rows are none
  none_there : (pieces : List Piece) → ArePieces scope pieces → events_of pieces ≡ []
      → pieces ≡ []
  none_there [] are none = refl
  none_there (piece ∷ pieces) are none = absurd (rw none at (begin_anew piece pieces are))

-- so an act list from power-on is one in mid-session: nothing stands in front where all rows are
-- the end
pub joined_too : CutsLaw → (profile : Profile) (setups : Setups) (without : DeviceSet)
    (pieces : List Piece) (rows : List Event)
    → MayBeReadAlone (from_power_on profile without) setups [] rows
    → IsActList (from_power_on profile without) pieces rows
    → IsActList (joined_by profile setups without) pieces rows
joined_too cuts profile setups without [] rows may list =
    record { in_order = tt; whole = list.whole }
joined_too cuts profile setups without (piece ∷ pieces) rows may list =
    let scope = from_power_on profile without in
    let cut = cuts scope setups [] rows (piece ∷ pieces) may list in
    let words = cut.clean (rw list.whole at (begin_anew scope refl piece pieces list.in_order)) in
    let none = none_there scope refl cut.before cut.in_front (cut.rows ∙ words) in
    let later = ap (λ ws. cut.later ++ with_foreign ws []) words
    ∙ sym (cut.order ∙ ap (λ ps. cut.later ++ ps) none) in
    rw later at cut.act_list

module _ (laws : EndLaws) (profile : Profile) (setups : Setups) where
  abbrev begins : Beginning
  begins = PowerOn profile

  abbrev late : Beginning
  late = Joined setups profile

  module _ (without : DeviceSet) where
    abbrev scope : Scope
    scope = from_power_on profile without

    -- the same way in mid-session
    same_way : (loss : Loss) (pieces : List Piece) (states : States) (sums : AllSums)
        (way : IsWay begins loss pieces states sums) → ArePieces scope pieces
        → record {
          more : AllSums;
          same : IsWay late loss pieces states more;
          alike : AreAlike begins late loss pieces states states sums more way same;
          gained : (device : Device) → IsNotKnown late device → more device ≡ sums device;
        }
    same_way loss [] states sums way are = record {
      more = λ device. no_sums;
      same = λ device.
          let law = laws.stays begins setups device in
          (law.starts_anew [] (states device) (law.starts (states device) (way device).0), refl);
      alike = tt;
      gained = λ device unknown. sym (way device).1;
    }
    same_way loss (Whole act events ∷ pieces) states sums way are =
        let earlier = same_way loss pieces way.before way.sums_before way.way are.2 in
        let arrived = laws.splits begins loss pieces way.before way.sums_before way.way in
        let there : (device : Device) → GoesOnInEnd begins setups device (acts_of pieces) [] act
        way.choice (way.before device) (states device) (way.go device).gains =
        λ device. (laws.stays begins setups device).step (acts_of pieces) [] act way.choice
        (way.before device) (states device) (way.go device).gains
        (laws.names scope act events pieces are)
        (rw append-nil (holds_there laws scope setups device (acts_of pieces) (way.before device)
        (way.sums_before device) (arrived device)))
        (rw append-nil (way.go device).step) in
        record {
          more = λ device. added (earlier.more device) (there device).other;
          same = record {
            choice = way.choice;
            stands = way.stands;
            as_lost = way.as_lost;
            before = way.before;
            sums_before = earlier.more;
            way = earlier.same;
            go = λ device.
                record { gains = (there device).other; step = (there device).step; adds = refl };
          };
          alike = (refl, refl, earlier.alike);
          gained = λ device unknown.
              ap (λ s. added s (there device).other) (earlier.gained device unknown)
              ∙ ap (added (way.sums_before device)) ((there device).alike refl refl unknown)
              ∙ sym (way.go device).adds;
        }
    same_way loss (piece ∷ pieces) states sums way are =
        same_way loss pieces states sums way are.2

    -- each run from power-on is one in mid-session
    pub run_joined : (rows : List Event) (sums : AllSums) (run : Run scope rows sums)
        → IsActList (joined_by profile setups without) run.pieces rows → (more : AllSums)
        × IsActList (joined_by profile setups without) run.pieces rows
        × (way : IsWay late run.loss run.pieces run.states more)
        × AreAlike begins late run.loss run.pieces run.states run.states sums more run.way way
        × ((device : Device) → IsNotKnown late device → more device ≡ sums device)
    run_joined rows sums run list =
        let there = same_way run.loss run.pieces run.states sums run.way run.act_list.in_order in
        (there.more, list, there.same, there.alike, there.gained)

-- pieces in front are in order
pub front_in_order : (scope : Scope) (later before : List Piece)
    → ArePieces scope (later ++ before) → ArePieces scope before
front_in_order scope [] before are = are
front_in_order scope (piece ∷ later) before are = front_in_order scope later before are.2

-- a run passes the end of the rows in front, where the rest begins anew
pub passes_front : (scope : Scope) (front end : List Event) (sums : AllSums)
    (run : Run scope (front ++ end) sums) → BeginAnew end
    → Passes scope (front ++ end) sums run front
passes_front scope front end sums run anew =
    let cut = pass_at scope run.pieces front end run.act_list.in_order run.act_list.whole anew in
    let two = in_two scope.begins run.loss cut.later cut.before run.states sums
    (rw cut.order at run.way) in
    record {
      later = cut.later;
      before = cut.before;
      order = cut.order;
      rows_before = cut.rows;
      states_then = two.from;
      sums_then = two.sums_from;
      way = two.way;
      onward = two.onward;
    }

module _ (laws : EndLaws) where
  -- a run of an act list, by ways of each device
  pub run_by : (scope : Scope) (rows : List Event) (pieces : List Piece) (states : States)
      (sums : AllSums) → IsActList scope pieces rows
      → EachArrives scope.begins (acts_of pieces) states sums → Run scope rows sums
  run_by scope rows pieces states sums list ways =
      let found = laws.joins scope pieces states sums list.in_order ways in
      record {
        pieces = pieces;
        act_list = list;
        loss = found.0;
        fits = found.1;
        states = states;
        way = found.2;
      }

  module _ (scope : Scope) (setups : Setups) where
    -- where rows are reached, each end of them is that may be read by itself
    pub end_reached : (levels : Levels) (front end : List Event)
        → MayBeReadAlone scope setups front end → IsReached scope (front ++ end)
        → WereTold scope setups levels front end
        → IsReached (told_later setups levels scope) end
    end_reached levels front end may (sums, run) told =
        let cut = told.cut in
        let order = laws.one scope (front ++ end) run.pieces told.pieces run.act_list told.act_list
        ∙ cut.order in
        let two = in_two scope.begins run.loss cut.later cut.before run.states sums
        (rw order at run.way) in
        let each = λ (device : Device). in_end laws scope setups device run.loss cut.before two.from
        two.sums_from two.way cut.later run.states sums (rw order at run.act_list.in_order)
        two.onward in
        let foreign : List Piece = with_foreign cut.words [] in
        let gained : AllSums = λ device. (each device).gained in (
          gained,
          run_by (told_later setups levels scope) end (cut.later ++ foreign) run.states gained
              (laws.told scope setups levels front end told.pieces told.act_list cut told.in_front)
              (λ device. rw (acts_in_two cut.later foreign) (after_foreign device setups
              (profile_of scope.begins) foreign (words_are cut.words [] tt) (acts_of cut.later)
              (run.states device) (gained device) (each device).way)),
        )

    -- so it is where no levels were told in front of it
    pub each_reached : (front end : List Event) → MayBeReadAlone scope setups front end
        → IsReached scope (front ++ end) → IsReached (joined_with setups scope) end
    each_reached front end may reached = end_reached no_levels front end may reached (record {
      pieces = reached.1.pieces;
      act_list = reached.1.act_list;
      cut = laws.splits_rows scope setups front end reached.1.pieces may reached.1.act_list;
      in_front = (tt, tt);
    })

    -- where the end begins anew
    module _ (levels : Levels) (front end : List Event) (sums : AllSums)
        (run : Run scope (front ++ end) sums) (may : MayBeReadAlone scope setups front end)
        (anew : BeginAnew end) (passes : Passes scope (front ++ end) sums run front)
        (told : AreToldBy scope passes.before levels) where
      abbrev new : Scope
      new = told_later setups levels scope

      -- the pieces that a run goes on through from there are an act list of the end
      pub later_pieces : IsActList new passes.later end
      later_pieces =
          let cut = laws.splits_rows scope setups front end run.pieces may run.act_list in
          let before = laws.one scope front passes.before cut.before (record {
            in_order = front_in_order scope passes.later passes.before
                (rw passes.order at run.act_list.in_order);
            whole = passes.rows_before;
          }) (front_list cut anew) in
          let later = append_cancel_right cut.later passes.later cut.before
          (sym cut.order ∙ passes.order ∙ ap (λ ps. passes.later ++ ps) before) in
          rw (cut.clean anew, append-nil cut.later ∙ later) at (laws.told scope setups levels front
          end run.pieces run.act_list cut (rw before at told))

      -- one run of the end gains what the whole run gains there
      pub gained_there : (gained : AllSums) × Run new end gained
          × ((device : Device) → TellsOnlyWhatIsSo setups scope.begins device
          (acts_of passes.before)
          → unvalued_of (Joined setups (profile_of scope.begins)) device (acts_of passes.later) ≡ 0
          → sums device ≡ both_sums (passes.sums_then device) (gained device))
      gained_there =
          let each = λ (device : Device). in_end laws scope setups device run.loss passes.before
          passes.states_then passes.sums_then passes.way passes.later run.states sums
          (rw passes.order at run.act_list.in_order) passes.onward in
          let gained : AllSums = λ device. (each device).gained in (
            gained,
            run_by new end passes.later run.states gained later_pieces
                (λ device. (each device).way),
            λ device. (each device).same (all_answer new passes.later later_pieces.in_order),
          )
