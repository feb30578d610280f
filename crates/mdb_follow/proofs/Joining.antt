-- Ways of each device, and of all.
use Rattle.mdb_follow.proofs.Words.{arith, refl, sym, ap, ◌∙◌, ◌≡◌, ◌↔◌, ◌<◌, cond, nat_eq, ℕ, Bool, true, false, List, [], ◌∷◌, length, nat_tests, Device, ArePieces, Piece, Whole, acts_of, events_of, piece_events, IsHeard, Loss, LossFits, Beginning, Choice, Lost, EachArrives, machine_of, AllSums, IsWay, States, AllFollow, Choices, choices_of, Scope}
use Rattle.std.proofs.Common.{length-append}
use Rattle.mdb_bus.specs.Acts.{IsAck}
use Rattle.mdb_bus.specs.Wish.{HearsAsWished, nothing_told}
use Rattle.mdb_bus.proofs.Fitting.{acks_wished, fitting}
use Rattle.mdb_follow.specs.SameAcks.{HearSameAcks}
use Rattle.mdb_follow.proofs.Choosing.{arrives, chosen, follows_as, merged, merged_agrees}
use Rattle.mdb_follow.proofs.Machines.{is_machine_of}

-- whether a choice leaves it that an act was heard
is_heard : Choice → Bool
is_heard Lost = false
is_heard choice = true

-- which acts are heard by choices, by the number of rows before them
chosen_at : (pieces : List Piece) → Choices (acts_of pieces) → ℕ → Bool
chosen_at [] choices before = true
chosen_at (Whole act events ∷ pieces) choices before =
    cond (nat_eq before (length (events_of pieces))) (is_heard choices.choice)
    (chosen_at pieces choices.before before)
chosen_at (tail ∷ pieces) choices before = chosen_at pieces choices before

-- a choice is Lost exactly where an ACK wasn't heard
lost_as : (choice : Choice) (Heard : Type 0) → Heard ↔ (is_heard choice ≡ true)
    → (choice ≡ Lost) ↔ (Heard → ⊥)
unfolding is_heard
lost_as Lost Heard told =
    (λ is heard. let never : false ≡ true = told.0 heard in absurd cc, λ none. refl)
lost_as choice Heard told = (λ is. absurd cc, λ none. absurd (none (told.1 refl)))

-- Ways under a loss.
module _ (begins : Beginning) (loss : Loss) where
  -- each way of all is a way of each device, with what it chooses
  pub split_with_choices : (pieces : List Piece) (states : States) (sums : AllSums)
      (way : IsWay begins loss pieces states sums)
      → AllFollow begins (acts_of pieces) (choices_of begins loss pieces states sums way) states
      sums
  split_with_choices [] states sums way device = way device
  split_with_choices (Whole act events ∷ pieces) states sums way device =
      let go = way.go device in
      record {
        before = way.before device;
        sums_before = way.sums_before device;
        gains = go.gains;
        way = split_with_choices pieces way.before way.sums_before way.way device;
        step = go.step;
        adds = go.adds;
      }
  split_with_choices (tail ∷ pieces) states sums way device =
      split_with_choices pieces states sums way device

  -- so it is a way of each device
  pub split : (pieces : List Piece) (states : States) (sums : AllSums)
      → IsWay begins loss pieces states sums → EachArrives begins (acts_of pieces) states sums
  split pieces states sums way device =
      arrives (machine_of begins device) (acts_of pieces)
      (choices_of begins loss pieces states sums way) (states device) (sums device)
      (split_with_choices pieces states sums way device)

  -- a loss agrees with choices on each ACK
  abbrev Agrees : (pieces : List Piece) → Choices (acts_of pieces) → Type 0
  Agrees [] choices = Unit {0}
  Agrees (Whole act events ∷ pieces) choices =
      (IsAck act
      → IsHeard loss act (length (events_of pieces)) (length events)
      ↔ (is_heard choices.choice ≡ true))
      × Agrees pieces choices.before
  Agrees (tail ∷ pieces) choices = Agrees pieces choices

  agrees : (scope : Scope) (choice : ℕ → Bool) (pieces : List Piece)
      (choices : Choices (acts_of pieces)) → ArePieces scope pieces
      → ((before : ℕ) → before < length (events_of pieces)
      → choice before ≡ chosen_at pieces choices before)
      → HearsAsWished loss choice pieces → Agrees pieces choices
  unfolding chosen_at
  agrees scope choice [] choices are same hears = tt
  agrees scope choice (Whole act events ∷ pieces) choices are same hears =
      let rows = length-append (events_of pieces) events in
      let some = ap length are.1.begins in
      let told = same (length (events_of pieces)) in
      let here : choice (length (events_of pieces)) ≡ is_heard choices.choice =
      grind (arith, nat_tests, rows, some) in (
        (λ ack. ((λ h. sym here ∙ (hears.0 ack).0 h), (λ h. (hears.0 ack).1 (here ∙ h)))),
        agrees scope choice pieces choices.before are.2
            (λ before less. let told = same before in grind (arith, nat_tests, rows)) hears.1,
      )
  agrees scope choice (tail ∷ pieces) choices are same hears =
      let rows = length-append (events_of pieces) (piece_events tail) in
      agrees scope choice pieces choices are.2
      (λ before less. same before (omega (arith, less, rows))) hears

  -- then there is a way of all, under the loss of the choices, and it chooses what was chosen
  way_of : (pieces : List Piece) (choices : Choices (acts_of pieces)) (states : States)
      (sums : AllSums) → Agrees pieces choices
      → AllFollow begins (acts_of pieces) choices states sums
      → (way : IsWay begins loss pieces states sums)
      × (choices_of begins loss pieces states sums way ≡ choices)
  way_of [] choices states sums agree ways = (ways, refl)
  way_of (Whole act events ∷ pieces) choices states sums agree ways =
      let earlier = way_of pieces choices.before (λ device. (ways device).before)
      (λ device. (ways device).sums_before) agree.1 (λ device. (ways device).way) in (
        record {
          choice = choices.choice;
          stands = choices.stands;
          as_lost = λ ack. lost_as choices.choice
              (IsHeard loss act (length (events_of pieces)) (length events)) (agree.0 ack);
          before = λ device. (ways device).before;
          sums_before = λ device. (ways device).sums_before;
          way = earlier.0;
          go = λ device. let its = ways device in
              record { gains = its.gains; step = its.step; adds = its.adds };
        },
        ap (λ before. record { choice = choices.choice; stands = choices.stands; before = before })
            earlier.1,
      )
  way_of (tail ∷ pieces) choices states sums agree ways =
      way_of pieces choices states sums agree ways

module _ (scope : Scope) (pieces : List Piece) where
  -- ways with the same choices are together a way of all with these, under one loss that fits
  pub joined_with_choices : (choices : Choices (acts_of pieces)) (states : States) (sums : AllSums)
      → ArePieces scope pieces → AllFollow scope.begins (acts_of pieces) choices states sums
      → (loss : Loss) × LossFits loss pieces × (way : IsWay scope.begins loss pieces states sums)
      × (choices_of scope.begins loss pieces states sums way ≡ choices)
  joined_with_choices choices states sums are ways =
      let wish = chosen_at pieces choices in
      let found = fitting scope pieces are wish in
      let agree = agrees scope.begins found.0 scope wish pieces choices are (λ before less. refl)
      (acks_wished found.0 wish nothing_told pieces found.2) in
      let way = way_of scope.begins found.0 pieces choices states sums agree ways in
      (found.0, found.1, way.0, way.1)

  -- and there is such a loss
  pub joined : (states : States) (sums : AllSums) → ArePieces scope pieces
      → EachArrives scope.begins (acts_of pieces) states sums
      → (loss : Loss) × LossFits loss pieces × IsWay scope.begins loss pieces states sums
  joined states sums are ways =
      let acts = acts_of pieces in
      let own = λ (device : Device). chosen (machine_of scope.begins device) acts (states device)
      (sums device) (ways device) in
      let all : Device → Choices acts = λ device. (own device).0 in
      let found = joined_with_choices (merged acts all) states sums are
      (λ device. follows_as device (machine_of scope.begins device)
      (is_machine_of scope.begins device) acts (all device) (merged acts all)
      (merged_agrees acts all device) (states device) (sums device) (own device).1) in
      (found.0, found.1, found.2)

-- where the same ACKs were heard, a way under one loss is one under the other
heard_alike : (begins : Beginning) (one other : Loss) (pieces : List Piece) (states : States)
    (sums : AllSums) → HearSameAcks one other pieces → IsWay begins one pieces states sums
    → IsWay begins other pieces states sums
heard_alike begins one other [] states sums same way = way
heard_alike begins one other (Whole act events ∷ pieces) states sums same way = record {
  choice = way.choice;
  stands = way.stands;
  as_lost = λ ack. (
    (λ lost heard. (way.as_lost ack).0 lost ((same.0 ack).1 heard)),
    (λ none. (way.as_lost ack).1 (λ heard. none ((same.0 ack).0 heard))),
  );
  before = way.before;
  sums_before = way.sums_before;
  way = heard_alike begins one other pieces way.before way.sums_before same.1 way.way;
  go = way.go;
}
heard_alike begins one other (tail ∷ pieces) states sums same way =
    heard_alike begins one other pieces states sums same way

same_back : (one other : Loss) (pieces : List Piece) → HearSameAcks one other pieces
    → HearSameAcks other one pieces
same_back one other [] same = tt
same_back one other (Whole act events ∷ pieces) same =
    ((λ ack. ((same.0 ack).1, (same.0 ack).0)), same_back one other pieces same.1)
same_back one other (tail ∷ pieces) same = same_back one other pieces same

pub ways_alike : (begins : Beginning) (one other : Loss) (pieces : List Piece)
    → HearSameAcks one other pieces → (states : States) (sums : AllSums)
    → IsWay begins one pieces states sums ↔ IsWay begins other pieces states sums
ways_alike begins one other pieces same states sums = (
  heard_alike begins one other pieces states sums same,
  heard_alike begins other one pieces states sums (same_back one other pieces same),
)
