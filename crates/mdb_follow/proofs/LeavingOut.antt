-- Runs where further devices are left out.
use Rattle.mdb_follow.proofs.Words.{refl, sym, ◌≡◌, Bool, true, false, List, Event, Device, has, Act, Beginning, Scope, IsActList, Piece, acts_of, LeavesOutMore, leave_out, IsLeftOut, Arrives, EachArrives, AreSumsWithout, StateOf, machine_of, AllSums, IsReached, Run, Sums, no_sums, Machine}
use Rattle.mdb_bus.proofs.LeftOutActs.{breaks_alone, breaks_left, own_acts_stay}
use Rattle.mdb_follow.proofs.Joining.{split}
use Rattle.mdb_follow.proofs.Machines.{is_machine_of}
use Rattle.mdb_follow.proofs.OwnWays.{own_laws, adds_nothing, first_of, some_way, ways_alike}
use Rattle.mdb_follow.proofs.Reaching.{SomeWay, run_of, some_of}

-- act lists stay without further devices
abbrev pub ListsStay : Type 0
ListsStay = (less more : Scope) (rows : List Event) (pieces : List Piece) → LeavesOutMore less more
    → IsActList less pieces rows → IsActList more (leave_out more pieces) rows

-- what becomes of the sums of a device without further devices, by whether it is left out
abbrev Without : Bool → Sums → Sums → Type 0
Without false sums other = other ≡ sums
Without true sums other = other ≡ no_sums

all_without : (scope : Scope) (sums other : AllSums)
    → ((device : Device) → Without (has scope.without device) (sums device) (other device))
    → AreSumsWithout scope sums other
all_without scope sums other each = record {
  followed = λ device is. rw is at (each device);
  left_out = λ device is. rw is at (each device);
}

module _ (begins : Beginning) (more : Scope) (pieces : List Piece) (device : Device) where
  abbrev machine : Machine (StateOf device)
  machine = machine_of begins device

  abbrev rest : List Act
  rest = acts_of (leave_out more pieces)

  -- each way of a device gives one without further devices
  one_without : (state : StateOf device) (sums : Sums)
      → Arrives machine (acts_of pieces) state sums → (its : Bool)
      → has more.without device ≡ its → (way : SomeWay machine rest) × Without its sums way.sums
  one_without state sums way false followed = (
    record {
      state = state;
      sums = sums;
      way = ways_alike own_laws device machine (is_machine_of begins device)
          (acts_of pieces) rest (sym (own_acts_stay more device pieces followed)) state sums way;
    },
    refl,
  )
  one_without state sums way true left_out =
      let first = first_of machine (acts_of pieces) state sums way in
      let over = some_way own_laws device machine (is_machine_of begins device) rest
      (acts_of pieces) (breaks_left more device pieces left_out) first.0 first.1 in
      (record { state = over.0; sums = no_sums; way = over.1 }, refl)

  -- and where it has one, each without further devices comes from one
  one_with : (some : SomeWay machine (acts_of pieces)) (other : StateOf device) (its : Sums)
      → Arrives machine rest other its → (is : Bool) → has more.without device ≡ is
      → (way : SomeWay machine (acts_of pieces)) × Without is way.sums its
  one_with some other its without false followed = (
    record {
      state = other;
      sums = its;
      way = ways_alike own_laws device machine (is_machine_of begins device) rest
          (acts_of pieces) (own_acts_stay more device pieces followed) other its without;
    },
    refl,
  )
  one_with some other its without true left_out = (
    some,
    adds_nothing own_laws device machine (is_machine_of begins device) rest
        (acts_of pieces) (breaks_left more device pieces left_out) other its without,
  )

-- each run gives one without further devices, where act lists stay
pub run_without : ListsStay → (less more : Scope) (rows : List Event) (sums : AllSums)
    → LeavesOutMore less more → Run less rows sums
    → (other : AllSums) × AreSumsWithout more sums other × Run more rows other
run_without stay less more rows sums leaves run =
    let ways = rw leaves.begins at (split less.begins run.loss run.pieces run.states sums run.way)
    in
    let all = λ (device : Device). one_without more.begins more run.pieces device
    (run.states device) (sums device) (ways device) (has more.without device) refl in (
      (λ device. (all device).0.sums),
      all_without more _ _ (λ device. (all device).1),
      run_of more rows (leave_out more run.pieces)
          (stay less more rows run.pieces leaves run.act_list) (λ device. (all device).0),
    )

-- where rows have a run, each run without further devices comes from one
pub run_with : ((less more : Scope) (rows : List Event) (pieces other : List Piece)
    → LeavesOutMore less more → IsActList less pieces rows → IsActList more other rows
    → other ≡ leave_out more pieces)
    → (less more : Scope) (rows : List Event) (other : AllSums)
    → LeavesOutMore less more → IsReached less rows → Run more rows other
    → (sums : AllSums) × AreSumsWithout more sums other × Run less rows sums
run_with left less more rows other leaves reached run =
    let some = reached.1 in
    let is = left less more rows some.pieces run.pieces leaves some.act_list run.act_list in
    let rest = acts_of (leave_out more some.pieces) in
    let without : EachArrives less.begins rest run.states other =
    rw leaves.begins (rw is at
    (split more.begins run.loss run.pieces run.states other run.way)) in
    let all = λ (device : Device). one_with less.begins more some.pieces device
    (some_of less rows reached.0 some device) (run.states device) (other device)
    (without device) (has more.without device) refl in (
      (λ device. (all device).0.sums),
      all_without more _ _ (λ device. (all device).1),
      run_of less rows some.pieces some.act_list (λ device. (all device).0),
    )

-- in a run the sums of a device that is left out are nothing
pub run_leaves_nothing : (scope : Scope) (rows : List Event) (sums : AllSums)
    → Run scope rows sums → (device : Device) → IsLeftOut scope device → sums device ≡ no_sums
run_leaves_nothing scope rows sums run device left_out =
    adds_nothing own_laws device (machine_of scope.begins device)
    (is_machine_of scope.begins device) (acts_of run.pieces) (acts_of run.pieces)
    (breaks_alone scope device run.pieces run.act_list.in_order left_out)
    (run.states device) (sums device)
    (split scope.begins run.loss run.pieces run.states sums run.way device)
