-- What is chosen of each act. Ways of machines, each with choices of its own, are ways with one
-- list of choices.
use Rattle.mdb_follow.proofs.Words.{◌≡◌, List, [], ◌∷◌, Device, Act, Machine, IsActOf, IsMachineOf, Arrives, Choices, Follows, Sums}
use Rattle.mdb_follow.proofs.Machines.{elsewhere_as, same_choice, whose}

module _ {State : Type 0} (machine : Machine State) where
  -- each way is one with its choices
  pub chosen : (acts : List Act) (state : State) (sums : Sums) → Arrives machine acts state sums
      → (choices : Choices acts) × Follows machine acts choices state sums
  chosen [] state sums way = (tt, way)
  chosen (act ∷ acts) state sums way =
      let earlier = chosen acts way.before way.sums_before way.way in (
        record { choice = way.choice; stands = way.stands; before = earlier.0 },
        record {
          before = way.before;
          sums_before = way.sums_before;
          gains = way.gains;
          way = earlier.1;
          step = way.step;
          adds = way.adds;
        },
      )

  -- and each way with choices is a way
  pub arrives : (acts : List Act) (choices : Choices acts) (state : State) (sums : Sums)
      → Follows machine acts choices state sums → Arrives machine acts state sums
  arrives [] choices state sums way = way
  arrives (act ∷ acts) choices state sums way = record {
    choice = choices.choice;
    stands = choices.stands;
    before = way.before;
    sums_before = way.sums_before;
    gains = way.gains;
    way = arrives acts choices.before way.before way.sums_before way.way;
    step = way.step;
    adds = way.adds;
  }

-- two lists of choices are the same for a device, where they matter
abbrev pub AgreeFor : Device → (acts : List Act) → Choices acts → Choices acts → Type 0
AgreeFor device [] one other = Unit {0}
AgreeFor device (act ∷ acts) one other =
    (IsActOf device act → one.choice ≡ other.choice)
    × AgreeFor device acts one.before other.before

-- then its ways with the one are ways with the other
pub follows_as : {State : Type 0} (device : Device) (machine : Machine State)
    → IsMachineOf device machine → (acts : List Act) (one other : Choices acts)
    → AgreeFor device acts one other → (state : State) (sums : Sums)
    → Follows machine acts one state sums → Follows machine acts other state sums
follows_as device machine is [] one other same state sums way = way
follows_as device machine is (act ∷ acts) one other same state sums way = record {
  before = way.before;
  sums_before = way.sums_before;
  gains = way.gains;
  way = follows_as device machine is acts one.before other.before same.1 way.before way.sums_before
      way.way;
  step = elsewhere_as device machine is acts act one.choice other.choice same.0 way.before state
      way.gains way.step;
  adds = way.adds;
}

-- choices of each device are one list: to each act those of the device that has a part in it
abbrev pub merged : (acts : List Act) → (Device → Choices acts) → Choices acts
merged [] all = tt
merged (act ∷ acts) all = record {
  choice = (all (whose act)).choice;
  stands = (all (whose act)).stands;
  before = merged acts (λ device. (all device).before);
}

pub merged_agrees : (acts : List Act) (all : Device → Choices acts) (device : Device)
    → AgreeFor device acts (all device) (merged acts all)
merged_agrees [] all device = tt
merged_agrees (act ∷ acts) all device = (
  same_choice device act (λ d. (all d).choice) (λ d. (all d).stands),
  merged_agrees acts (λ d. (all d).before) device,
)
