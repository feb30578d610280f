-- Reached rows.
use Rattle.mdb_follow.proofs.Words.{List, [], ◌∷◌, ◌++◌, Option, Some, None, Event, Device, Act, IsActList, Piece, acts_of, GoesOnFrom, with_act, Beginning, Machine, Arrives, machine_of, AllSums, IsReached, Run, Sums, Scope}
use Rattle.mdb_follow.proofs.Joining.{joined, split}

-- the act list of rows goes on from that of the rows before the last
abbrev pub GoOnRowByRow : (scope : Scope) → Type 0
GoOnRowByRow scope = (rows : List Event) (row : Event) (pieces : List Piece)
    → IsActList scope pieces (rows ++ row ∷ []) → GoesOnFrom scope rows pieces

-- a machine has some way through acts
pub record SomeWay {State : Type 0} (machine : Machine State) (acts : List Act) : Type 0 where
  pub state : State
  pub sums : Sums
  pub way : Arrives machine acts state sums

-- and that of each device has one
abbrev pub SomeArrive : Beginning → List Act → Type 0
SomeArrive begins acts = (device : Device) → SomeWay (machine_of begins device) acts

-- a way through acts begins with one through the acts before the last
pub before_last : (begins : Beginning) (act : Act) (before : List Act)
    → SomeArrive begins (act ∷ before) → SomeArrive begins before
before_last begins act before some device =
    let last = (some device).way in
    record { state = last.before; sums = last.sums_before; way = last.way }

pub some_before : (begins : Beginning) (act : Option Act) (before : List Act)
    → SomeArrive begins (with_act act before) → SomeArrive begins before
some_before begins None before some = some
some_before begins (Some act) before some = before_last begins act before some

-- the run of an act list with a way of each device
pub run_of : (scope : Scope) (rows : List Event) (pieces : List Piece)
    → IsActList scope pieces rows → (all : SomeArrive scope.begins (acts_of pieces))
    → Run scope rows (λ device. (all device).sums)
run_of scope rows pieces list all =
    let found = joined scope pieces (λ device. (all device).state) (λ device. (all device).sums)
    list.in_order (λ device. (all device).way) in
    record {
      pieces = pieces;
      act_list = list;
      loss = found.0;
      fits = found.1;
      states = λ device. (all device).state;
      way = found.2;
    }

-- the ways of a run's devices
pub some_of : (scope : Scope) (rows : List Event) (sums : AllSums) (run : Run scope rows sums)
    → SomeArrive scope.begins (acts_of run.pieces)
some_of scope rows sums run device = record {
  state = run.states device;
  sums = sums device;
  way = split scope.begins run.loss run.pieces run.states sums run.way device;
}

pub without_last : (scope : Scope) → GoOnRowByRow scope → (rows : List Event) (row : Event)
    → IsReached scope (rows ++ row ∷ []) → IsReached scope rows
without_last scope goes rows row reached =
    let run = reached.1 in
    let from = goes rows row run.pieces run.act_list in
    let earlier = some_before scope.begins from.act (acts_of from.before)
    (rw from.acts at (some_of scope (rows ++ row ∷ []) reached.0 run)) in (
      (λ device. (earlier device).sums),
      run_of scope rows from.before from.act_list earlier,
    )
