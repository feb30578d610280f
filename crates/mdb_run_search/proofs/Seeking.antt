-- A seeker goes on row by row.
use Rattle.mdb_run_search.proofs.Words.{choices_in, split_with_choices, HasWay, list-on, arith, sym, subst, ap, ◌∙◌, ◌≡◌, ◌↔◌, ◌+◌, ◌*◌, ◌^◌, ◌≤◌, ◌<◌, ℕ, List, [], ◌∷◌, ◌++◌, length, length-append, Option, Some, None, add-one, append_assoc, drop, get_or, take, split_at, Event, Device, Act, Bus, PowerOn, Profile, Scope, IsActList, Piece, Whole, IsTail, events_of, GoesOn, Grown, AllPaths, Goal, Seeker, IsSeeker, IsReached, AreAllPaths, AreAllWithin, HasNoWay, OneActList}
use Rattle.mdb_bus.specs.Bus as link
use Rattle.mdb_run_search.proofs.Chains.{keep-same}
use Rattle.mdb_run_search.proofs.Replaying.{after-none, before-newest, newest-whole}
use Rattle.mdb_run_search.proofs.Paths.{entries-within-kept}

-- a tail has the paths of what comes before it
tail-paths : (profile : Profile) (goal : Goal) (all : AllPaths) (tail : Piece) (pieces : List Piece)
    → IsTail tail
    → AreAllPaths profile goal pieces all ↔ AreAllPaths profile goal (tail ∷ pieces) all
tail-paths profile goal all (Whole act events) pieces is = absurd is
tail-paths profile goal all tail pieces is = (
  λ are device. record {
    facts = (are device).facts;
    best = record {
      sound = λ entry has. search ((are device).best.sound entry has);
      whole = (are device).best.whole;
    };
  },
  λ are device. record {
    facts = (are device).facts;
    best = record {
      sound = λ entry has. search ((are device).best.sound entry has);
      whole = (are device).best.whole;
    };
  },
)

module _ (profile : Profile) (goal : Goal) (all : AllPaths) {pieces longer : List Piece}
    {row : Event} where
  -- the paths are those through the pieces that come before the newest of those that have gone on
  earlier-paths : {act : Option Act} (grown : Grown pieces row act longer)
      → AreAllPaths profile goal pieces all → AreAllPaths profile goal grown.earlier all
  earlier-paths grown = (before-newest (λ ps. AreAllPaths profile goal ps all)
      (tail-paths profile goal all) grown).1

  -- where no act ended
  pub still-paths : Grown pieces row None longer → AreAllPaths profile goal pieces all
      → AreAllPaths profile goal longer all
  still-paths = after-none (λ ps. AreAllPaths profile goal ps all) (tail-paths profile goal all)

-- limits

pub within-more : {limit more : ℕ} (all : AllPaths) → limit ≤ more → AreAllWithin limit all
    → AreAllWithin more all
within-more all le are device = entries-within-kept _ le keep-same (are device)

-- an act was followed

pub went-paths : (profile : Profile) (goal : Goal) (old new : AllPaths) (act : Act) (rows : ℕ)
    → ((profile : Profile) (pieces : List Piece) (events : List Event)
    → rows + 1 ≡ length (events_of pieces ++ events) → AreAllPaths profile goal pieces old
    → AreAllPaths profile goal (Whole act events ∷ pieces) new)
    → {bus : Bus} {pieces : List Piece} {row : Event} {events : List Event}
    (on : GoesOn bus pieces row (Some act)) → events_of pieces ≡ events → rows ≡ length events
    → AreAllPaths profile goal pieces old → AreAllPaths profile goal on.longer new
went-paths profile goal old new act rows led {pieces = pieces} {row} on whole counted are =
    let list = newest-whole on.grown in
    rw list (led profile on.grown.earlier (on.grown.begun ++ row ∷ []) (omega (
      arith,
      counted,
      ap length whole,
      ap length on.rows,
      ap (λ ps. length (events_of ps)) list,
      length-append (events_of pieces) (row ∷ []),
    )) (earlier-paths profile goal old on.grown are))

-- in reached rows each device has a way through the acts of their act list
pub has-way : {scope : Scope} (profile : Profile) → scope.begins ≡ PowerOn profile
    → OneActList scope → {events : List Event} {pieces : List Piece}
    → IsActList scope pieces events → IsReached scope events → (device : Device)
    → HasWay profile pieces device
has-way {scope} profile begins one {events} {pieces} list reached device =
    let run = reached.1 in
    rw (← begins, ← one events run.pieces pieces run.act_list list) (
      run.states device,
      reached.0 device,
      choices_in run,
      split_with_choices scope.begins run.loss run.pieces run.states reached.0 run.way device,
    )

-- so an act that ends reached rows was followed
pub stuck : (profile : Profile) (goal : Goal) (old : AllPaths) (act : Act)
    → ((profile : Profile) (pieces : List Piece) → AreAllPaths profile goal pieces old
    → (device : Device) × HasNoWay profile pieces act device)
    → {bus : Bus} (scope : Scope) → link.scope_of bus ≡ scope → OneActList scope
    → scope.begins ≡ PowerOn profile → {pieces : List Piece} {row : Event} {events : List Event}
    → GoesOn bus pieces row (Some act) → events_of pieces ≡ events
    → AreAllPaths profile goal pieces old → IsReached scope (events ++ row ∷ []) → ⊥
stuck profile goal old act none {bus} scope same one begins {pieces} {row} {events} on whole are
    reached =
    let grown = on.grown in
    let found = none profile grown.earlier (earlier-paths profile goal old grown are) in
    let list : IsActList scope (Whole act (grown.begun ++ row ∷ []) ∷ grown.earlier)
    (events ++ row ∷ []) =
    rw (newest-whole grown, same) at (list-on bus events row pieces (Some act) whole on) in
    let way = has-way profile begins one list reached found.0 in
    found.1 way.2 way.0 way.1 way.3

-- reached rows are reached as far as each of them
pub reached-next : (scope : Scope)
    → ((rows more : List Event) → IsReached scope (rows ++ more) → IsReached scope rows)
    → (events : List Event) (i : ℕ) (d : Event) → i < length events → IsReached scope events
    → IsReached scope (take i events ++ get_or events i d ∷ [])
reached-next scope fronts events i d within reached =
    let here = get_or events i d ∷ [] in
    let parts : events ≡ take i events ++ get_or events i d ∷ drop (i + 1) events =
    rw add-one (split_at events i d within) in
    fronts (take i events ++ here) (drop (i + 1) events) (subst (IsReached scope)
    (parts ∙ sym (append_assoc (take i events) here (drop (i + 1) events))) reached)

-- a seeker stands for one row more
pub seeks-on : {goal : Goal} {events : List Event} {old new : Seeker} {row : Event}
    {act : Option Act} (on : IsSeeker goal events old) (goes : GoesOn new.bus on.pieces row act)
    → link.scope_of new.bus ≡ link.scope_of old.bus → new.rows ≡ old.rows + 1
    → AreAllPaths on.profile goal goes.longer new.all
    → AreAllWithin ((old.rows + 1) * 2 ^ 32) new.all
    → IsSeeker goal (events ++ row ∷ []) new
seeks-on {events = events} {row = row} on goes same rows paths within = record {
  profile = on.profile;
  begins = ap (λ (s : Scope). s.begins) same ∙ on.begins;
  pieces = goes.longer;
  on_bus = goes.stands;
  whole = goes.rows ∙ ap (λ rs. rs ++ row ∷ []) on.whole;
  rows = omega (arith, rows, on.rows, length-append events (row ∷ []));
  paths = paths;
  within = rw rows within;
}
