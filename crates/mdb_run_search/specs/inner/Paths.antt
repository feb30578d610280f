-- The best ways of one device through acts, with the chains of their marks. Pieces and acts stand
-- newest first. This serves private functions.
use Rattle.std.specs.Prelude.{◌≡◌, ◌⊎◌, ◌↔◌, ◌+◌, ◌<◌, ◌≤◌, ℕ, ℤ, pos, neg_ℤ, ◌+ℤ◌, ◌≤ℤ◌}
use Rattle.std.specs.Prelude.{All, Contains, List, ◌++◌, length, slice_index_or}
use Rattle.mdb_msgs.specs.declared.command.Device.{Device}
use Rattle.mdb_bus.specs.declared.act.Act.{Act}
use Rattle.mdb_bus.specs.ActLists.{Piece, acts_of}
use Rattle.mdb_machine.specs.declared.choice.Choice.{Choice}
use Rattle.mdb_machine.specs.declared.gains.Gains.{Gains}
use Rattle.mdb_machine.specs.Gains.{Stays}
use Rattle.mdb_machine.specs.SmallGains.{IsSmall}
use Rattle.mdb_machine.specs.Machine.{Machine}
use Rattle.mdb_machine.specs.Pair.{IsStep}
use Rattle.mdb_run_search.specs.declared.explain.best.Best.{Best}
use Rattle.mdb_run_search.specs.declared.explain.best.Weight.{Weight}
use Rattle.mdb_run_search.specs.declared.explain.chains.Link.{Link}
use Rattle.mdb_run_search.specs.declared.explain.paths.Paths.{Paths}
use Rattle.mdb_run_search.specs.declared.mark.Mark.{Mark}
use Rattle.mdb_follow.specs.Choosing.{Choices, Follows}
use Rattle.mdb_run_search.specs.Marks.{marks_at, own_marks}
use Rattle.mdb_follow.specs.Sums.{Sums}
use Rattle.mdb_run_search.specs.inner.Chains.{Denotes, IsChain}
use Rattle.mdb_run_search.specs.inner.Weights.{weigh, weight_of}

-- A value with a number of marks is as good as another: it is no greater, and where it is the same
-- there are no more marks.
pub record IsAsGood (value : ℤ) (marks : ℕ) (other_value : ℤ) (other_marks : ℕ) : Type 0 where
  pub no_greater : value ≤ℤ other_value
  pub no_more : value ≡ other_value → marks ≤ other_marks

-- A code has an entry, and it is as good as a value with a number of marks.
pub record HasAsGood (entries : List (ℕ × Best)) (code : ℕ) (value : ℤ) (marks : ℕ)
    : Type 0 where
  pub best : Best
  pub listed : Contains entries (code, best)
  pub good : IsAsGood best.value best.marks value marks

-- An entry is of a way of a machine through the acts of pieces: its code is that of the state that
-- the way leads to, its value what the sums count, and its chain has the marks of what was chosen
-- of the acts in which the device has a part.
pub record IsPath {State : Type 0} (code_of : State → ℕ) (device : Device)
    (machine : Machine State) (weight : Weight) (links : List Link) (pieces : List Piece)
    (entry : ℕ × Best) : Type 0 where
  pub state : State
  pub is : code_of state ≡ entry.0
  pub sums : Sums
  pub choices : Choices (acts_of pieces)
  pub way : Follows machine (acts_of pieces) choices state sums
  pub value : entry.1.value ≡ weigh weight sums
  pub chain : Denotes links entry.1.chain (own_marks device pieces choices)
  pub marks : entry.1.marks ≡ length (own_marks device pieces choices)

-- Entries are those of the best ways through the acts of pieces: each is of a way, and for each way
-- there is one that is as good.
pub record IsPaths {State : Type 0} (code_of : State → ℕ) (device : Device)
    (machine : Machine State) (weight : Weight) (links : List Link) (pieces : List Piece)
    (entries : List (ℕ × Best)) : Type 0 where
  pub sound : (entry : ℕ × Best) → Contains entries entry
      → IsPath code_of device machine weight links pieces entry
  pub whole : (state : State) (sums : Sums) (choices : Choices (acts_of pieces))
      → Follows machine (acts_of pieces) choices state sums
      → HasAsGood entries (code_of state) (weigh weight sums)
      (length (own_marks device pieces choices))

-- The paths of a device are those through the acts of pieces, and what they have of the facts is
-- what is known after them.
pub record ArePaths {Facts State : Type 0} {N : ℕ} (stands_for : Facts → List Act → Type 0)
    (code_of : State → ℕ) (device : Device) (machine : Machine State) (weight : Weight)
    (links : List Link) (pieces : List Piece) (paths : Paths Facts N) : Type 0 where
  pub facts : stands_for paths.facts (acts_of pieces)
  pub best : IsPaths code_of device machine weight links pieces paths.entries.items

-- An entry's code is below a number, its value and its marks are at most so far from 0, and its
-- chain is one of links.
pub record IsEntryWithin (number limit : ℕ) (links : List Link) (entry : ℕ × Best)
    : Type 0 where
  pub code : entry.0 < number
  pub low : neg_ℤ (pos limit) ≤ℤ entry.1.value
  pub high : entry.1.value ≤ℤ pos limit
  pub marks : entry.1.marks ≤ limit
  pub chain : IsChain links entry.1.chain

-- those of all entries are
abbrev pub AreEntriesWithin : ℕ → ℕ → List Link → List (ℕ × Best) → Type 0
AreEntriesWithin number limit links entries = All (IsEntryWithin number limit links) entries

-- the codes of all entries are below a number
abbrev pub AreBelow : ℕ → List (ℕ × Best) → Type 0
AreBelow number entries = All (λ entry. entry.0 < number) entries

-- An act leaves the states that have a code, and the sums, after whatever acts and under whatever
-- choice.
abbrev pub RestsAt : {State : Type 0} → (State → ℕ) → Machine State → Act → ℕ → Type 0
RestsAt {State} code_of machine act code =
    (acts : List Act) (choice : Choice) (before after : State) (gains : Gains)
    → code_of before ≡ code
    → machine.Step acts act choice before after gains ↔ Stays before after gains

-- and those of all entries
abbrev pub AllRest : {State : Type 0} → (State → ℕ) → Machine State → Act → List (ℕ × Best)
    → Type 0
AllRest code_of machine act entries = All (λ entry. RestsAt code_of machine act entry.0) entries

-- An entry is where the way of another goes on with a value and a choice at a row.
pub record LinksGoOnFrom (old_links links : List Link) (before : Best) (row : ℕ) (choice : Choice)
    (next : ℕ) (worth : ℤ) (entry : ℕ × Best) : Type 0 where
  pub code : entry.0 ≡ next
  pub value : entry.1.value ≡ worth
  pub marks : entry.1.marks ≡ before.marks + length (marks_at row choice)
  pub chain : (marks : List (ℕ × Mark)) → Denotes old_links before.chain marks
      → Denotes links entry.1.chain (marks ++ marks_at row choice)

-- An entry is taken in, or one that is as good stays: a new entry is an old one or such as is taken
-- in, and each code that had one as good as something still has.
pub record TakesIn (Is : ℕ × Best → Type 0) (old new : List (ℕ × Best)) : Type 0 where
  pub from : (entry : ℕ × Best) → Contains new entry → Contains old entry ⊎ Is entry
  pub kept : (code : ℕ) (value : ℤ) (marks : ℕ) → HasAsGood old code value marks
      → HasAsGood new code value marks

-- An entry is one to which a step leads from another, under a choice that can be.
pub record IsLed {State : Type 0} (number : ℕ) (Can : Choice → Type 0) (code_of : State → ℕ)
    (Step : Choice → State → State → Gains → Type 0) (weight : Weight) (row : ℕ)
    (old_links links : List Link) (before entry : ℕ × Best) : Type 0 where
  pub choice : Choice
  pub can : Can choice
  pub gains : Gains
  pub small : IsSmall gains
  pub below : entry.0 < number
  pub step : IsStep code_of (Step choice) before.0 entry.0 gains
  pub goes : LinksGoOnFrom old_links links before.1 row choice entry.0
      (before.1.value +ℤ weight_of weight gains) entry

-- for each step from an entry, under a choice that can be, there is an entry that is as good
abbrev pub HasSteps : {State : Type 0} → (Choice → Type 0) → (State → ℕ)
    → (Choice → State → State → Gains → Type 0) → Weight → ℕ → ℕ × Best → List (ℕ × Best)
    → Type 0
HasSteps Can code_of Step weight row before entries =
    (choice : Choice) → Can choice → (next : ℕ) (gains : Gains)
    → IsStep code_of (Step choice) before.0 next gains
    → HasAsGood entries next (before.1.value +ℤ weight_of weight gains)
    (before.1.marks + length (marks_at row choice))

-- What the steps from an entry, under the choices that can be, lead to is taken in.
pub record TakesSteps {State : Type 0} (number : ℕ) (Can : Choice → Type 0) (code_of : State → ℕ)
    (Step : Choice → State → State → Gains → Type 0) (weight : Weight) (row : ℕ)
    (old_links links : List Link) (before : ℕ × Best) (old new : List (ℕ × Best))
    : Type 0 where
  pub takes : TakesIn (IsLed number Can code_of Step weight row old_links links before) old new
  pub has : HasSteps Can code_of Step weight row before new

-- Entries are what the steps from others, under the choices that can be, lead to.
pub record AreLed {State : Type 0} (number : ℕ) (Can : Choice → Type 0) (code_of : State → ℕ)
    (Step : Choice → State → State → Gains → Type 0) (weight : Weight) (row : ℕ)
    (old_links links : List Link) (from entries : List (ℕ × Best)) : Type 0 where
  pub sound : (entry : ℕ × Best) → Contains entries entry
      → (before : ℕ × Best) × Contains from before
      × IsLed number Can code_of Step weight row old_links links before entry
  pub whole : (before : ℕ × Best) → Contains from before
      → HasSteps Can code_of Step weight row before entries

-- the entry at a place has this code
abbrev pub HasCodeAt : List (ℕ × Best) → ℕ → ℕ → Type 0
HasCodeAt entries code place = (place < length entries)
    × ((d : ℕ × Best) → (slice_index_or entries place d).0 ≡ code)

-- the best way through no act
abbrev pub no_path : Best
no_path = record { value = pos 0; marks = 0; chain = record { at = 0 } }

-- The entries so far of the ways through no act: those of the states with codes below a number.
pub record AreStarts {State : Type 0} (number : ℕ) (code_of : State → ℕ)
    (machine : Machine State) (code : ℕ) (entries : List (ℕ × Best)) : Type 0 where
  pub sound : (entry : ℕ × Best) → Contains entries entry
      → (state : State) × machine.Starts state × (code_of state ≡ entry.0)
      × (entry.0 < number) × (entry.1 ≡ no_path)
  pub whole : (state : State) → machine.Starts state → code_of state < code
      → Contains entries (code_of state, no_path)

-- A best is one of entries, and none of them is better.
pub record IsBestOf (entries : List (ℕ × Best)) (best : Best) : Type 0 where
  pub code : ℕ
  pub listed : Contains entries (code, best)
  pub least : (entry : ℕ × Best) → Contains entries entry
      → IsAsGood best.value best.marks entry.1.value entry.1.marks
