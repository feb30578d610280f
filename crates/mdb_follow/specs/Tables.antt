-- What a table says of the ways through acts. It has states by their codes.
use Rattle.std.specs.Prelude.{◌≡◌, ℕ, List, Contains}
use Rattle.mdb_bus.specs.declared.act.Act.{Act}
use Rattle.mdb_machine.specs.Machine.{Machine}
use Rattle.mdb_follow.specs.declared.cell.Cell.{Cell}
use Rattle.mdb_follow.specs.Arrivals.{Arrives}
use Rattle.mdb_follow.specs.Cells.{IsCell}
use Rattle.mdb_follow.specs.Sums.{Sums}
use Rattle.mdb_msgs.specs.declared.command.Device.{Device}
use Rattle.mdb_bus.specs.declared.scope.Beginning.{Beginning}
use Rattle.mdb_follow.specs.Machines.{machine_of}
use Rattle.mdb_follow.specs.Runs.{AllSums, States}

-- some state that has a code
pub record ArrivesAt {State : Type 0} (code_of : State → ℕ) (Arrived : State → Sums → Type 0)
    (code : ℕ) (sums : Sums) : Type 0 where
  pub state : State
  pub is : code_of state ≡ code
  pub way : Arrived state sums

-- any state
pub record ArrivesAnywhere {State : Type 0} (Arrived : State → Sums → Type 0)
    (sums : Sums) : Type 0 where
  pub state : State
  pub way : Arrived state sums

-- The cell of each code has the exact ranges of the sums that come with the code, and a code has a
-- cell where some sums come with it.
pub record Bounds (Comes : ℕ → Sums → Type 0) (entries : List (ℕ × Cell)) : Type 0 where
  pub exact : (code : ℕ) (cell : Cell) → Contains entries (code, cell) → IsCell (Comes code) cell
  pub whole : (code : ℕ) (sums : Sums) → Comes code sums
      → (cell : Cell) × Contains entries (code, cell)

-- A table is that after acts, the newest first: some way leads through the acts, and the codes of
-- the table are those of the states that the ways lead to, each with the exact ranges of the sums
-- there.
pub record IsTable {State : Type 0} (code_of : State → ℕ) (machine : Machine State)
    (acts : List Act) (entries : List (ℕ × Cell)) : Type 0 where
  pub some : (state : State) × (sums : Sums) × Arrives machine acts state sums
  pub bounds : Bounds (ArrivesAt code_of (Arrives machine acts)) entries

-- Each device has a way of its own through acts, by its machine, to its state with its sums, in a
-- recording that begins so.
abbrev pub EachArrives : Beginning → List Act → States → AllSums → Type 0
EachArrives begins acts states sums =
    (device : Device) → Arrives (machine_of begins device) acts (states device) (sums device)
