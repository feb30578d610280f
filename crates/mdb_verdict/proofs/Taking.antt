-- The rows of a batch, one by one: so many were taken.
use Rattle.mdb_verdict.proofs.Words.{HasTakenOrStopped, List, None, Option, Some, StopsAmong, [], ap, append-nil, append_assoc, arith, drop, length, length-append, take, ℕ, ◌++◌, ◌+◌, ◌<◌, ◌∷◌, ◌≡◌}
use Rattle.std.proofs.lemmas.List.{take_more}
use Rattle.std.proofs.Common.{add-one, get_or}
use Rattle.std.proofs.Math.Seq.{split_at}
use Rattle.mdb_verdict.specs.Ending.{HasTakenOrStoppedAt}

-- so many of the rows were taken, after whatever was taken before
pub record Fed {O Row : Type 0} (Was Has : O → List Row → Type 0) (rows : List Row) (count : ℕ)
    : Type 0 where
  pub on : (before : O) (earlier : List Row) → Was before earlier
      → Has before (earlier ++ take count rows)

pub none_fed : {O Row : Type 0} (Has : O → List Row → Type 0) (rows : List Row)
    → Fed Has Has rows 0
none_fed Has rows = record { on = λ before earlier has. rw append-nil has }

module _ {O Row : Type 0} {Was Has : O → List Row → Type 0} (rows : List Row) (i : ℕ) (row : Row)
    (within : i < length rows) (is : row ≡ get_or rows i row) (fed : Fed Was Has rows i) where
  -- the next is taken
  pub fed_more : {Later : O → List Row → Type 0}
      → ((before : O) (earlier : List Row) → Has before earlier
      → Later before (earlier ++ row ∷ [])) → Fed Was Later rows (i + 1)
  fed_more takes = record {
    on = λ before earlier was.
        rw (take_more rows i row within, ← append_assoc)
        (rw is at (takes before (earlier ++ take i rows) (fed.on before earlier was)));
  }

  -- or stopped at
  pub fed_to : (before : O) (Stops : List Row → Row → Type 0)
      → ((earlier : List Row) → Has before earlier → Stops earlier row)
      → (earlier : List Row) → Was before earlier → StopsAmong Stops earlier rows
  fed_to before Stops stops earlier was = record {
    front = take i rows;
    row = row;
    rest = drop (i + 1) rows;
    parts = rw (add-one, is) (split_at rows i row within);
    stops = stops (earlier ++ take i rows) (fed.on before earlier was);
  }

-- a batch of one row
pub one_taken : {Row Stop : Type 0} (Has : List Row → Type 0)
    (Stops : List Row → Row → Stop → Type 0) (earlier : List Row) (row : Row) (stop : Option Stop)
    → HasTakenOrStopped Has Stops earlier (row ∷ []) stop
    → HasTakenOrStoppedAt Has Stops earlier row stop
one_taken Has Stops earlier row None has = has
one_taken {Row = Row} Has Stops earlier row (Some stop) at = by at.front at.parts at.stops
  where
    by : (front : List Row) → row ∷ [] ≡ front ++ at.row ∷ at.rest
        → Stops (earlier ++ front) at.row stop → Stops earlier row stop
    by [] parts stops =
        let same : at.row ≡ row = cc in
        rw same at (rw append-nil at stops)
    by (first ∷ front) parts stops =
        absurd (omega (arith, ap length parts, length-append front (at.row ∷ at.rest)))
