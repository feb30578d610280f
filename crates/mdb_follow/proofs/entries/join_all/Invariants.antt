-- The join so far is that of the cells before this place.
use Rattle.mdb_follow.proofs.Words.{◌≡◌, take, joined_cells}
use Rattle.mdb_follow.proofs.entries.join_all.Given as goal

abbrev pub invariant-loop-cell : goal.invariant-loop-cell
invariant-loop-cell l = l.all ≡ joined_cells l.initial.all (take l.cell-index l.rest)
