-- The entries are those that the steps so far lead to, and each has its place.
use Rattle.mdb_follow.proofs.Words.{◌≡◌, take, IsKeyed, IsPlaced, with_moves}
use Rattle.mdb_follow.proofs.entries.steps.add_all.Given as goal

abbrev pub invariant-loop-code : goal.invariant-loop-code
invariant-loop-code g l = record {
  keyed : IsKeyed g.row.N l.entries;
  placed : IsPlaced l.entries l.places;
  led : l.entries ≡ with_moves l.fn.entries l.cell (take l.code-index l.steps);
}
