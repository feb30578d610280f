-- Both lists are the same up to this place.
use Rattle.mdb_machine.proofs.Words.{◌≡◌, take}
use Rattle.mdb_machine.proofs.kept.are_same.Given as goal

abbrev pub invariant-loop-i : goal.invariant-loop-i
invariant-loop-i g l = take l.i l.one ≡ take l.i l.other
