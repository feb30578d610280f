-- Each round merges the best marks of one device more with those before.
use Rattle.mdb_run_search.proofs.Words.{List, Device, Profile, Piece, Goal, AreAllPaths, AreBestBelow, HasWay}
use Rattle.mdb_run_search.proofs.explain.marks_of_all.Given as goal

-- the marks so far are those of the devices before this one
abbrev pub invariant-loop-device : goal.invariant-loop-device
invariant-loop-device l =
    (profile : Profile) (goal : Goal) (pieces : List Piece) → AreAllPaths profile goal pieces l.all
    → ((device : Device) → HasWay profile pieces device)
    → AreBestBelow profile goal pieces l.device-index l.marks.items
