-- The list has the steps so far, each with the code of its state.
use Rattle.mdb_machine.proofs.Words.{◌≤◌, take, array_vec_len}
use Rattle.mdb_machine.proofs.StepCodes.{AreCoded}
use Rattle.mdb_machine.proofs.pair.coded.Given as goal

abbrev pub invariant-loop-after : goal.invariant-loop-after
invariant-loop-after g l =
    record {
      codes : AreCoded g.S.HasCode.code_of (take l.after-index l.steps) l.coded.items;
      room : array_vec_len l.coded ≤ l.after-index;
    }
