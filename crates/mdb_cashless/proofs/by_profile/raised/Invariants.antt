-- The list has the steps so far, with their codes raised.
use Rattle.mdb_cashless.proofs.Words.{◌+◌, ◌≤◌, array_vec_len, READER_STATES, AreCoded, take}
use Rattle.mdb_cashless.proofs.by_profile.raised.Given as goal

abbrev pub invariant-loop-code : goal.invariant-loop-code
invariant-loop-code l =
    record {
      codes : AreCoded (λ code. READER_STATES + code) (take l.code-index l.steps) l.raised.items;
      room : array_vec_len l.raised ≤ l.code-index;
    }
