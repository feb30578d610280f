-- The steps so far are those of the fronts tried and of another list, at most one for each.
use Rattle.mdb_machine.proofs.Words.{◌≤◌, ◌+◌, Contains, array_vec_len, Gains, IsSmall}
use Rattle.mdb_machine.proofs.Knowing.{TriedTo}
use Rattle.mdb_machine.proofs.conduct.steps_replying.Given as goal

abbrev pub invariant-loop-count : goal.invariant-loop-count
invariant-loop-count g l =
    record {
      room : array_vec_len l.steps ≤ l.count + 1;
      tried : TriedTo g.K.Keeper.tables g.K.Conduct.conduct l.known l.act l.choice l.before
          l.fn.some l.kept.items l.count l.steps.items;
      small : (after : g.row.K-State.Denot) (gains : Gains) → Contains l.steps.items (after, gains)
          → IsSmall gains;
    }
