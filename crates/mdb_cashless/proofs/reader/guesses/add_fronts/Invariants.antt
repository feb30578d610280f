-- The steps of the fronts so far are added, at most one for each, and all are small.
use Rattle.mdb_cashless.proofs.Words.{◌+◌, ◌≤◌, array_vec_len, facts_in}
use Rattle.mdb_cashless.proofs.Knowing.{OfFront}
use Rattle.mdb_cashless.proofs.Listed.{Adds, AreSmall}
use Rattle.mdb_cashless.proofs.reader.guesses.add_fronts.Given as goal

abbrev pub invariant-loop-last : goal.invariant-loop-last
invariant-loop-last l =
    record {
      items : Adds l.initial.steps.items l.steps.items (OfFront (facts_in l.facts) l.kept l.last
          l.command l.reply l.choice l.before);
      room : array_vec_len l.steps ≤ array_vec_len l.initial.steps + l.last;
      small : AreSmall l.initial.steps.items → AreSmall l.steps.items;
    }
