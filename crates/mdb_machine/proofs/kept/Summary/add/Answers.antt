-- One message more adds what is kept of it, and shows whether a reset came before it.
use Rattle.mdb_machine.proofs.KeptLists.{has_reset-more, keeps_early-more, kept_of-more}
use Rattle.mdb_machine.proofs.kept.Summary.add.Goals as goal

pub returns-clause-summary : goal.returns-clause-summary
returns-clause-summary g c = λ parts summary.
    record {
      kept_is = rw (kept_of-more parts c.args.part, c.put.ensures.kept, summary.kept_is);
      reset_is = rw (has_reset-more parts c.args.part, c.put.ensures.reset, summary.reset_is);
      early_is =
          rw (
            keeps_early-more parts c.args.part,
            c.put.ensures.early,
            summary.early_is,
            summary.reset_is,
          );
    }
