-- A reply that isn't a reader's is the same in each reading.
use Rattle.mdb_bus.proofs.Words.{ap, what_counts}
use Rattle.mdb_bus.proofs.FormatLaws.{same_plain}
use Rattle.mdb_bus.proofs.Promises.{one_reply}
use Rattle.mdb_bus.proofs.format.agrees.Goals as goal

pub returns-in_default : goal.returns-in_default
returns-in_default c = record {
  alike = λ _ other is. ap what_counts (same_plain (one_reply c.block_has_one_reply.ensures)
      _ _ _ _ other c.requires.extended c.in_default.not-Reader c.requires.some is);
  two = λ same. absurd (cc same);
}
