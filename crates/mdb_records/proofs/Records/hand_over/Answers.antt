-- csv takes over the source that was there, and then no field stands in a line.
use Rattle.mdb_records.proofs.PartFacts.{csv-within}
use Rattle.mdb_records.proofs.Records.hand_over.Goals as goal

pub invariant_of-self : goal.invariant_of-self
invariant_of-self g c = record {
  set_up = λ going.
      c.handed_over.ensures.set_up
      (rw c.replace-stage.ensures.value (c.args.self.now.set_up going));
  there = c.handed_over.ensures.there (rw c.replace-stage.ensures.value c.args.self.now.there);
  within = csv-within _ _ (c.handed_over.ensures.csv
      (rw c.replace-stage.ensures.value c.args.self.now.there));
}
