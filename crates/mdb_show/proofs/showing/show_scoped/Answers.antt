-- The records of a text are read as its records alone.
use Rattle.mdb_show.proofs.Words.{◌<◌, ℕ, List, length, IsNotWhole}
use Rattle.std.proofs.lemmas.Option.{IfSome_then}
use Rattle.mdb_verdict.specs.declared.verdict.TheConstants.{BYTES_MAX}
use Rattle.mdb_show.proofs.showing.show_scoped.Goals as goal

pub returns : goal.returns
returns g c =
    let Part : List ℕ → Type 0 = λ text.
    BYTES_MAX < length text → IsNotWhole c.show_records.result in
    record {
      shows = record {
        shows =
            IfSome_then _ c.records_of-records.ensures.records
            (λ text to_come. c.show_records.ensures.shows _ to_come);
        whole =
            IfSome_then _ {Q = Part} c.records_of-records.ensures.over
            (λ text past over. c.show_records.ensures.reads.over_limit (past over));
      };
    }
