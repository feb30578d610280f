-- The line of rows out of their time is written in two parts.
use Rattle.mdb_text.proofs.Texts.{then_written, untimely_first, untimely_parts, untimely_second}
use Rattle.mdb_text.proofs.text.write_untimely_counts.Goals as goal

pub returns : goal.returns
returns g c =
    let counts = c.args.counts.now in
    rw (← untimely_parts c.args.word.now counts) (then_written c.write-2.result _ _ _
    (untimely_first c.args.word.now counts) (untimely_second counts) c.in_ok-write.ensures.bytes
    c.write-2.ensures.bytes)
