-- A byte that means itself goes on, a comma ends a field, and a line's end ends the record.
use Rattle.mdb_records.proofs.Words.{◌≡◌, ◌<◌, ◌+◌, refl, length, arith, parted}
use Rattle.mdb_records.proofs.PartFacts.{next-after, next_start, none_within, parted-more, within-more, within-push}
use Rattle.mdb_records.proofs.PlainFacts.{none-own, own-front, own-more, reads-field, reads-line}
use Rattle.mdb_records.proofs.plain.plain_record.Goals as goal
use Rattle.mdb_records.proofs.plain.plain_record.Goals.{in-Own, in-Comma+in_ok-add_end-in-Comma}

pub bytes-init : goal.bytes-init
unfolding next_start parted
bytes-init c =
    let sure = c.sure_bytes-end.ensures in
    rw c.clear.ensures.items (
      omega arith,
      sure.bounds,
      own-front c.sure_bytes-end.result c.args.text.now sure.plain,
      (λ later. refl),
      none_within _,
    )

pub returns-in-LineEnd : goal.returns-in-LineEnd
returns-in-LineEnd c =
    let inv = c.bytes.invariant in
    let text = c.args.text.now in
    let ends = c.bytes.ends.items in
    let inside : c.bytes.end < length text = c.bytes-test.true in
    let last = c.in-LineEnd.ensures in record {
      front = (
        omega (arith, inside),
        λ later. rw (c.in_ok-add_end-in-LineEnd.ensures, parted-more 0 ends c.bytes.end text)
            (reads-line text (next_start 0 ends) c.bytes.end _ inv.0 inside last.1 last.0 inv.2
            inv.3 later),
      );
      within = λ count e.
          let same : c.bytes.end + 1 ≡ count = cc e in
          rw (c.in_ok-add_end-in-LineEnd.ensures, ← same)
          (within-push 0 ends c.bytes.end inv.4 inv.0);
    }

pub bytes-preserved : goal.bytes-preserved
bytes-preserved c =
    let inv = c.bytes.invariant in
    let text = c.args.text.now in
    let ends = c.bytes.ends.items in
    let inside : c.bytes.end < length text = c.bytes-test.true in
    elim c.match-meaning_of.branch [
      | in-Own w ↦ rw w.ends-is (
        omega (arith, inv.0),
        omega (arith, inside),
        own-more text (next_start 0 ends) c.bytes.end inv.0 inside w.in-Own.ensures inv.2,
        inv.3,
        within-more ends c.bytes.end (c.bytes.end + 1) inv.4 (omega arith),
      )
      | in-Comma+in_ok-add_end-in-Comma w ↦ rw (
        w.ends-is,
        w.in_ok-add_end-in-Comma.ensures,
        parted-more 0 ends c.bytes.end text,
        next-after 0 ends c.bytes.end,
      ) (
        omega arith,
        omega (arith, inside),
        none-own (c.bytes.end + 1) text,
        reads-field text (next_start 0 ends) c.bytes.end _ inv.0 inside w.in-Comma.ensures inv.2
            inv.3,
        within-push 0 ends c.bytes.end inv.4 inv.0,
      )
    ]
