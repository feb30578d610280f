-- A field starts after the comma of the one before, and the first one at the start of the line.
use Rattle.mdb_records.proofs.Words.{◌≡◌, ◌<◌, refl, arith, start_at}
use Rattle.mdb_records.proofs.PartFacts.{none-at, part-at, start-after}
use Rattle.mdb_records.proofs.record.part.Goals as goal
use Rattle.mdb_records.proofs.record.part.Goals.{else-place-eq0, then-place-eq0}

pub returns-then-place-ends : goal.returns-then-place-ends
returns-then-place-ends c =
    none-at 0 c.args.ends.now c.args.text.now c.args.place (omega (arith, c.if-place-ends.true))

pub returns : goal.returns
returns c =
    let first : c.if-place-eq0.start ≡ start_at 0 c.args.ends.now c.args.place =
    elim c.if-place-eq0.branch [
      | then-place-eq0 w ↦ rw (w.start-is, w.if-place-eq0.true) refl
      | else-place-eq0 w ↦
          let some : 0 < c.args.place = omega (arith, w.if-place-eq0.false) in
          rw (w.start-is, start-after c.args.ends.now c.args.place some) refl
    ] in
    rw first (part-at 0 c.args.ends.now c.args.text.now c.args.place c.if-place-ends.false)
