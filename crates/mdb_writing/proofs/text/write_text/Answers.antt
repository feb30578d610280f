-- What a write takes leaves the rest and joins what was taken. An interrupted one takes nothing.
use Rattle.std.proofs.Common.{ap, sym, ◌∙◌, ◌≡◌, ◌++◌, ◌-◌, drop, length, take}
use Rattle.std.proofs.KnownBytes.{Appends-kept, Appends-trans}
use Rattle.mdb_writing.proofs.Outputs.{taken_more}
use Rattle.mdb_writing.proofs.text.write_text.Goals as goal
use Rattle.mdb_writing.proofs.text.write_text.Goals.{in-Ok, in-Err+else-ne}

pub loop-preserved : goal.loop-preserved
loop-preserved g c =
    let (done, parts, taken) = c.loop.invariant in
    let held = g.W.Write.contents in
    let rest = c.loop.rest.now in
    elim c.match-write.branch [
      | in-Ok w ↦
          let n = w.in-Ok.count in
          let now : c.match-write.rest.now ≡ take (length rest - n) (drop n rest) =
          ap (λ r. r.now) w.rest-is in (
            done ++ take n rest,
            taken_more c.args.text.now done rest c.match-write.rest.now n parts now,
            Appends-trans _ _ _ done (take n rest) taken w.in-Ok.ensures.bytes,
          )
      | in-Err+else-ne w ↦ (
        done,
        parts ∙ ap (λ r. done ++ r.now) (sym w.rest-is),
        Appends-kept _ _ _ done taken w.in-Err.ensures.bytes,
      )
    ]
