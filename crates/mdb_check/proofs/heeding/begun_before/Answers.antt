-- The last block begins at the last row that begins one.
use Rattle.std.proofs.Common.{Some, None, arith, ap, get_or, sym, ◌+◌, ◌-◌, ◌∙◌, ◌≡◌, ◌<◌, length}
use Rattle.mdb_check.specs.Unjudged.{begins_block}
use Rattle.mdb_check.proofs.Following.{begun_more}
use Rattle.mdb_check.proofs.heeding.begun_before.Goals as goal

pub returns-in-Some : goal.returns-in-Some
returns-in-Some c earlier begun =
    let rows = c.args.rows.now in
    let i = c.loop-left.left - 1 in
    let row = c.index-rows-left.result in
    let within : i < length rows =
    omega (arith, c.requires, c.loop-left-test.true, c.loop-left.invariant.low) in
    let same : i + 1 ≡ c.loop-left.left = omega (arith, c.loop-left-test.true) in
    let own : Some c.in-Some.byte ≡ begins_block (get_or rows i row) =
    sym c.in-Some.is ∙ c.begins_block.ensures ∙ ap begins_block c.index-rows-left.is in
    sym (c.loop-left.invariant.same earlier
    ∙ rw same at (begun_more earlier rows i row (Some c.in-Some.byte) own within))

pub loop-left-preserved : goal.loop-left-preserved
loop-left-preserved c =
    let rows = c.args.rows.now in
    let i = c.loop-left.left - 1 in
    let row = c.index-rows-left.result in
    let within : i < length rows =
    omega (arith, c.requires, c.loop-left-test.true, c.loop-left.invariant.low) in
    let same : i + 1 ≡ c.loop-left.left = omega (arith, c.loop-left-test.true) in
    let own : None ≡ begins_block (get_or rows i row) =
    sym c.in_default.is ∙ c.begins_block.ensures ∙ ap begins_block c.index-rows-left.is in
    record {
      low = omega (arith, c.loop-left.invariant.low);
      same = λ earlier. c.loop-left.invariant.same earlier
          ∙ rw same at (begun_more earlier rows i row None own within);
    }
