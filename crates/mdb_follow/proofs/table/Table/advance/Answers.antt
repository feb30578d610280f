-- An act that doesn't concern the pair, or by which all entries rest, leaves the table as it is.
use Rattle.mdb_follow.proofs.Words.{◌+◌, ◌^◌, arith}
use Rattle.mdb_follow.proofs.Limits.{table-within-weaker}
use Rattle.mdb_follow.proofs.Ways.{table-rests, table-same}
use Rattle.mdb_follow.proofs.table.Table.advance.Goals as goal

pub returns-then-not-concerns-clause-table : goal.returns-then-not-concerns-clause-table
returns-then-not-concerns-clause-table g c begins acts stands table =
    let p = g.P.Pair in
    table-same p.code_of (p.machine begins) c.args.act.now acts c.args.self.now
    (c.if-not-concerns.ensures.still begins) table

pub returns-then-not-concerns-clause-within : goal.returns-then-not-concerns-clause-within
returns-then-not-concerns-clause-within g c limit all =
    table-within-weaker limit (limit + 2 ^ 32) c.args.self.now (omega arith) all

pub returns-then-rests-clause-table : goal.returns-then-rests-clause-table
returns-then-rests-clause-table g c begins acts stands table =
    let p = g.P.Pair in
    table-rests p.code_of (p.machine begins) c.args.act.now acts c.args.self.now
    (c.if-rests.ensures begins) table

pub returns-then-rests-clause-within : goal.returns-then-rests-clause-within
returns-then-rests-clause-within g c limit all =
    table-within-weaker limit (limit + 2 ^ 32) c.args.self.now (omega arith) all
