-- A list is cut: an open tail is listed, where there is one.
use Rattle.std.proofs.Common.{arith}
use Rattle.mdb_page.proofs.Turns.{no_tail, tail_of}
use Rattle.mdb_page.proofs.walk.Lists.cut.Goals as goal

pub returns-then-rows : goal.returns-then-rows
returns-then-rows c stay before pieces has few =
    let tail = tail_of pieces has c.if-rows.true in
    rw tail.parts (c.cut.ensures stay before tail.earlier tail.tail tail.listed tail.is
    (omega (arith, tail.few, tail.are.from, few, c.if-rows.true)) tail.are)

pub returns-else-rows : goal.returns-else-rows
returns-else-rows c stay before pieces has few = no_tail pieces has c.if-rows.false
