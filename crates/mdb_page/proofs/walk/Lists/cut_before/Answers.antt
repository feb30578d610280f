-- A tail is cut before a break, and no other act.
use Rattle.std.proofs.Common.{arith, refl}
use Rattle.mdb_page.proofs.Turns.{begun_at_break, begun_by, no_break}
use Rattle.mdb_page.proofs.walk.Lists.cut_before.Goals as goal

pub returns-in-Break-clause-begun : goal.returns-in-Break-clause-begun
returns-in-Break-clause-begun c stay before pieces longer at has turn =
    begun_at_break has turn (rw c.in-Break.is tt)
    (c.cut.ensures stay before pieces has (omega (arith, c.requires))) refl refl

pub returns-in_default-clause-begun : goal.returns-in_default-clause-begun
returns-in_default-clause-begun c stay before pieces longer at has turn =
    begun_by has turn (no_break c.args.act.now c.in_default.not-Break)
