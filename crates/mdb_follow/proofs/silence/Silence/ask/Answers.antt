-- An ask past the time to answer counts a silence. One in time, or after that silence, counts none.
use Rattle.mdb_follow.proofs.Words.{refl}
use Rattle.mdb_follow.proofs.Silent.{counted-more, in-time, too-late}
use Rattle.mdb_follow.proofs.silence.Silence.ask.Goals as goal

pub returns-then-end-at-clause-stands : goal.returns-then-end-at-clause-stands
returns-then-end-at-clause-stands c lists on =
    too-late c.args.self.now _ lists _ c.in-Until.end c.in-Until.is c.if-end-at.true refl refl on

pub returns-else-end-at-clause-stands : goal.returns-else-end-at-clause-stands
returns-else-end-at-clause-stands c lists on =
    in-time c.args.self.now lists _ c.in-Until.end c.in-Until.is c.if-end-at.false on

pub returns-in-Counted-clause-stands : goal.returns-in-Counted-clause-stands
returns-in-Counted-clause-stands c lists on =
    counted-more c.args.self.now lists _ c.in-Counted.is on
