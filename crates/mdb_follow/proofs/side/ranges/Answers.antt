-- The ranges of a side are those of its table.
use Rattle.mdb_follow.proofs.side.ranges.Goals as goal

pub returns-clause-exact : goal.returns-clause-exact
returns-clause-exact c p begins acts on = p.ranges-2.ensures.exact begins acts on.table

pub returns-clause-within : goal.returns-clause-within
returns-clause-within c p limit fits = p.ranges-2.ensures.within limit fits.ends
