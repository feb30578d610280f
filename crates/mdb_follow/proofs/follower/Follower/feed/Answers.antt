-- A row that was refused is refused with the offence that is noted.
use Rattle.mdb_follow.proofs.follower.Follower.feed.Goals as goal

pub returns-in-None-clause-refused : goal.returns-in-None-clause-refused
returns-in-None-clause-refused c = simp c.noted.ensures at c.in-None.ensures.refused
