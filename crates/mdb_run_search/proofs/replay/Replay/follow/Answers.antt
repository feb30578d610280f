-- Tracks and silences stay within the limits of one row more.
use Rattle.mdb_run_search.proofs.Words.{arith}
use Rattle.mdb_run_search.proofs.Tracked.{tracks-within-next, tracks-within-weaker}
use Rattle.mdb_run_search.proofs.replay.Replay.follow.Goals as goal

pub lead-requires : goal.lead-requires
lead-requires c =
    tracks-within-weaker c.args.self.now.tracks (omega (arith, c.args.self.now.few))
    (c.args.self.now.within c.requires.going)

pub invariant_of-self-clause-within : goal.invariant_of-self-clause-within
invariant_of-self-clause-within c going =
    tracks-within-next c.args.self.now.rows c.args.self.now.tracks c.args.self.now.act
    c.args.choice c.lead.new.self (c.args.self.now.within going) c.in-Ok.ensures.led
