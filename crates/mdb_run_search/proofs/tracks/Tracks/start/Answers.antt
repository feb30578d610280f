-- The track of each device begins with the way through no act.
use Rattle.mdb_run_search.proofs.Words.{First, Second, PowerOn, each}
use Rattle.mdb_follow.proofs.OwnKnown.{none_unvalued}
use Rattle.mdb_run_search.proofs.tracks.Tracks.start.Goals as goal

pub returns-clause-stands : goal.returns-clause-stands
returns-clause-stands c =
    each _ c.start.ensures.stands c.start-2.ensures.stands c.start-3.ensures.stands
    c.start-4.ensures.stands

pub returns-clause-within : goal.returns-clause-within
returns-clause-within c =
    each _ c.start.ensures.within c.start-2.ensures.within c.start-3.ensures.within
    c.start-4.ensures.within

pub start-requires-3 : goal.start-requires-3
start-requires-3 c = none_unvalued First (PowerOn c.args.profile)

pub start-requires-4 : goal.start-requires-4
start-requires-4 c = none_unvalued Second (PowerOn c.args.profile)
