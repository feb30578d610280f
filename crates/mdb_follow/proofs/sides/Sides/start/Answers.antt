-- The sides of all devices begin within 0 and stand for no act.
use Rattle.mdb_follow.proofs.Words.{arith, refl, First, Second}
use Rattle.mdb_follow.proofs.ByDevice.{each}
use Rattle.mdb_follow.proofs.OwnKnown.{none_unvalued}
use Rattle.mdb_follow.proofs.sides.Sides.start.Goals as goal

pub returns-clause-stands : goal.returns-clause-stands
returns-clause-stands c = each _ c.start.ensures.stands c.start-2.ensures.stands
    c.start-3.ensures.stands c.start-4.ensures.stands

pub returns-clause-within : goal.returns-clause-within
returns-clause-within c = each _ c.start.ensures.within c.start-2.ensures.within
    c.start-3.ensures.within c.start-4.ensures.within

pub start-requires-3 : goal.start-requires-3
start-requires-3 c = (omega arith, (refl, none_unvalued First c.args.begins.now))

pub start-requires-4 : goal.start-requires-4
start-requires-4 c = (omega arith, (refl, none_unvalued Second c.args.begins.now))
