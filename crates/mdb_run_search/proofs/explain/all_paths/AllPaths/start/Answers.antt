-- The paths of each device begin with the ways through no act.
use Rattle.mdb_run_search.proofs.Words.{each}
use Rattle.mdb_run_search.proofs.explain.all_paths.AllPaths.start.Goals as goal

pub returns-clause-stands : goal.returns-clause-stands
returns-clause-stands c aim =
    each _ (c.in_ok-changer.ensures.stands _ _) (c.in_ok-bill.ensures.stands _ _)
    (c.in_ok-first_reader.ensures.stands _ _) (c.in_ok-second_reader.ensures.stands _ _)

pub returns-clause-within : goal.returns-clause-within
returns-clause-within c =
    each _ (c.in_ok-changer.ensures.within _) (c.in_ok-bill.ensures.within _)
    (c.in_ok-first_reader.ensures.within _) (c.in_ok-second_reader.ensures.within _)
