-- Before an offence the rows are reached, so only one row offends, and it does so once.
use Rattle.mdb_follow.proofs.Cuts.{one-of-rows}
use Rattle.mdb_follow.proofs.laws.lists_have_one_offence.Goals as goal

pub returns : goal.returns
returns c scope = one-of-rows scope (c.fronts_of_reached_rows_are_reached.ensures scope)
    (c.rows_have_one_offence.ensures scope)
