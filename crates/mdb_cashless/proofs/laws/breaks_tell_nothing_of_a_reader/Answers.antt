-- A break brings no config message, and reports no amount.
use Rattle.mdb_cashless.proofs.ByProfileKnown.{none_told}
use Rattle.mdb_cashless.proofs.laws.breaks_tell_nothing_of_a_reader.Goals as goal

pub returns-clause-unvalued : goal.returns-clause-unvalued
returns-clause-unvalued c = none_told
