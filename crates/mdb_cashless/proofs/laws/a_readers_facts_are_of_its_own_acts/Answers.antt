-- Acts of others leave a reader's facts and its amounts without a value, so only its own count.
use Rattle.mdb_cashless.proofs.ByProfileKnown.{same_unvalued}
use Rattle.mdb_cashless.proofs.laws.a_readers_facts_are_of_its_own_acts.Goals as goal

pub returns-clause-unvalued : goal.returns-clause-unvalued
returns-clause-unvalued c = same_unvalued
