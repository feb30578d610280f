-- A few guesses of what isn't known are enough, and each leads to one of these ways.
use Rattle.mdb_cashless.proofs.MidSession.{acked, replied, sent, settled_way}
use Rattle.mdb_cashless.proofs.laws.in_mid_session_a_reader_has_these_ways_alone.Goals as goal

pub returns-clause-sent : goal.returns-clause-sent
returns-clause-sent c = sent

pub returns-clause-acked : goal.returns-clause-acked
returns-clause-acked c = acked

pub returns-clause-replied : goal.returns-clause-replied
returns-clause-replied c = replied

pub returns-clause-settled : goal.returns-clause-settled
returns-clause-settled c = settled_way
