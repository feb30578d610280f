-- Which levels are told on.
use Rattle.mdb_surveyor.proofs.Unanswered.{unanswered_after}
use Rattle.mdb_surveyor.proofs.laws.parts.what_is_told_is_what_was_said_last.Goals as goal

pub returns-clause-unanswered : goal.returns-clause-unanswered
returns-clause-unanswered c = unanswered_after
