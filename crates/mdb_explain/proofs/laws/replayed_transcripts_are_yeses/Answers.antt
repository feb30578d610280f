-- The transcript of a replayed input has a run, and `check` says yes to it.
use Rattle.mdb_explain.proofs.ReplayedTranscripts.{have_runs, says_yes}
use Rattle.mdb_explain.proofs.laws.replayed_transcripts_are_yeses.Goals as goal

pub returns-clause-runs : goal.returns-clause-runs
returns-clause-runs c = have_runs

pub returns-clause-yes : goal.returns-clause-yes
returns-clause-yes c scope limit records report answer replayed =
    says_yes scope limit records report replayed
    (c.fronts_of_reached_rows_are_reached.ensures scope) answer
