-- Fronts of reached rows are reached, and reports name the accounts of runs.
use Rattle.mdb_verdict.proofs.Headline.{headline_of}
use Rattle.mdb_verdict.proofs.laws.verdicts_say_the_headline.Goals as goal

pub returns : goal.returns
returns c scope = headline_of scope (c.fronts_of_reached_rows_are_reached.ensures scope)
    (c.reports_name_the_accounts_of_runs.ensures scope)
