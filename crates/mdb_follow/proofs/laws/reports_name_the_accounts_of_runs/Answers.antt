-- Each account of a report is found by its name, with the ranges of the runs' sums.
use Rattle.mdb_follow.proofs.OneAnswer.{named-account}
use Rattle.mdb_follow.proofs.laws.reports_name_the_accounts_of_runs.Goals as goal

pub returns : goal.returns
returns c = named-account
