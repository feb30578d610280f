-- By the law of reports, the account's difference has the range of all runs.
use Rattle.std.proofs.Common.{subst, sym}
use Rattle.mdb_follow.specs.AccountNames.{sums_of}
use Rattle.mdb_follow.specs.Ends.{side_value}
use Rattle.mdb_follow.specs.Follower.{scope_of}
use Rattle.mdb_follow.specs.Ranges.{IsRange}
use Rattle.mdb_follow.specs.Runs.{AllSums, Run}
use Rattle.mdb_follow.specs.declared.account.Account.{Account}
use Rattle.mdb_follow.specs.declared.goal.AccountSide.TheVariants.{Difference}
use Rattle.mdb_examples.proofs.live.difference_of.Goals as goal

pub returns-in-Ok-clause-range : goal.returns-in-Ok-clause-range
returns-in-Ok-clause-range c = λ rows stands.
    let scope = scope_of c.args.follower.now in
    let is = c.in-Ok.ensures.report rows stands in
    let account =
    c.reports_name_the_accounts_of_runs.ensures scope rows c.in-Ok.report is c.args.name in
    subst (λ (ranges : Account). IsRange (Run scope rows)
    (λ (sums : AllSums). side_value Difference (sums_of c.args.name sums)) ranges.difference)
    (sym c.account.ensures) account.difference
