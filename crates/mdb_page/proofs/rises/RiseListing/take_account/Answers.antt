-- Both sides of an account are listed.
use Rattle.mdb_page.proofs.Words.{refl, rise_of, ◌++◌}
use Rattle.mdb_page.proofs.RiseLists.{lists_account}
use Rattle.mdb_page.proofs.rises.RiseListing.take_account.Goals as goal

pub returns-clause-listed : goal.returns-clause-listed
returns-clause-listed c skip all before has =
    let was = c.account-before.result in
    let is = c.account-after.result in
    lists_account all c.args.report.now.rows c.place-account.result c.args.self.now.last
    c.args.report.now c.args.name was is c.account-before.ensures c.account-after.ensures refl
    c.place-account.ensures.place
    (c.take_range-2.ensures.listed skip
    (all ++ rise_of c.args.report.now.rows c.place-account.result 0 was.device is.device) before
    (c.take_range.ensures.listed skip all before has))
