-- A report has what was found of each device and account.
use Rattle.mdb_follow.proofs.Words.{◌∙◌, map, ALL, account_by, cell_in}
use Rattle.mdb_follow.proofs.Told.{reports-are}
use Rattle.mdb_follow.proofs.report.Report.of.Goals as goal

pub returns-clause-has : goal.returns-clause-has
returns-clause-has c =
    rw (c.reported.ensures, c.reported-2.ensures, c.reported-3.ensures, c.reported-4.ensures)
    (rw c.accounts_of.ensures)

pub returns-clause-telling : goal.returns-clause-telling
returns-clause-telling c scope pieces are stand times =
    let devices = reports-are scope.begins pieces c.args.facts.now c.args.silences.now are stand in
    returns-clause-has c ∙ λ i. record {
      rows = c.args.rows;
      devices = devices i;
      untimely = times i;
      accounts = map (account_by (cell_in c.args.cells.now)) ALL;
    }
