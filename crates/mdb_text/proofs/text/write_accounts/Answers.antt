-- The accounts have their lines, one after the other.
use Rattle.mdb_text.proofs.Words.{[], account_line, account_of, ap}
use Rattle.mdb_follow.specs.declared.account_name.TheConstants.AccountName.{ALL}
use Rattle.mdb_text.proofs.Texts.{all_parts, one_part_more}
use Rattle.mdb_text.proofs.text.write_accounts.Goals as goal

pub loop-name-preserved : goal.loop-name-preserved
loop-name-preserved g c =
    one_part_more (λ name. account_line name (account_of name c.args.report.now)) _ _ _ [] ALL _
    _ _ c.loop-name-test.true c.loop-name.invariant (ap (account_line _) c.account.ensures)
    c.in_ok-write_account.ensures

pub returns : goal.returns
returns g c =
    all_parts (λ name. account_line name (account_of name c.args.report.now)) _ _ [] ALL
    _ c.loop-name-test.false c.loop-name.invariant
