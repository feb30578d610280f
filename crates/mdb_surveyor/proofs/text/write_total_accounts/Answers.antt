-- The totals of the accounts have their lines, one after the other.
use Rattle.std.proofs.Common.{[], ◌++◌, ap, codes}
use Rattle.std.proofs.KnownBytes.{Appends-trans}
use Rattle.mdb_follow.specs.declared.account_name.TheConstants.AccountName.{ALL}
use Rattle.mdb_surveyor.specs.Totals.{total_of}
use Rattle.mdb_text.specs.Text.{account_line}
use Rattle.mdb_text.proofs.Texts.{all_parts, one_part_more}
use Rattle.mdb_surveyor.proofs.text.write_total_accounts.Goals as goal

pub loop-name-preserved : goal.loop-name-preserved
loop-name-preserved g c =
    one_part_more (λ name. codes "total " ++ account_line name (total_of name c.args.totals.now)) _
    _ _ [] ALL _ _ _ c.loop-name-test.true c.loop-name.invariant
    (ap (λ text. codes "total " ++ text) (ap (account_line _) c.account.ensures))
    (Appends-trans _ _ _ _ _ c.in_ok-write.ensures.bytes c.in_ok-write_account.ensures)

pub returns : goal.returns
returns g c =
    all_parts (λ name. codes "total " ++ account_line name (total_of name c.args.totals.now)) _ _ []
    ALL _ c.loop-name-test.false c.loop-name.invariant
