-- The entries of the accounts so far are listed, and so those of all.
use Rattle.mdb_page.proofs.Words.{ALL, ap, arith, flat_map, get_or, refl, rises_in, take, ◌++◌, ◌∙◌}
use Rattle.mdb_follow.specs.declared.account_name.AccountName.TheVariants.{CoinsIn}
use Rattle.mdb_page.proofs.RiseLists.{all_names, one_name_more}
use Rattle.mdb_page.proofs.rises.RiseListing.take.Goals as goal

pub loop-name-preserved : goal.loop-name-preserved
loop-name-preserved c =
    let before = c.loop-name.invariant in
    let report = c.args.report.now in
    record {
      last = c.take_account.ensures.last ∙ before.last;
      count = omega (arith, c.take_account.ensures.count, before.count);
      listed = λ skip all first has.
          one_name_more all (rises_in c.args.self.now.last report) ALL c.loop-name.name-index
          CoinsIn _
          c.loop-name-test.true
          (ap (λ last. rises_in last report (get_or ALL c.loop-name.name-index CoinsIn))
          before.last)
          (c.take_account.ensures.listed skip
          (all ++ flat_map (rises_in c.args.self.now.last report)
          (take c.loop-name.name-index ALL)) first (before.listed skip all first has));
    }

pub returns-clause-listed : goal.returns-clause-listed
returns-clause-listed c skip all before has =
    all_names all (rises_in c.args.self.now.last c.args.report.now) ALL c.loop-name.name-index
    c.loop-name-test.false refl refl
    (c.loop-name.invariant.listed skip all before has)
