-- A range is listed where its ends rose differently.
use Rattle.std.proofs.Common.{◌∙◌, sym}
use Rattle.mdb_page.proofs.RiseLists.{lists_no_range, lists_range, stays_so}
use Rattle.mdb_page.proofs.rises.RiseListing.take_range.Goals as goal

pub returns-then-not-is_one-clause-listed : goal.returns-then-not-is_one-clause-listed
returns-then-not-is_one-clause-listed c skip all before has =
    lists_range c.args.row c.args.account c.args.side c.args.before c.args.after
    c.risen-risen.result c.risen-risen.ensures all (stays_so c.args.before c.args.after
    c.risen-risen.result c.requires.before c.requires.after c.risen-risen.ensures)
    (sym c.is_one.ensures ∙ c.if-not-is_one.true) (c.put.ensures.listed skip all before has)

pub returns-else-not-is_one-clause-listed : goal.returns-else-not-is_one-clause-listed
returns-else-not-is_one-clause-listed c skip all before has =
    lists_no_range c.args.row c.args.account c.args.side c.args.before c.args.after
    c.risen-risen.result c.risen-risen.ensures all (sym c.is_one.ensures
    ∙ c.if-not-is_one.false) has
