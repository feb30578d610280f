-- The ends of ranges that are near rise by their difference.
use Rattle.mdb_page.proofs.RiseLists.{rises_so}
use Rattle.mdb_page.proofs.rises.risen.Goals as goal

pub returns : goal.returns
returns c = rises_so c.args.before c.args.after c.requires.before c.requires.after
