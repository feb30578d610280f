-- A new listing has listed no pieces.
use Rattle.std.proofs.Common.{length, refl}
use Rattle.mdb_page.proofs.Entries.{starts_empty}
use Rattle.mdb_page.proofs.Ring.{starts_at}
use Rattle.mdb_page.proofs.acts.ActListing.keeping.Goals as goal

pub returns : goal.returns
returns c acts = record {
  stay = refl;
  place = starts_at c.args.first (length acts);
  number = refl;
  entries = starts_empty c.args.first acts;
}
