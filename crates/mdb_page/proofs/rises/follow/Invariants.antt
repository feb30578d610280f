-- The entries of the lines so far are listed.
use Rattle.mdb_page.proofs.Words.{IsNear, ROWS_MAX, length, rows_of, scope_of, ◌*◌, ◌≤◌}
use Rattle.mdb_page.proofs.Rising.{Follows}
use Rattle.mdb_page.proofs.rises.follow.Given as goal

abbrev pub invariant-loop-line : goal.invariant-loop-line
invariant-loop-line l = record {
  left : length l.rest.now ≤ length l.fn.rest.now;
  within : rows_of l.follower ≤ ROWS_MAX;
  few : l.listing.count ≤ 14 * rows_of l.follower;
  near : IsNear l.listing.last;
  follows : Follows (scope_of l.fn.follower) l.fn.rest.now l.rest.now l.follower
      l.fn.listing.skip l.fn.rises l.rises l.listing;
}

abbrev pub decreases-loop-line : goal.decreases-loop-line
decreases-loop-line l = length l.rest.now
