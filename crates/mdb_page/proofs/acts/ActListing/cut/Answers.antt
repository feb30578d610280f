-- A tail is listed, or has no place.
use Rattle.mdb_page.proofs.Entries.{put_at, put_not}
use Rattle.mdb_page.proofs.Turns.{tail_is_none}
use Rattle.mdb_page.proofs.acts.ActListing.cut.Goals as goal

pub returns-in-Some : goal.returns-in-Some
returns-in-Some c stay before earlier tail has is few are =
    put_at tail has few c.in-Some.place c.put.new.place c.put_rows.new.place are
    c.in-Some.ensures.moved c.in-Some.ensures.room (rw (tail_is_none tail is) c.put.ensures)
    c.put_rows.ensures

pub returns-in_default : goal.returns-in_default
returns-in_default c stay before earlier tail has is few are =
    put_not tail has few c.in_default.ensures.moved
