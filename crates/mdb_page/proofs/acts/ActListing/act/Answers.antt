-- An act is listed, or has no place.
use Rattle.mdb_bus.specs.ActLists.{Whole}
use Rattle.mdb_page.proofs.Entries.{put_at, put_not}
use Rattle.mdb_page.proofs.acts.ActListing.act.Goals as goal

pub returns-in-Some : goal.returns-in-Some
returns-in-Some c stay before earlier events has few are =
    put_at (Whole c.args.act.now events) has few c.in-Some.place c.put_act.new.place
    c.put_rows.new.place are c.in-Some.ensures.moved c.in-Some.ensures.room c.put_act.ensures
    c.put_rows.ensures

pub returns-in_default : goal.returns-in_default
returns-in_default c stay before earlier events has few are =
    put_not (Whole c.args.act.now events) has few c.in_default.ensures.moved
