-- The first reading gives a reply, so there is one to compare the others with.
use Rattle.mdb_bus.proofs.FormatLaws.{some_of}
use Rattle.mdb_bus.proofs.format.open_reading.Goals as goal

pub are_alike-requires : goal.are_alike-requires
are_alike-requires c =
    let found = c.in_ok-reading.ensures.found in
    some_of c.args.command.now c.args.bytes.now c.in-Ok.reply found.0 c.in-Ok.is
    (c.reply_of.ensures.only found.0 found.1.1 found.1.0 found.1.2) found.1.1 found.1.2 found.2
