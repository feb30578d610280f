-- Rows out of their time, where a profile counts them.
use Rattle.std.specs.Prelude.{Option, Some, None}
use Rattle.mdb_bus.specs.declared.fault.Blame.{Blame}
use Rattle.mdb_bus.specs.declared.untimely.Untimely.{Untimely}
use Rattle.mdb_bus.specs.ExtendedTimes.{with_sender}

-- what is counted with one row more, if it is out of its time
abbrev pub counted_with : Option Blame → Option Untimely → Option Untimely
counted_with sender None = None
counted_with sender (Some counts) = Some (with_sender sender counts)
