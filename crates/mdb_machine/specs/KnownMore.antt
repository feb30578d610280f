-- What is known of what counts, after one act more.
use Rattle.std.specs.Prelude.{Option, Some, None}
use Rattle.mdb_machine.specs.Known.{Known, Is}

-- what is known after one act more, by what that tells, if it tells something
abbrev pub known_more : {X : Type 0} → Option X → Known X → Known X
known_more (Some x) known = Is x
known_more None known = known
