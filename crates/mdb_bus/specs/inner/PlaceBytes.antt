-- A place whose phase is inside a block of the controller has bytes of one.
use Rattle.std.specs.Prelude.{ℕ, List, length}
use Rattle.std.specs.Coded.{Coded-set, Unit-prop, coded_ℕ, le_prop}
use Rattle.mdb_msgs.specs.declared.need.Need.{Need}
use Rattle.mdb_msgs.specs.declared.need.Need.TheVariants.{Exactly, More, Foreign, Outside}
use Rattle.mdb_msgs.specs.Needs.{needed}
use Rattle.mdb_msgs.specs.OpenBlocks.{IsOpen, IsShort}
use Rattle.mdb_bus.specs.declared.phase.Phase.{Phase}
use Rattle.mdb_bus.specs.declared.phase.Phase.TheVariants as phase

-- inside a block of the controller the bytes so far leave a command open
abbrev pub HasBegun : Phase → List ℕ → Type 0
HasBegun phase.InAsk bytes = IsOpen bytes
HasBegun _ bytes = Unit {0}

-- that has one proof at most
IsShort-prop : (need : Need) (count : ℕ) → IsProp (IsShort need count)
IsShort-prop (Exactly n) count = le_prop
IsShort-prop More count = Coded-set coded_ℕ count 1
IsShort-prop Foreign count = λ short. absurd short
IsShort-prop Outside count = λ short. absurd short

pub HasBegun-prop : (here : Phase) (bytes : List ℕ) → IsProp (HasBegun here bytes)
HasBegun-prop phase.Quiet bytes = Unit-prop
HasBegun-prop phase.InAsk bytes = IsShort-prop (needed bytes) (length bytes)
HasBegun-prop phase.Asked bytes = Unit-prop
HasBegun-prop phase.InReply bytes = Unit-prop
HasBegun-prop phase.Replied bytes = Unit-prop
HasBegun-prop phase.Returned bytes = Unit-prop
HasBegun-prop (phase.InRepeat said) bytes = Unit-prop
HasBegun-prop phase.InForeign bytes = Unit-prop
