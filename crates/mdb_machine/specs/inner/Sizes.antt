-- How much room values take. This serves private functions.
use Rattle.std.specs.Prelude.{◌≤◌}
use Rattle.std.specs.Align.{type_align}
use Rattle.std.specs.Borrow.{RattleType}
use Rattle.std.specs.Mem.{type_size}

-- a value of a type takes few bytes
abbrev pub TakesFewBytes : RattleType → Type 0
TakesFewBytes R = (type_size R ≤ 65536) × (type_align R ≤ 65536)
