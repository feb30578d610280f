-- How many records were found, after one call more.
use Rattle.std.specs.Prelude.{◌+◌, ◌-◌, ◌^◌, Bool, true, false, ℕ, min, Result, Ok, Err}
use Rattle.mdb_records.specs.declared.ReadFault.{ReadFault}

-- one more where there was one
abbrev pub count_after : Bool → ℕ → ℕ
count_after true before = min (before + 1) (2 ^ 64 - 1)
count_after false before = before

-- and none where it couldn't be read
abbrev pub found_after : Result Bool ReadFault → ℕ → ℕ
found_after (Ok found) before = count_after found before
found_after (Err fault) before = before
