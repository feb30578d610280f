-- What the credits of a setup table count (MDB/ICP 4.3, coin changer; of a bill, this profile).
use Rattle.std.specs.Prelude.{ℕ, ◌==◌, if◌then◌else◌}

-- what a credit byte counts: FF is that of a token, or of a bill that isn't money, without value
abbrev pub counted : ℕ → ℕ
counted credit = if credit == 255 then 0 else credit
