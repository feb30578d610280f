-- What the accounts of a pair have come to, in smallest units of money (this profile).
use Rattle.std.specs.Prelude.{ℕ, ◌+◌, slice_index}
use Rattle.mdb_machine.specs.declared.gains.Gains.{Gains}

-- what an account has come to: as the device has it, and as the controller has it
pub record AccountSums : Type 0 where
  pub device : ℕ
  pub controller : ℕ

-- what the accounts of a pair have come to, each by its slot
abbrev pub Sums : Type 0
Sums = ℕ → AccountSums

-- nothing yet
abbrev pub no_sums : Sums
no_sums slot = record { device = 0; controller = 0 }

-- the sums with the gains of a step
abbrev pub added : Sums → Gains → Sums
added sums gains slot = record {
  device = (sums slot).device + slice_index gains.device slot;
  controller = (sums slot).controller + slice_index gains.controller slot;
}
