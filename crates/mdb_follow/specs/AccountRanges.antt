-- The ranges of an account.
use Rattle.std.specs.Prelude.{pos, ◌-ℤ◌}
use Rattle.mdb_follow.specs.declared.account.Account.{Account}
use Rattle.mdb_follow.specs.Sums.{AccountSums}
use Rattle.mdb_follow.specs.Ranges.{IsRange}

-- the ranges of an account's sums: the device's, the controller's, and the device's less the
-- controller's
pub record IsAccount {S : Type 0} (Kind : S → Type 0) (account : S → AccountSums)
    (ranges : Account) : Type 0 where
  pub device : IsRange Kind (λ sums. pos (account sums).device) ranges.device
  pub controller : IsRange Kind (λ sums. pos (account sums).controller) ranges.controller
  pub difference : IsRange Kind
      (λ sums. pos (account sums).device -ℤ pos (account sums).controller) ranges.difference
