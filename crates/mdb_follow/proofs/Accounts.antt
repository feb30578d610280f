-- The accounts one by one.
use Rattle.mdb_follow.proofs.Words.{◌≡◌, ◌<◌, map, refl, arith, First, SLOTS, Account, AccountName, ALL, account_in, account_slot}
use Rattle.mdb_follow.specs.declared.account_name.AccountName.TheVariants.{Approved, Sold}

-- each account has a slot
pub slot-below : (account : AccountName) → account_slot account < SLOTS
slot-below (Approved First) = omega arith
slot-below (Sold First) = omega arith
slot-below account = omega arith

-- and its place among all
pub listed : (of : AccountName → Account) (account : AccountName)
    → account_in account (map of ALL) ≡ of account
listed of (Approved First) = refl
listed of (Sold First) = refl
listed of account = refl
