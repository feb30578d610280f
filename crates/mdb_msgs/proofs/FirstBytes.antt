-- The table of what first bytes tell: each entry is what the first byte alone tells.
use Rattle.mdb_msgs.proofs.Words.{◌≡◌, cases_eq, nat_tests, common_steps, Device, Need, More, Exactly, Foreign, Outside, device_at, need, need_for, ◌≢◌, ℕ, zero, suc, ◌+◌, ◌<◌, ◌/◌, ◌%◌, [], Bool, true, ◌&&◌, nat_eq, get_or, refl, Option, Some, None, inl, inr, arith}
use Rattle.mdb_msgs.specs.declared.command.Device.TheVariants.{Changer}
use Rattle.mdb_msgs.specs.declared.first_needs.TheConstants.{FIRST}

-- a number for each need, by which needs are compared
code : Need → ℕ
code More = 0
code Foreign = 1
code Outside = 2
code (Exactly n) = n + 3

same_code : (one other : Need) → code one ≡ code other → one ≡ other
unfolding code
same_code More More h = refl
same_code one other h = grind arith

-- two functions agree below n
agree_below : (ℕ → Need) → (ℕ → Need) → ℕ → Bool
agree_below f g zero = true
agree_below f g (suc n) = nat_eq (code (f n)) (code (g n)) && agree_below f g n

both_of : (x y : ℕ) (rest : Bool) → (nat_eq x y && rest) ≡ true → (x ≡ y) × (rest ≡ true)
both_of x y rest h = grind (arith, nat_tests)

agree_at : (f g : ℕ → Need) (n : ℕ) → agree_below f g n ≡ true → (b : ℕ) → b < n → f b ≡ g b
unfolding agree_below
agree_at f g zero h b lt = absurd (omega arith)
agree_at f g (suc n) h b lt =
    let both = both_of (code (f n)) (code (g n)) (agree_below f g n) h in
    elim (cases_eq b n) [
      | inl same ↦ rw same (same_code (f n) (g n) both.0)
      | inr other ↦
          agree_at f g n both.1 b (omega arith)
    ]

pub first_at : (a k c : ℕ) → a ≡ c / 8 → k ≡ c % 8 → c < 256
    → get_or (get_or FIRST a []) k More ≡ need c None
unfolding agree_below code
first_at a k c address command byte = rw (address, command)
    (agree_at (λ n. get_or (get_or FIRST (n / 8) []) (n % 8) More) (λ n. need n None) 256 refl c
    byte)

-- what the first byte tells of its own, the second leaves so
by_device : (device : Option Device) (first : ℕ) (second : Option ℕ) (told : Need)
    → told ≡ need_for device first None → told ≢ More → need_for device first second ≡ told
by_device (Some Changer) first second told is other = grind (arith, common_steps)
by_device device first second told is other = grind (arith, common_steps)

pub stays : (first : ℕ) (second : Option ℕ) (told : Need) → told ≡ need first None → told ≢ More
    → need first second ≡ told
stays first = by_device (device_at first) first
