-- The tables of digits: each entry by its rule.
use Rattle.mdb_words.proofs.Words.{◌≡◌, ℕ, zero, suc, ◌+◌, ◌-◌, ◌*◌, ◌/◌, ◌%◌, ◌^◌, ◌<◌, ◌≤◌, List, [], Bool, true, ◌&&◌, nat_eq, nat_lt, cond, get_or, refl, inl, inr, arith, cases_eq, nat_tests, digit_value, IsCount}
use Rattle.mdb_words.specs.declared.tables.TheConstants.{DECIMAL, HEX, POWERS}

-- a digit's entry, where its value is below the base, else an entry for none
abbrev entry_of : ℕ → ℕ → ℕ → ℕ → ℕ
entry_of base value entry none = cond (nat_lt value base) entry none

-- two functions agree below n
agree_below : (ℕ → ℕ) → (ℕ → ℕ) → ℕ → Bool
agree_below f g zero = true
agree_below f g (suc n) = nat_eq (f n) (g n) && agree_below f g n

both_of : (x y : ℕ) (rest : Bool) → (nat_eq x y && rest) ≡ true → (x ≡ y) × (rest ≡ true)
both_of x y rest h = grind (arith, nat_tests)

agree_at : (f g : ℕ → ℕ) (n : ℕ) → agree_below f g n ≡ true → (b : ℕ) → b < n → f b ≡ g b
unfolding agree_below
agree_at f g zero h b lt = absurd (omega arith)
agree_at f g (suc n) h b lt =
    let both = both_of (f n) (g n) (agree_below f g n) h in
    elim (cases_eq b n)
    [ inl same ↦ rw same both.0 | inr other ↦ agree_at f g n both.1 b (omega arith) ]

-- the entries by their place and byte, numbered through

table_at : List (List ℕ) → ℕ → ℕ
table_at table n = get_or (get_or table (n / 256) []) (n % 256) 0

rule_at : (base none n : ℕ) → ℕ
rule_at base none n =
    entry_of base (digit_value (n % 256)) (digit_value (n % 256) * base ^ (n / 256)) none

count_from : (base none place byte entry : ℕ)
    → entry ≡ entry_of base (digit_value byte) (digit_value byte * base ^ place) none
    → IsCount base none place byte entry
count_from base none place byte entry is =
    record { digit = λ h. grind (arith, nat_tests); other = λ h. grind (arith, nat_tests) }

entry_at : (table : List (List ℕ)) (base none places : ℕ)
    → agree_below (table_at table) (rule_at base none) (places * 256) ≡ true → (place i c : ℕ)
    → place < places → i ≡ c → c < 256
    → get_or (get_or table place []) i 0
    ≡ entry_of base (digit_value c) (digit_value c * base ^ place) none
unfolding table_at rule_at
entry_at table base none places agree place i c few is byte =
    let same =
    agree_at (table_at table) (rule_at base none) (places * 256) agree (place * 256 + c)
    (omega arith) in
    let at : (place * 256 + c) / 256 ≡ place = omega arith in
    let left : (place * 256 + c) % 256 ≡ c = omega arith in
    cc

most_at : (table : List (List ℕ)) (most places : ℕ)
    → agree_below (λ n. table_at table n - most) (λ n. 0) (places * 256) ≡ true → (place i c : ℕ)
    → place < places → i ≡ c → c < 256 → get_or (get_or table place []) i 0 ≤ most
unfolding table_at
most_at table most places agree place i c few is byte =
    let none =
    agree_at (λ n. table_at table n - most) (λ n. 0) (places * 256) agree (place * 256 + c)
    (omega arith) in
    let at : (place * 256 + c) / 256 ≡ place = omega arith in
    let left : (place * 256 + c) % 256 ≡ i = omega arith in
    let same : get_or (get_or table ((place * 256 + c) / 256) []) ((place * 256 + c) % 256) 0
    ≡ get_or (get_or table place []) i 0 =
    cc in
    omega (arith, none, same)

pub decimal_at : (place i c : ℕ) → place < 8 → i ≡ c → c < 256
    → IsCount 10 100000000 place c (get_or (get_or DECIMAL place []) i 0)
unfolding agree_below table_at rule_at
decimal_at place i c few is byte =
    count_from 10 100000000 place c _ (entry_at DECIMAL 10 100000000 8 refl place i c few is byte)

pub decimal_most : (place i c : ℕ) → place < 8 → i ≡ c → c < 256
    → get_or (get_or DECIMAL place []) i 0 ≤ 100000000
unfolding agree_below table_at
decimal_most place i c few is byte = most_at DECIMAL 100000000 8 refl place i c few is byte

pub hex_at : (place i c : ℕ) → place < 3 → i ≡ c → c < 256
    → IsCount 16 512 place c (get_or (get_or HEX place []) i 0)
unfolding agree_below table_at rule_at
hex_at place i c few is byte =
    count_from 16 512 place c _ (entry_at HEX 16 512 3 refl place i c few is byte)

pub hex_most : (place i c : ℕ) → place < 3 → i ≡ c → c < 256
    → get_or (get_or HEX place []) i 0 ≤ 3840
unfolding agree_below table_at
hex_most place i c few is byte = most_at HEX 3840 3 refl place i c few is byte

pub power_at : (k : ℕ) → k < 8 → get_or POWERS k 0 ≡ 10 ^ k
unfolding agree_below
power_at k few = agree_at (λ n. get_or POWERS n 0) (λ n. 10 ^ n) 8 refl k few
