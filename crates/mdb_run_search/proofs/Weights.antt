-- What sums and gains count for a goal.
use Rattle.mdb_run_search.proofs.Words.{ap, arith, refl, ◌∙◌, ◌≡◌, ◌+◌, ◌<◌, ◌^◌, ℤ, pos, negsuc, neg_ℤ, ◌+ℤ◌, ◌≤ℤ◌, SFits, of_z, to_z, w64, ints, to_z-of_z, Gains, no_gains, IsSmall, Weight, AccountSide, Bound, Least, Greatest, side_value, AccountSums, Sums, added, no_sums, gained, towards, weigh, weight_of}
use Rattle.mdb_machine.proofs.Slots.{none_at, small_at}
use Rattle.mdb_run_search.specs.declared.explain.best.Weight.TheVariants as weights
use Rattle.mdb_follow.specs.declared.goal.AccountSide.TheVariants as sides

-- a number so near to 0 is one of 64 bits
near-fits : (z : ℤ) → neg_ℤ (pos (2 ^ 62 + 2 ^ 32)) ≤ℤ z → z ≤ℤ pos (2 ^ 62 + 2 ^ 32)
    → SFits w64 z
near-fits (pos n) low high = record { sfits = omega (arith, ints) }
near-fits (negsuc n) low high = record { sfits = omega (arith, ints) }

-- a sum of numbers of 64 bits that are so small
pub small-sum : (value by : ℤ) → neg_ℤ (pos (2 ^ 62)) ≤ℤ value → value ≤ℤ pos (2 ^ 62)
    → neg_ℤ (pos (2 ^ 32)) ≤ℤ by → by ≤ℤ pos (2 ^ 32)
    → to_z w64 (of_z w64 (to_z w64 (of_z w64 value) +ℤ to_z w64 (of_z w64 by))) ≡ value +ℤ by
small-sum value by low high more_low more_high =
    let one = near-fits value (omega (arith, ints)) (omega (arith, ints)) in
    let other = near-fits by (omega (arith, ints)) (omega (arith, ints)) in
    let both = near-fits (value +ℤ by) (omega (arith, ints)) (omega (arith, ints)) in
    rw (to_z-of_z w64 value one, to_z-of_z w64 by other) (to_z-of_z w64 (value +ℤ by) both)

-- sums and gains of one account, added up
account_sum : AccountSums → AccountSums → AccountSums
account_sum one other = record {
  device = one.device + other.device;
  controller = one.controller + other.controller;
}

account-adds : (side : AccountSide) (bound : Bound) (one other : AccountSums)
    → towards bound (side_value side (account_sum one other))
    ≡ towards bound (side_value side one) +ℤ towards bound (side_value side other)
unfolding account_sum
account-adds sides.Difference Least one other = omega (arith, ints)
account-adds sides.Difference Greatest one other = omega (arith, ints)
account-adds side Least one other = omega (arith, ints)
account-adds side Greatest one other = omega (arith, ints)

-- what sums with gains count is what the sums count and what the gains do
pub weigh-adds : (weight : Weight) (sums : Sums) (gains : Gains)
    → weigh weight (added sums gains) ≡ weigh weight sums +ℤ weight_of weight gains
unfolding account_sum
weigh-adds weights.Nothing sums gains = refl
weigh-adds (weights.Account slot side bound) sums gains =
    account-adds side bound (sums slot) (gained slot gains)

-- no sums count nothing
pub weigh-none : (weight : Weight) → weigh weight no_sums ≡ pos 0
weigh-none weights.Nothing = refl
weigh-none (weights.Account slot side Least) = grind (arith, ints)
weigh-none (weights.Account slot side Greatest) = grind (arith, ints)

-- and no gains count nothing
pub weight-none : (weight : Weight) → weight_of weight no_gains ≡ pos 0
weight-none weights.Nothing = refl
weight-none (weights.Account slot side bound) =
    ap (λ n. towards bound (side_value side (record { device = n; controller = n }))) (none_at slot)
    ∙ weigh-none (weights.Account slot side bound)

-- what small gains count is near to 0

account-near : (side : AccountSide) (bound : Bound) (one : AccountSums) → one.device < 2 ^ 32
    → one.controller < 2 ^ 32
    → (neg_ℤ (pos (2 ^ 32)) ≤ℤ towards bound (side_value side one))
    × (towards bound (side_value side one) ≤ℤ pos (2 ^ 32))
account-near side bound one d c = grind (arith, ints)

pub weight-near : (weight : Weight) (gains : Gains) → IsSmall gains
    → (neg_ℤ (pos (2 ^ 32)) ≤ℤ weight_of weight gains)
    × (weight_of weight gains ≤ℤ pos (2 ^ 32))
weight-near weights.Nothing gains small = (omega (arith, ints), omega (arith, ints))
weight-near (weights.Account slot side bound) gains small =
    account-near side bound (gained slot gains) (small_at gains.device slot small.device)
    (small_at gains.controller slot small.controller)
