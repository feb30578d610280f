-- That a summary of 16 kept messages fits in memory, where each of them takes few bytes.
use Rattle.mdb_machine.proofs.Words.{ℕ, zero, suc, ◌+◌, ◌*◌, ◌<◌, ◌≤◌, max, arith}
use Rattle.std.specs.Align.{type_align}
use Rattle.std.specs.Borrow.{RattleType}
use Rattle.std.specs.Mem.{type_size}
use Rattle.mdb_machine.specs.inner.Sizes.{TakesFewBytes}
use prog.Memory.{up, pad}
use native.Mathlib.Nat.{mod-lt}

up-le : (k e : ℕ) → up k e ≤ e + k
up-le zero e = omega arith
up-le (suc k) e =
    let less : pad (suc k) e < suc k = mod-lt _ (omega arith) in
    omega (arith, less)

-- the size of a summary of 16 messages of a size, where `up` rounds
abbrev padded : (ℕ → ℕ → ℕ) → ℕ → ℕ → ℕ
padded up size align =
    up (max (max (max align 1) 8) 1) (up 1 (up 1 (up (max (max align 1) 8) 0
    + up (max (max align 1) 8)
    (up 1 (up 8 (up (max align 1) 0 + up (max align 1) (up align 0 + 16 * size)) + 8) + 0))
    + 1) + 1)

-- where each rounding adds no more than what it rounds to
bounded : (up : ℕ → ℕ → ℕ) → ((k e : ℕ) → up k e ≤ e + k) → (size align : ℕ) → size ≤ 65536
    → align ≤ 65536 → padded up size align < 9223372036854775808
bounded up le size align few small =
    let a = up align 0 in
    let b = up (max align 1) (a + 16 * size) in
    let c = up (max align 1) 0 in
    let d = up 8 (c + b) in
    let e = up 1 (d + 8) in
    let f = up (max (max align 1) 8) (e + 0) in
    let h = up (max (max align 1) 8) 0 in
    let i = up 1 (h + f) in
    let j = up 1 (i + 1) in
    omega (
      arith,
      few,
      small,
      le align 0,
      le (max align 1) (a + 16 * size),
      le (max align 1) 0,
      le 8 (c + b),
      le 1 (d + 8),
      le (max (max align 1) 8) (e + 0),
      le (max (max align 1) 8) 0,
      le 1 (h + f),
      le 1 (i + 1),
      le (max (max (max align 1) 8) 1) (j + 1),
    )

pub summary_fits : (R : RattleType) → TakesFewBytes R
    → padded up (type_size R) (type_align R) < 9223372036854775808
summary_fits R few = bounded up up-le (type_size R) (type_align R) few.0 few.1
