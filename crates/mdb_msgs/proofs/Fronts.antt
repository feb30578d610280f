-- Which bytes are fronts of commands.
use Rattle.mdb_msgs.proofs.Words.{◌≡◌, length, replicate, common_steps, All-append, All-replicate, Command, Device, Need, More, Exactly, IsByte, Spells, device_at, need, need_for, needed, IsOpen, IsShort, IsTold, ◌≢◌, ◌<◌, ◌+◌, ◌-◌, ℕ, List, [], ◌∷◌, ◌++◌, sum, ◌%◌, Option, Some, None, All, arith, refl, ap, subst, ◌∙◌, append_assoc, length-append, length-replicate}
use Rattle.mdb_msgs.specs.declared.command.Device.TheVariants.{Changer}
use Rattle.mdb_msgs.proofs.Contents.{spelled}
use Rattle.mdb_msgs.proofs.Prefixes.{first_bytes}

-- bytes and what makes a command of them
abbrev Goes : List ℕ → Type 0
Goes bytes =
    (command : Command) × (rest : List ℕ) × (rest ≢ []) × Spells command (bytes ++ rest)

-- the need of a first byte with the subcommand 00
abbrev count_of : Need → ℕ
count_of (Exactly n) = n
count_of _ = 0

-- a length that the first byte tells, no second byte changes
first_tells : (first : ℕ) (device : Option Device) (second n : ℕ)
    → need_for device first None ≡ Exactly n → need_for device first (Some second) ≡ Exactly n
first_tells first (Some Changer) second n told = grind (arith, common_steps)
first_tells first device second n told = grind (arith, common_steps)

-- where the subcommand decides, the subcommand 00 tells one
second_tells : (first : ℕ) (device : Option Device) → need_for device first None ≡ More
    → (need_for device first (Some 0) ≡ Exactly (count_of (need_for device first (Some 0))))
    × (2 < count_of (need_for device first (Some 0)))
second_tells first (Some Changer) left = grind (arith, common_steps)
second_tells first device left = grind (arith, common_steps)

-- nor do bytes after
told_after : (bytes more : List ℕ) (n : ℕ) → needed bytes ≡ Exactly n
    → needed (bytes ++ more) ≡ Exactly n
told_after [] more n told = cc told
told_after (first ∷ []) [] n told = told
told_after (first ∷ []) (second ∷ more) n told = first_tells first (device_at first) second n told
told_after (first ∷ second ∷ bytes) more n told = told

-- where the length is known, zeros make a command
by_zeros : (bytes : List ℕ) (n : ℕ) → All IsByte bytes → needed bytes ≡ Exactly n → length bytes < n
    → Goes bytes
by_zeros bytes n low told short =
    let count = n - 1 - length bytes in
    let zeros : List ℕ = replicate count 0 in
    let long : n ≡ length (bytes ++ zeros) + 1 =
    omega (arith, length-replicate {A = ℕ} count 0, length-append bytes zeros) in
    let found = spelled (bytes ++ zeros)
    (All-append IsByte bytes zeros low (All-replicate IsByte count 0 (omega arith)))
    (told_after bytes zeros n told ∙ ap Exactly long) in
    let last : List ℕ = (sum (bytes ++ zeros) % 256) ∷ [] in (
      found.0,
      zeros ++ last,
      λ none. omega (arith, ap length none, length-append zeros last),
      subst (Spells found.0) (append_assoc bytes zeros last) found.1,
    )

-- more is left open by one byte at most
by_subcommand : (bytes : List ℕ) → All IsByte bytes → needed bytes ≡ More → length bytes ≡ 1
    → Goes bytes
by_subcommand [] low left one = absurd (omega arith)
by_subcommand (first ∷ []) low left one =
    let next = second_tells first (device_at first) left in
    let goes = by_zeros (first ∷ 0 ∷ []) (count_of (need first (Some 0))) (All-append IsByte
    (first ∷ []) (0 ∷ []) low (All-replicate IsByte 1 0 (omega arith))) next.0 next.1 in
    (goes.0, 0 ∷ goes.1, λ none. cc none, goes.3)
by_subcommand (first ∷ second ∷ bytes) low left one = absurd (omega arith)

by_need : (bytes : List ℕ) → All IsByte bytes → (told : Need) → needed bytes ≡ told
    → IsShort told (length bytes) → Goes bytes
by_need bytes low (Exactly n) told short = by_zeros bytes n low told short
by_need bytes low More told short = by_subcommand bytes low told short
by_need bytes low need told short = absurd short

-- open bytes are the front of a command's block
pub open_is_a_front : (bytes : List ℕ) → All IsByte bytes → IsOpen bytes
    → (command : Command) × (rest : List ℕ) × (rest ≢ []) × Spells command (bytes ++ rest)
open_is_a_front bytes low = by_need bytes low (needed bytes) refl

short_of : (told : Need) (count whole : ℕ) → count < whole → IsTold told count whole
    → IsShort told count
short_of (Exactly n) count whole less told = omega (arith, told)
short_of need count whole less told = told

some_long : (rest : List ℕ) → rest ≢ [] → 0 < length rest
some_long [] more = absurd (more refl)
some_long (byte ∷ rest) more = omega arith

-- and the front of a command's block is open
pub front_is_open : (front rest : List ℕ) (command : Command) → 0 < length front → rest ≢ []
    → Spells command (front ++ rest) → IsOpen front
front_is_open front rest command some more spells =
    let long = some_long rest more in
    let all = length-append front rest in
    short_of (needed front) (length front) (length (front ++ rest)) (omega arith)
    (first_bytes front rest command some spells)
