-- The first two bytes of a command's block tell whether it is ENABLE OPTIONS.
use Rattle.mdb_msgs.proofs.Words.{◌≡◌, ◌≤◌, length, cases_eq, nat_tests, All-from_recursion, block_of, Command, First, Second, IsByte, Spells, command_bytes, begins_options, IsOpen, ◌≢◌, ◌==◌, ◌||◌, ◌&&◌, ◌⊎◌, ℕ, List, [], ◌∷◌, ◌++◌, false, All, inl, inr, arith, refl, ap, sym, ◌∙◌, is_enable_options, BillCommand, ChangerCommand, ReaderCommand}
use Rattle.mdb_msgs.specs.declared.command.Command.TheVariants.{Changer, Bill, Reader}
use Rattle.mdb_msgs.proofs.Fronts.{open_is_a_front}

its_own : (command : Command)
    → begins_options (block_of (command_bytes command)) ≡ is_enable_options command
its_own (Changer ChangerCommand.Reset) = refl
its_own (Bill BillCommand.Reset) = refl
its_own (Reader First ReaderCommand.Reset) = refl
its_own (Reader Second ReaderCommand.Reset) = refl
its_own command = refl

pub two_tell : (prefix rest : List ℕ) (command : Command) → 2 ≤ length prefix
    → Spells command (prefix ++ rest) → begins_options prefix ≡ is_enable_options command
two_tell [] rest command two spells = absurd (omega arith)
two_tell (first ∷ []) rest command two spells = absurd (omega arith)
two_tell (first ∷ second ∷ more) rest command two spells =
    ap begins_options spells.bytes ∙ its_own command

-- bytes are the front of a command that isn't ENABLE OPTIONS
abbrev Another : List ℕ → Type 0
Another bytes =
    (command : Command) × (rest : List ℕ) × (rest ≢ []) × Spells command (bytes ++ rest)
    × (is_enable_options command ≡ false)

-- so are those of a command that the first two bytes tell
by_two : (first second : ℕ) (bytes : List ℕ) → All IsByte (first ∷ second ∷ bytes)
    → IsOpen (first ∷ second ∷ bytes) → begins_options (first ∷ second ∷ bytes) ≡ false
    → Another (first ∷ second ∷ bytes)
by_two first second bytes low short other =
    let found = open_is_a_front (first ∷ second ∷ bytes) low short in
    let told = two_tell (first ∷ second ∷ bytes) found.1 found.0 (omega arith) found.3 in
    (found.0, found.1, found.2, found.3, sym told ∙ other)

-- a first byte is, where the subcommand 00 leaves more open
by_zero : (first : ℕ) → IsByte first → IsOpen (first ∷ 0 ∷ [])
    → begins_options (first ∷ 0 ∷ []) ≡ false → Another (first ∷ [])
by_zero first low short other =
    let found = by_two first 0 []
    (All-from_recursion IsByte (first ∷ 0 ∷ []) (low, (omega arith, tt))) short other in
    (found.0, 0 ∷ found.1, λ none. cc none, found.3, found.4)

-- a command with another first byte is another
by_first : (first : ℕ) (rest : List ℕ) (command : Command)
    → (first == 0x17 || first == 0x67) ≡ false → rest ≢ [] → Spells command (first ∷ rest)
    → is_enable_options command ≡ false
by_first first [] command other more spells = absurd (more refl)
by_first first (second ∷ rest) command other more spells =
    sym (two_tell (first ∷ second ∷ []) rest command (omega arith) spells)
    ∙ ap (λ b. b && (second == 0x04)) other

one_byte : (first : ℕ) → All IsByte (first ∷ []) → IsOpen (first ∷ []) → Another (first ∷ [])
one_byte first low short = by (cases_eq first 0x17) (cases_eq first 0x67)
  where
    by : (first ≡ 0x17) ⊎ (first ≢ 0x17) → (first ≡ 0x67) ⊎ (first ≢ 0x67) → Another (first ∷ [])
    by (inl one) two = rw one (by_zero 0x17 (omega arith) (omega arith) refl)
    by (inr not_one) (inl two) = rw two (by_zero 0x67 (omega arith) (omega arith) refl)
    by (inr not_one) (inr not_two) =
        let other : (first == 0x17 || first == 0x67) ≡ false = grind (arith, nat_tests) in
        let found = open_is_a_front (first ∷ []) low short in
        let another = by_first first found.1 found.0 other found.2 found.3 in
        (found.0, found.1, found.2, found.3, another)

pub open_is_anothers_front : (bytes : List ℕ) → All IsByte bytes → IsOpen bytes
    → begins_options bytes ≡ false → Another bytes
open_is_anothers_front [] low short other = absurd short
open_is_anothers_front (first ∷ []) low short other = one_byte first low short
open_is_anothers_front (first ∷ second ∷ bytes) low short other =
    by_two first second bytes low short other
