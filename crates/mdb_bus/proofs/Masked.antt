-- What the first bytes of a block tell of ENABLE OPTIONS, which a profile may leave out.
use Rattle.std.proofs.lemmas.Bool.Decides.{nat_tests}
use Rattle.mdb_bus.proofs.Words.{[], and_right, ap, append-nil, arith, begins_options, block_of, Bool, cases_eq, Command, false, Foreign, HasCommand, if◌then◌else◌, inl, inr, is_enable_options, leaves_features, length, length-append, List, More, Need, needed, needed_by, Profile, refl, Spells, sum, sym, true, ℕ, ◌%◌, ◌&&◌, ◌++◌, ◌==◌, ◌||◌, ◌∙◌, ◌∷◌, ◌≡◌, ◌≢◌, ◌≤◌, ◌⊎◌}
use Rattle.mdb_bus.proofs.Lists.{some_length}

-- a law of mdb_msgs: the first two bytes of a command's block tell whether it is ENABLE OPTIONS
abbrev pub TwoTell : Type 0
TwoTell = (prefix rest : List ℕ) (command : Command) → 2 ≤ length prefix
    → Spells command (prefix ++ rest) → begins_options prefix ≡ is_enable_options command

-- bytes begin no block of an ENABLE OPTIONS that the profile leaves out
abbrev pub AreKnown : Profile → List ℕ → Type 0
AreKnown profile bytes = (leaves_features profile && begins_options bytes) ≡ false

-- one byte doesn't
pub begins_one : (byte : ℕ) → begins_options (byte ∷ []) ≡ false
begins_one byte = and_right (byte == 0x17 || byte == 0x67) false refl

-- what needs anything that isn't foreign isn't masked
pub otherwise : (masked : Bool) (need told : Need) → (if masked then Foreign else need) ≡ told
    → told ≢ Foreign → (masked ≡ false) × (need ≡ told)
otherwise true need told is other = absurd (other (sym is))
otherwise false need told is other = (refl, is)

module _ (profile : Profile) where
  -- more bytes do where the first two do
  pub more_known : (bytes more : List ℕ) → 2 ≤ length bytes → AreKnown profile bytes
      → AreKnown profile (bytes ++ more)
  more_known (first ∷ second ∷ bytes) more two known = known
  more_known bytes more two known = absurd (omega (arith, two))

  -- bytes that don't need what they need by any profile
  pub known_need : (bytes : List ℕ) → AreKnown profile bytes
      → needed_by profile bytes ≡ needed bytes
  known_need bytes known = rw known

  pub one_need : (byte : ℕ) → needed_by profile (byte ∷ []) ≡ needed (byte ∷ [])
  one_need byte = known_need (byte ∷ []) (and_right (leaves_features profile) _ (begins_one byte))

  -- what needs anything that isn't foreign is such bytes
  pub unmasked : (bytes : List ℕ) (told : Need) → needed_by profile bytes ≡ told → told ≢ Foreign
      → AreKnown profile bytes × (needed bytes ≡ told)
  unmasked bytes told is other =
      otherwise (leaves_features profile && begins_options bytes) (needed bytes) told is other

module _ (law : TwoTell) (profile : Profile) where
  -- bytes in front of a command that the profile has are such bytes
  pub front_known : (prefix rest : List ℕ) (command : Command) → prefix ≢ []
      → Spells command (prefix ++ rest) → HasCommand profile command → AreKnown profile prefix
  front_known [] rest command some spells known = absurd (some refl)
  front_known (first ∷ []) rest command some spells known =
      and_right (leaves_features profile) _ (begins_one first)
  front_known (first ∷ second ∷ more) rest command some spells known =
      rw (law (first ∷ second ∷ more) rest command (omega arith) spells) known

  -- and where two of them are such bytes, the profile has the command
  pub known_front : (prefix rest : List ℕ) (command : Command) → 2 ≤ length prefix
      → Spells command (prefix ++ rest) → AreKnown profile prefix → HasCommand profile command
  known_front prefix rest command two spells known =
      rw (law prefix rest command two spells) at known

-- a first byte with which ENABLE OPTIONS begins, or another
address : (first : ℕ) → (first ≡ 0x17) ⊎ ((first ≡ 0x67)
    ⊎ ((first == 0x17 || first == 0x67) ≡ false))
address first = elim (cases_eq first 0x17) [
  | inl one ↦ inl one
  | inr not_one ↦ elim (cases_eq first 0x67) [
    | inl two ↦ inr (inl two)
    | inr not_two ↦ inr (inr (grind (arith, nat_tests)))
  ]
]

-- content and its block begin alike
block_alike : (content : List ℕ) → content ≢ []
    → begins_options (block_of content) ≡ begins_options content
block_alike [] some = absurd (some refl)
block_alike (first ∷ []) some = elim (address first) [
  | inl one ↦ rw one
  | inr (inl two) ↦ rw two
  | inr (inr other) ↦ ap (λ b. b && (sum (first ∷ []) % 256 == 0x04)) other
      ∙ sym (ap (λ b. b && false) other)
]
block_alike (first ∷ second ∷ more) some = refl

-- so content tells whether its command is ENABLE OPTIONS
pub content_tells : TwoTell → (content : List ℕ) (command : Command) → content ≢ []
    → Spells command (block_of content) → begins_options content ≡ is_enable_options command
content_tells law content command some spells =
    sym (block_alike content some) ∙ law (block_of content) [] command
    (omega (arith, some_length content some, length-append content ((sum content % 256) ∷ [])))
    (rw append-nil spells)

-- a first byte with which ENABLE OPTIONS begins leaves the length to the second
pub features_more : (first second : ℕ) → begins_options (first ∷ second ∷ []) ≡ true
    → needed (first ∷ []) ≡ More
features_more first second begins = elim (address first) [
  | inl one ↦ rw one
  | inr (inl two) ↦ rw two
  | inr (inr other) ↦ cc (ap (λ b. b && (second == 0x04)) other, begins)
]
