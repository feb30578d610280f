-- Where pieces stand in an array, of which the first stay and the others come round.
use Rattle.mdb_page.proofs.Words.{IsKept, IsNextPlace, add-one, ap, arith, inl, inr, le-ltb, lt-ltb, mod-eq_of_lt, mod-le, mod-lt, mod_self, mul-le-mul_right, suc, suc-mod, sym, zero-mod, ℕ, ◌%◌, ◌*◌, ◌+◌, ◌-◌, ◌/◌, ◌<◌, ◌∙◌, ◌≡◌, ◌≢◌, ◌≤◌, ◌⊎◌}
use Rattle.std.proofs.lemmas.Nat.{div-add-mod'}
use Rattle.mdb_page.specs.Acts.{place_in}

pub less_or_not : (a b : ℕ) → (a < b) ⊎ (b ≤ a)
less_or_not a b = grind arith

-- Numbers apart by less than the ring have different rests.
rests_apart : (a b ring : ℕ) → a < b → b < a + ring → a % ring ≡ b % ring → ⊥
rests_apart a b ring less near same = elim (less_or_not (a / ring) (b / ring)) [
  | inl more ↦ apart more
  | inr few ↦ omega (
    arith,
    mul-le-mul_right ring few,
    div-add-mod' a ring,
    div-add-mod' b ring,
    same,
    less,
  )
]
  where
    apart : a / ring < b / ring → ⊥
    apart more =
        let turned : (a / ring + 1) * ring ≤ b / ring * ring =
        mul-le-mul_right ring (omega (arith, more)) in
        omega (arith, turned, div-add-mod' a ring, div-add-mod' b ring, same, near)

-- the rest of the number after one
next_rest : (a ring : ℕ) → a % ring + 1 < ring → (a + 1) % ring ≡ a % ring + 1
next_rest a ring more =
    rw add-one (suc-mod a ring
    ∙ (mod-eq_of_lt (omega (arith, more)) ∙ sym (add-one (a % ring))))

first_rest : (a ring : ℕ) → a % ring + 1 ≡ ring → (a + 1) % ring ≡ 0
first_rest a ring round =
    let last : suc (a % ring) ≡ ring = omega (arith, round) in
    rw add-one (suc-mod a ring ∙ (ap (λ n. n % ring) last ∙ mod_self ring))

module _ (first room : ℕ) where
  -- the place of a piece
  abbrev place : ℕ → ℕ
  place = place_in first room

  -- where the first pieces stand, and the others
  place_first : (number : ℕ) → number < first → place number ≡ number
  unfolding place_in
  place_first number less = rw (lt-ltb number first less)

  place_ring : (number : ℕ) → first ≤ number
      → place number ≡ first + (number - first) % (room - first)
  unfolding place_in
  place_ring number more = rw (le-ltb number first more)

  -- every piece has a place in a ring that has places
  ring_place : (number : ℕ) → first < room → first ≤ number → place number < room
  ring_place number some more =
      let rest : (number - first) % (room - first) < room - first =
      mod-lt (number - first) (omega (arith, some)) in
      omega (arith, place_ring number more, rest, some)

  -- the place of no piece is behind that of its number
  pub place_low : (number : ℕ) → place number ≤ number
  place_low number = elim (less_or_not number first) [
    | inl less ↦ omega (arith, place_first number less)
    | inr more ↦
        omega (arith, place_ring number more, mod-le (number - first) (room - first), more)
  ]

  -- before the first piece
  pub starts_at : IsNextPlace first room 0 0
  starts_at =
      let low : place 0 ≡ 0 = omega (arith, place_low 0) in
      record { there = λ some. sym low; full = λ none. omega (arith, none, low) }

  -- a piece that is kept with one more was kept before
  pub kept_before : (all number : ℕ) → IsKept first room (all + 1) number
      → IsKept first room all number
  kept_before all number (inl less) = inl less
  kept_before all number (inr near) = inr (omega (arith, near))

  -- a piece that is kept has another place than the next one
  pub kept_apart : (all number : ℕ) → number < all → IsKept first room (all + 1) number
      → place number ≢ place all
  kept_apart all number less kept same = elim (less_or_not number first) [
    | inl stays ↦ elim (less_or_not all first) [
      | inl both ↦
          omega (arith, place_first number stays, place_first all both, same, less)
      | inr comes ↦
          omega (arith, place_first number stays, place_ring all comes, same, stays)
    ]
    | inr comes ↦ near comes kept
  ]
    where
      near : first ≤ number → IsKept first room (all + 1) number → ⊥
      near comes (inl stays) = omega (arith, comes, stays)
      near comes (inr close) =
          rests_apart (number - first) (all - first) (room - first) (omega (arith, less, comes))
          (omega (arith, close, comes)) (omega (
            arith,
            place_ring number comes,
            place_ring all (omega (arith, comes, less)),
            same,
          ))

  module _ (number next : ℕ) where
    -- once a piece has no place, no later one has
    pub stays_full : room ≤ place number → room ≤ next → IsNextPlace first room (number + 1) next
    stays_full none past = record {
      there = λ some. absurd (over some (less_or_not first room));
      full = λ more. past;
    }
      where
        wide : first < room → ⊥
        wide some = elim (less_or_not number first) [
          | inl less ↦ omega (arith, place_first number less, none, some, less)
          | inr more ↦ omega (arith, ring_place number some more, none)
        ]

        over : place (number + 1) < room → (first < room) ⊎ (room ≤ first) → ⊥
        over some (inl there) = wide there
        over some (inr small) = elim (less_or_not (number + 1) first) [
          | inl less ↦ omega (arith, place_first (number + 1) less, some, place_low number, none)
          | inr more ↦ omega (arith, place_ring (number + 1) more, some, small)
        ]

    -- where the next place is, once a piece has its own
    module _ (low : place number < room) (on : place number + 1 < room → next ≡ place number + 1)
        (round : room ≤ place number + 1 → next ≡ first) where
      -- after one in the ring
      after_ring : first ≤ number → next ≡ place (number + 1)
      after_ring more =
          let here = place_ring number more in
          let there = place_ring (number + 1) (omega (arith, more)) in
          let shifted : number + 1 - first ≡ (number - first) + 1 = omega (arith, more) in
          let rest : place (number + 1) ≡ first + ((number - first) + 1) % (room - first) =
          there ∙ ap (λ n. first + n % (room - first)) shifted in
          elim (less_or_not (place number + 1) room) [
            | inl inside ↦ omega (
              arith,
              on inside,
              rest,
              here,
              next_rest (number - first) (room - first) (omega (arith, inside, here)),
            )
            | inr end ↦ omega (
              arith,
              round end,
              rest,
              first_rest (number - first) (room - first) (omega (arith, end, here, low)),
            )
          ]

      -- after one of the first
      among_first : number < first → (number + 1 < first) ⊎ (first ≤ number + 1)
          → IsNextPlace first room (number + 1) next
      among_first less (inl inside) =
          let here = place_first number less in
          let there = place_first (number + 1) inside in
          record {
            there = λ some. omega (arith, on (omega (arith, here, there, some)), here, there);
            full = λ none.
                omega (arith, round (omega (arith, here, there, none)), there, none, inside);
          }
      among_first less (inr end) =
          let here = place_first number less in
          let no_more : number + 1 - first ≡ 0 = omega (arith, less, end) in
          let there : place (number + 1) ≡ first = place_ring (number + 1) end
          ∙ (ap (λ n. first + n % (room - first)) no_more
          ∙ omega (arith, zero-mod (room - first))) in
          let same : next ≡ first = elim (less_or_not (place number + 1) room) [
            | inl inside ↦ omega (arith, on inside, here, less, end)
            | inr over ↦ round over
          ] in
          record {
            there = λ some. same ∙ sym there;
            full = λ none. omega (arith, none, same, there);
          }

      pub goes_on : IsNextPlace first room (number + 1) next
      goes_on = elim (less_or_not number first) [
        | inl less ↦ among_first less (less_or_not (number + 1) first)
        | inr more ↦
            let same = after_ring more in
            record { there = λ some. same; full = λ none. omega (arith, none, same) }
      ]
