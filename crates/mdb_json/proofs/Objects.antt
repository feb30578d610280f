-- Objects whose members are made of a list.
use Rattle.mdb_json.proofs.Words.{Bool, Data, Equal, Greater, Less, List, Members, Ordering, [], ap, arith, cond, depth, false, filter, fold, get_or, has_float, length, map, member, members, members_depth, members_have_float, nat_cmp, no_members, object, put, refl, suc, take, true, with_member, ℕ, ◌++◌, ◌+◌, ◌<◌, ◌∙◌, ◌∷◌, ◌≡◌, ◌≤◌}
use Rattle.std.proofs.lemmas.Bool.{or_parts}
use Rattle.std.proofs.lemmas.List.{append-nil, map-append}
use Rattle.std.proofs.lemmas.List.Elements.{filter_more}
use Rattle.std.proofs.lemmas.List.Sums.{fold-append}
use Rattle.std.specs.Cmp.Lexicographic.{slice_cmp}
use Rattle.std.specs.Ordering.{match_ordering}

-- what each of three has, the one that an order chooses has
by_order : {X : Type 0} (Has : X → Type 0) (order : Ordering) (less same more : X) → Has less
    → Has same → Has more → Has (match_ordering order less same more)
by_order Has Less less same more l s m = l
by_order Has Equal less same more l s m = s
by_order Has Greater less same more l s m = m

-- a value without a float among members without one
put_without : (name : List ℕ) (value : Data) (others : Members) → has_float value ≡ false
    → members_have_float others ≡ false → members_have_float (put name value others) ≡ false
put_without name value no_members none rest = rw none refl
put_without name value (member other given others) none rest =
    let apart = or_parts (has_float given) (members_have_float others) rest in
    by_order (λ all. members_have_float all ≡ false) (slice_cmp nat_cmp name other) _ _ _
    (rw none rest) (rw none apart.1) (rw apart.0 (put_without name value others none apart.1))

-- an object has no float, if no value of it has one
pub without_float : {X : Type 0} (part : X → List ℕ × Data) (xs : List X)
    → ((x : X) → has_float (part x).1 ≡ false) → has_float (object (members (map part xs))) ≡ false
without_float {X = X} part xs none = from no_members refl xs
  where
    from : (others : Members) → members_have_float others ≡ false → (xs : List X)
        → members_have_float (fold with_member others (map part xs)) ≡ false
    from others rest [] = rest
    from others rest (x ∷ xs) =
        from (with_member others (part x)) (put_without (part x).0 (part x).1 others (none x) rest)
        xs

-- a value that nests no deeper than so, among members that don't either
put_within : (deep : ℕ) (name : List ℕ) (value : Data) (others : Members) → depth value ≤ deep
    → members_depth others ≤ deep → members_depth (put name value others) ≤ deep
put_within deep name value no_members within rest = omega (arith, within)
put_within deep name value (member other given others) within rest =
    by_order (λ all. members_depth all ≤ deep) (slice_cmp nat_cmp name other) _ _ _
    (omega (arith, within, rest)) (omega (arith, within, rest))
    (omega (arith, rest, put_within deep name value others within (omega (arith, rest))))

-- an object nests one deeper than its values
pub one_deeper : {X : Type 0} (deep : ℕ) (part : X → List ℕ × Data) (xs : List X)
    → ((x : X) → depth (part x).1 ≤ deep) → depth (object (members (map part xs))) ≤ suc deep
one_deeper {X = X} deep part xs within = omega (arith, from no_members (omega arith) xs)
  where
    from : (others : Members) → members_depth others ≤ deep → (xs : List X)
        → members_depth (fold with_member others (map part xs)) ≤ deep
    from others rest [] = rest
    from others rest (x ∷ xs) =
        from (with_member others (part x))
        (put_within deep (part x).0 (part x).1 others (within x) rest) xs

-- the members of those that pass a test, with one more
pub one_taken : {X : Type 0} (part : X → List ℕ × Data) (test : X → Bool) (xs : List X) (i : ℕ)
    (d : X) → i < length xs → test (get_or xs i d) ≡ true
    → members (map part (filter test (take (i + 1) xs)))
    ≡ with_member (members (map part (filter test (take i xs)))) (part (get_or xs i d))
one_taken part test xs i d below passes =
    ap (λ ys. members (map part ys)) (filter_more test xs i d below
    ∙ ap (λ passed. filter test (take i xs) ++ cond passed (get_or xs i d ∷ []) []) passes)
    ∙ ap members (map-append part (filter test (take i xs)) (get_or xs i d ∷ []))
    ∙ fold-append with_member no_members (map part (filter test (take i xs)))
    (part (get_or xs i d) ∷ [])

-- and with one that doesn't pass
pub one_passed_over : {X : Type 0} (part : X → List ℕ × Data) (test : X → Bool) (xs : List X)
    (i : ℕ) (d : X) → i < length xs → test (get_or xs i d) ≡ false
    → members (map part (filter test (take (i + 1) xs)))
    ≡ members (map part (filter test (take i xs)))
one_passed_over part test xs i d below fails =
    ap (λ ys. members (map part ys)) (filter_more test xs i d below
    ∙ ap (λ passed. filter test (take i xs) ++ cond passed (get_or xs i d ∷ []) []) fails
    ∙ append-nil (filter test (take i xs)))
