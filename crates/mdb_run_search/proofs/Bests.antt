-- What is as good as what, and entries that are taken in.
use Rattle.mdb_run_search.proofs.Words.{arith, inl, inr, refl, sym, subst, ap, ◌∙◌, ◌≡◌, ◌≢◌, ◌⊎◌, ◌+◌, ◌<◌, ◌≤◌, ℕ, ℤ, ◌+ℤ◌, List, [], ◌∷◌, ◌++◌, length, set, get_or, Contains, cases_eq, ints, Contains-append_left, Contains-push, Contains-push_cases, Best, Choice, Plain, marks_at, HasAsGood, HasCodeAt, IsAsGood, IsBestOf, TakesIn, get_or-set_other, get_or-set_same, get_or_default, length-set, contains-none}

-- a best is as good as another
abbrev pub IsAsGoodAs : Best → Best → Type 0
IsAsGoodAs one other = IsAsGood one.value one.marks other.value other.marks

-- a best is as good as itself
as_good-same : (best : Best) → IsAsGoodAs best best
as_good-same best = omega (arith, ints)

-- and as what one is as good as that it is as good as
pub as_good-then : {a b c : ℤ} {m n o : ℕ} → IsAsGood a m b n → IsAsGood b n c o
    → IsAsGood a m c o
as_good-then one other = omega (arith, ints)

-- and so it is with as much added to both
pub as_good-more : {a b : ℤ} {m n : ℕ} (by : ℤ) (more : ℕ) → IsAsGood a m b n
    → IsAsGood (a +ℤ by) (m + more) (b +ℤ by) (n + more)
as_good-more by more is = omega (arith, ints)

-- an entry as good as something is as good as what that is as good as
pub has-weaker : {entries : List (ℕ × Best)} {code : ℕ} {a b : ℤ} {m n : ℕ} → IsAsGood a m b n
    → HasAsGood entries code a m → HasAsGood entries code b n
has-weaker good has =
    record { best = has.best; listed = has.listed; good = as_good-then has.good good }

-- an element in place of another

module _ {X : Type 0} (xs : List X) (k : ℕ) (y : X) (within : k < length xs) where
  set-has : Contains (set xs k y) y
  set-has = search (arith, length-set, get_or-set_same)

  set-cases : (x : X) → Contains (set xs k y) x → Contains xs x ⊎ (y ≡ x)
  set-cases x has = grind (arith, cases_eq, length-set, get_or-set_same, get_or-set_other)

  set-keeps : (x : X) → Contains xs x → ((d : X) → get_or xs k d ≡ x) ⊎ Contains (set xs k y) x
  set-keeps x (at, inside, is) = elim (cases_eq at k) [
    | inl same ↦ inl (λ d. get_or_default xs k d x within ∙ (rw same at is))
    | inr other ↦ inr (
      at,
      omega (arith, length-set xs k y),
      get_or-set_other xs k at y x other ∙ is,
    )
  ]

module _ {Is : ℕ × Best → Type 0} (entries : List (ℕ × Best)) where
  -- nothing is taken in
  pub takes-same : TakesIn Is entries entries
  takes-same = record { from = λ entry has. inl has; kept = λ code value marks has. has }

  -- an entry is taken in after all
  pub takes-push : (entry : ℕ × Best) → Is entry → TakesIn Is entries (entries ++ entry ∷ [])
  takes-push entry is = record {
    from = λ one has. grind (arith, Contains-push_cases entries entry one has, is);
    kept = λ code value marks has. record {
      best = has.best;
      listed = Contains-append_left entries (entry ∷ []) (code, has.best) has.listed;
      good = has.good;
    };
  }

  -- an entry is taken in in place of one of its code that is no better
  pub takes-set : (place code : ℕ) (best : Best) → Is (code, best) → HasCodeAt entries code place
      → ((d : ℕ × Best) → IsAsGoodAs best (get_or entries place d).1)
      → TakesIn Is entries (set entries place (code, best))
  takes-set place code best is there good = record {
    from = λ one has.
        grind (arith, set-cases entries place (code, best) there.0 one has, is);
    kept = λ at value marks has.
        elim (set-keeps entries place (code, best) there.0 (at, has.best) has.listed) [
          | inl here ↦ record {
            best = best;
            listed = subst (λ c. Contains (set entries place (code, best)) (c, best))
                (sym (there.1 (at, has.best)) ∙ ap (λ e. e.0) (here (at, has.best)))
                (set-has entries place (code, best) there.0);
            good = as_good-then (rw (here (at, has.best)) at (good (at, has.best))) has.good;
          }
          | inr still ↦ record { best = has.best; listed = still; good = has.good }
        ];
  }

-- what was taken in is as good as what it is as good as
module _ (entries : List (ℕ × Best)) (code : ℕ) (best : Best) {value : ℤ} {marks : ℕ}
    (good : IsAsGood best.value best.marks value marks) where
  pub has-push : HasAsGood (entries ++ (code, best) ∷ []) code value marks
  has-push = record { best = best; listed = Contains-push entries (code, best); good = good }

  pub has-set : (place : ℕ) → place < length entries
      → HasAsGood (set entries place (code, best)) code value marks
  has-set place within =
      record { best = best; listed = set-has entries place (code, best) within; good = good }

-- an entry that is as good stays
pub has-still : (entries : List (ℕ × Best)) (place code : ℕ) (found : ℕ × Best) {value : ℤ}
    {marks : ℕ} → HasCodeAt entries code place → get_or entries place found ≡ found
    → IsAsGood found.1.value found.1.marks value marks → HasAsGood entries code value marks
has-still entries place code found there is good = record {
  best = found.1;
  listed = (
    place,
    there.0,
    get_or_default entries place (code, found.1) found there.0 ∙ is
        ∙ ap (λ c. (c, found.1)) (sym (ap (λ e. e.0) is) ∙ there.1 found),
  );
  good = good;
}

-- what is as good as the entry at a place, as it was read
pub good-read : (entries : List (ℕ × Best)) (place : ℕ) (d found : ℕ × Best) {value : ℤ}
    {marks : ℕ} → place < length entries → get_or entries place found ≡ found
    → IsAsGood value marks found.1.value found.1.marks
    → IsAsGood value marks (get_or entries place d).1.value (get_or entries place d).1.marks
good-read entries place d found within is good =
    rw (get_or_default entries place d found within ∙ is) good

-- a choice has one mark at most
pub marks-few : (row : ℕ) (choice : Choice) → length (marks_at row choice) ≤ 1
marks-few row Plain = omega arith
marks-few row choice = omega arith

-- another than the plain one has as many as any
pub marks-most : (row : ℕ) (one choice : Choice) → choice ≢ Plain
    → length (marks_at row one) ≤ length (marks_at row choice)
marks-most row one Plain not = absurd (not refl)
marks-most row one choice not = marks-few row one

module _ (entries : List (ℕ × Best)) (entry : ℕ × Best) where
  -- what is as good as all entries is the best with one more, where it is as good as that
  best-more : {best : Best} (code : ℕ) → Contains (entries ++ entry ∷ []) (code, best)
      → ((one : ℕ × Best) → Contains entries one → IsAsGoodAs best one.1)
      → IsAsGoodAs best entry.1 → IsBestOf (entries ++ entry ∷ []) best
  best-more {best} code listed least good = record {
    code = code;
    listed = listed;
    least = λ one has. elim (Contains-push_cases entries entry one has) [
      | inl old ↦ least one old
      | inr same ↦ subst (λ e. IsAsGoodAs best e.1) same good
    ];
  }

  -- so the best so far stays, where it is as good
  pub best-stays : {best : Best} → IsBestOf entries best → IsAsGoodAs best entry.1
      → IsBestOf (entries ++ entry ∷ []) best
  best-stays {best} is = best-more is.code
      (Contains-append_left entries (entry ∷ []) (is.code, best) is.listed) is.least

  -- and else the one more is the best
  pub best-goes : {best : Best} → IsBestOf entries best → IsAsGoodAs entry.1 best
      → IsBestOf (entries ++ entry ∷ []) entry.1
  best-goes is good = best-more entry.0 (Contains-push entries entry)
      (λ one old. as_good-then good (is.least one old)) (as_good-same entry.1)

-- one alone is the best
pub best-alone : (code : ℕ) (best : Best) → IsBestOf ((code, best) ∷ []) best
best-alone code best = best-more [] (code, best) code (Contains-push [] (code, best))
    (λ one has. absurd (contains-none one has)) (as_good-same best)
