-- Messages that look at what comes after them.
use Rattle.mdb_msgs.proofs.Words.{◌≡◌, flat_map, AllByRecursion, flat_map-append, Stand, ℕ, List, [], ◌∷◌, ◌++◌, refl, sym, ◌∙◌, append_assoc, append-nil, subst}

-- two messages at the front of the same bytes are one, where one is spelled by f and the other by g
abbrev pub OneBefore : {M : Type 0} → (M → List ℕ) → (M → List ℕ) → (M → List ℕ → Type 0)
    → (M → List ℕ → Type 0) → Type 0
OneBefore {M} f g Is Also = (a b : M) (x y : List ℕ) → Is a x → Also b y → f a ++ x ≡ g b ++ y
    → (a ≡ b) × (x ≡ y)

-- where a message stands, messages don't end
abbrev pub NoEndBefore : {M : Type 0} → (M → List ℕ) → (M → List ℕ → Type 0)
    → (List ℕ → Type 0) → Type 0
NoEndBefore {M} f Is End = (a : M) (x : List ℕ) → Is a x → End (f a ++ x) → ⊥

module _ {M : Type 0} (f g : M → List ℕ) (Is Also : M → List ℕ → Type 0) (End : List ℕ → Type 0)
    (one : OneBefore f g Is Also) (on_f : NoEndBefore f Is End) (on_g : NoEndBefore g Also End)
  where
    -- so two lists of messages of the same bytes that both end are one
    pub one_standing : (xs ys : List M) (p q : List ℕ) → Stand f Is xs p → Stand g Also ys q
        → flat_map f xs ++ p ≡ flat_map g ys ++ q → End p → End q → (xs ≡ ys) × (p ≡ q)
    one_standing [] [] p q hs ks e hp hq = (refl, e)
    one_standing [] (y ∷ ys) p q hs ks e hp hq =
        absurd (on_g y _ ks.0 (subst End (e ∙ append_assoc (g y) (flat_map g ys) q) hp))
    one_standing (x ∷ xs) [] p q hs ks e hp hq =
        absurd (on_f x _ hs.0 (subst End (sym e ∙ append_assoc (f x) (flat_map f xs) p) hq))
    one_standing (x ∷ xs) (y ∷ ys) p q hs ks e hp hq =
        let front = one x y (flat_map f xs ++ p) (flat_map g ys ++ q) hs.0 ks.0
        (sym (append_assoc (f x) (flat_map f xs) p) ∙ e ∙ append_assoc (g y) (flat_map g ys) q) in
        let back = one_standing xs ys p q hs.1 ks.1 front.1 hp hq in
        (cc, back.1)

module _ {M : Type 0} (f : M → List ℕ) where
  -- the bytes of one message more
  pub bytes_more : (xs : List M) (x : M) (rest after : List ℕ) → rest ≡ f x ++ after
      → flat_map f xs ++ rest ≡ flat_map f (xs ++ x ∷ []) ++ after
  bytes_more xs x rest after e = rw e (simp (flat_map-append, append_assoc, append-nil))

  -- one message more
  pub stand_more : (Is : M → List ℕ → Type 0) (xs : List M) (x : M) (rest after : List ℕ)
      → Stand f Is xs rest → rest ≡ f x ++ after → Is x after → Stand f Is (xs ++ x ∷ []) after
  stand_more Is [] x rest after stand e is = (is, tt)
  stand_more Is (y ∷ ys) x rest after stand e is =
      (rw (bytes_more ys x rest after e) at stand.0, stand_more Is ys x rest after stand.1 e is)

  -- messages that look at nothing
  pub stand_all : (Is : M → Type 0) (xs : List M) (tail : List ℕ) → AllByRecursion Is xs
      → Stand f (λ m x. Is m) xs tail
  stand_all Is [] tail h = tt
  stand_all Is (x ∷ xs) tail h = (h.0, stand_all Is xs tail h.1)
