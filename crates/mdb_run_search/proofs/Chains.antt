-- Chains in links, as they grow and as they are read.
use Rattle.mdb_run_search.proofs.Words.{arith, refl, sym, ap, ◌∙◌, ◌≡◌, ◌+◌, ◌<◌, ◌≤◌, ℕ, List, [], ◌∷◌, ◌++◌, length, reverse, slice_get, Some, append_assoc, length-append, get_or_from_slice_get, same_Some, slice_get_read, get_or-append_seam, Link, Mark, Denotes, DenotesAt, IsChain, KeepChains, linked, append-nil, get_or_append_left, reverse-append, slice_get_within}
use Rattle.mdb_run_search.specs.declared.explain.chains.Chain.{Chain}
use Rattle.mdb_run_search.specs.inner.Chains.{nothing}

-- with the same links
pub keep-same : {links : List Link} → KeepChains links links
keep-same chain marks is = is

-- with more links, and with more again
pub keep-then : {old mid new : List Link} → KeepChains old mid → KeepChains mid new
    → KeepChains old new
keep-then first last chain marks is = last chain marks (first chain marks is)

-- the last link
ends : (links : List Link) (link : Link)
    → slice_get (links ++ link ∷ []) (length links) ≡ Some link
ends links link =
    slice_get_read (links ++ link ∷ []) (length links + 1) (length links) link
    (sym (length-append links (link ∷ []))) (omega arith)
    (sym (get_or-append_seam links link [] link))

module _ (links more : List Link) where
  -- a link stays where it is when more come
  still : (n : ℕ) (link : Link) → slice_get links n ≡ Some link
      → slice_get (links ++ more) n ≡ Some link
  still n link is =
      let within : n < length links = slice_get_within links n link is in
      slice_get_read (links ++ more) (length (links ++ more)) n link refl
      (omega (arith, within, length-append links more))
      (sym (get_or_append_left links more link n within
      ∙ get_or_from_slice_get links n link link is))

  -- with more links, a chain denotes what it did
  kept-at : {at : ℕ} {marks : List (ℕ × Mark)} → DenotesAt links at marks
      → DenotesAt (links ++ more) at marks
  kept-at nothing = nothing
  kept-at (linked n link rest is old) = linked n link rest (still n link is) (kept-at old)

  pub kept : KeepChains links (links ++ more)
  kept chain marks old = kept-at old

-- a link behind the others denotes one mark more
pub grown : (links : List Link) (link : Link) (marks : List (ℕ × Mark))
    → Denotes links link.parent marks
    → DenotesAt (links ++ link ∷ []) (length links + 1) (marks ++ (link.row, link.mark) ∷ [])
grown links link marks old =
    linked (length links) link marks (ends links link) (kept-at links (link ∷ []) old)

-- So many marks of a chain are read, the newest first: before them come those of what is left.
pub record IsRead (links : List Link) (chain : ℕ) (marks : List (ℕ × Mark)) (at : ℕ)
    : Type 0 where
  pub rest : List (ℕ × Mark)
  pub left : DenotesAt links at rest
  pub whole : DenotesAt links chain (rest ++ reverse marks)

-- a chain that ends with a link: what it denotes ends with the mark of this link
record EndsBy (links : List Link) (link : Link) (whole : List (ℕ × Mark)) : Type 0 where
  marks : List (ℕ × Mark)
  older : Denotes links link.parent marks
  is : whole ≡ marks ++ (link.row, link.mark) ∷ []

module _ {links : List Link} where
  pub begins : (chain : Chain) → IsChain links chain → IsRead links chain.at [] chain.at
  begins chain is =
      record { rest = is.0; left = is.1; whole = rw append-nil is.1 }

  ends-by : (n : ℕ) (link : Link) → slice_get links n ≡ Some link → {at : ℕ}
      {whole : List (ℕ × Mark)} → at ≡ n + 1 → DenotesAt links at whole → EndsBy links link whole
  ends-by n link there same nothing = absurd (omega arith)
  ends-by n link there same (linked m other marks is old) =
      let here : m ≡ n = omega arith in
      let one : other ≡ link = same_Some other link (sym (rw here at is) ∙ there) in
      record {
        marks = marks;
        older = rw one at old;
        is = ap (λ l. marks ++ (l.row, l.mark) ∷ []) one;
      }

  -- no mark before the first
  none-left : {at : ℕ} {whole : List (ℕ × Mark)} → at ≡ 0 → DenotesAt links at whole → whole ≡ []
  none-left none nothing = refl
  none-left none (linked m other marks is old) = absurd (omega arith)

  pub reads_on : {chain : ℕ} {marks : List (ℕ × Mark)} (n at : ℕ) (link : Link) → at ≡ n + 1
      → slice_get links n ≡ Some link → IsRead links chain marks at
      → IsRead links chain (marks ++ (link.row, link.mark) ∷ []) link.parent.at
  reads_on {marks = marks} n at link same there read =
      let by = ends-by n link there same read.left in
      record {
        rest = by.marks;
        left = by.older;
        whole = rw reverse-append (rw (by.is, append_assoc) at read.whole);
      }

  pub is_read : {chain : ℕ} {marks : List (ℕ × Mark)} (at : ℕ) → at ≡ 0
      → IsRead links chain marks at → DenotesAt links chain (reverse marks)
  is_read at none read = rw (none-left none read.left) at read.whole

  -- what a chain denotes is among the links
  pub within-at : {at : ℕ} {marks : List (ℕ × Mark)} → DenotesAt links at marks → at ≤ length links
  within-at nothing = omega arith
  within-at (linked n link rest is old) =
      let within : n < length links = slice_get_within links n link is in omega (arith, within)

  -- a chain denotes one list of marks
  pub denotes-one : {at : ℕ} {one other : List (ℕ × Mark)} → DenotesAt links at one
      → DenotesAt links at other → one ≡ other
  denotes-one nothing is = sym (none-left refl is)
  denotes-one (linked n link marks there old) is =
      let by = ends-by n link there refl is in
      ap (λ ms. ms ++ (link.row, link.mark) ∷ []) (denotes-one old by.older) ∙ sym by.is
