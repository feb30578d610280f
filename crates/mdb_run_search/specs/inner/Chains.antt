-- What a chain of marks denotes. This serves private functions.
use Rattle.std.specs.Prelude.{◌+◌, ◌≤◌, ◌≡◌, ℕ, List, [], ◌∷◌, ◌++◌, Some, slice_get}
use Rattle.std.specs.Option.{ForSome}
use Rattle.mdb_run_search.specs.declared.explain.chains.Chain.{Chain}
use Rattle.mdb_run_search.specs.declared.explain.chains.Link.{Link}
use Rattle.mdb_run_search.specs.declared.mark.Mark.{Mark}

-- A chain denotes its marks with their rows, the oldest first: 0 is no mark, and n + 1 the marks of
-- the chain that link n goes on from, and then the mark of this link.
pub data DenotesAt (links : List Link) : ℕ → List (ℕ × Mark) → Type 0 where
  nothing : DenotesAt links 0 []
  linked : (n : ℕ) (link : Link) (marks : List (ℕ × Mark)) → slice_get links n ≡ Some link
      → DenotesAt links link.parent.at marks
      → DenotesAt links (n + 1) (marks ++ (link.row, link.mark) ∷ [])

abbrev pub Denotes : List Link → Chain → List (ℕ × Mark) → Type 0
Denotes links chain marks = DenotesAt links chain.at marks

-- a chain of links: it denotes some marks
abbrev pub IsChain : List Link → Chain → Type 0
IsChain links chain = (marks : List (ℕ × Mark)) × Denotes links chain marks

-- each link goes on from a chain of links before it
abbrev pub GoBack : List Link → Type 0
GoBack links = (n : ℕ) → ForSome (slice_get links n) (λ link. link.parent.at ≤ n)

-- with these links each chain denotes what it did with those
abbrev pub KeepChains : List Link → List Link → Type 0
KeepChains old new =
    (chain : Chain) (marks : List (ℕ × Mark)) → Denotes old chain marks → Denotes new chain marks
