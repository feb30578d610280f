-- The bytes that a reader gives up to a limit, and the mark that stands for the failure there.
use Rattle.std.specs.Prelude.{ℕ, zero, suc, List, [], ◌∷◌, Option, Some, None, option_map}
use Rattle.std.specs.Io.KnownBytes.{prepend_known}

-- what stands in a text at the limit: no byte, so no read gives it
abbrev pub mark : ℕ
mark = 256

-- a text with the mark put in after `left` bytes, where it is longer than that
unfoldable pub marked : ℕ → List ℕ → List ℕ
marked left [] = []
marked zero (b ∷ text) = mark ∷ b ∷ text
marked (suc left) (b ∷ text) = b ∷ marked left text

-- what a limited reader has left, where the reader below it has the bytes `known`: once it holds
-- the first byte past the limit it gives nothing more
abbrev pub given_of : Option (List ℕ) → ℕ → Option ℕ → Option (List ℕ)
given_of known left None = option_map (marked left) known
given_of known left (Some held) = prepend_known (mark ∷ held ∷ []) known
