-- What a writer that may fail has taken of a text.
use Rattle.std.specs.Prelude.{◌≡◌, ◌++◌, ℕ, List, Option}
use Rattle.std.specs.Io.KnownBytes.{Appends}

-- The bytes that a writer holds, where they are known, have grown by a front of the text: by all of
-- it, by some of its first bytes, or by none.
pub record HasTaken (before after : Option (List ℕ)) (text : List ℕ) : Type 0 where
  pub front : List ℕ
  pub rest : List ℕ
  pub parts : text ≡ front ++ rest
  pub grown : Appends before after front
