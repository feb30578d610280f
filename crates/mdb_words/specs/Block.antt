-- Blocks of the bus (MDB/ICP 4.3, block format), and their words on each line.
use Rattle.std.specs.Prelude.{ℕ, ◌+◌, ◌%◌, ◌<◌, ◌≤◌, List, [], ◌∷◌, ◌++◌, length, sum, All}
use Rattle.mdb_words.specs.declared.word.Line.{Line}
use Rattle.mdb_words.specs.declared.word.Line.TheVariants.{Controller, Peripheral}

-- the block of a content: the content, and the sum of its bytes modulo 256
abbrev pub block_of : List ℕ → List ℕ
block_of content = content ++ (sum content % 256) ∷ []

-- what a block carries beside its sum: 1 to 35 bytes
pub record IsContent (content : List ℕ) : Type 0 where
  pub at_least : 1 ≤ length content
  pub at_most : length content ≤ 35
  pub in_range : All (λ byte. byte < 256) content

-- the words of the controller: the first alone is marked
abbrev pub controller_words : List ℕ → List ℕ
controller_words [] = []
controller_words (byte ∷ bytes) = (256 + byte) ∷ bytes

-- the words of a peripheral: the last alone is marked
abbrev pub peripheral_words : List ℕ → List ℕ
peripheral_words [] = []
peripheral_words (byte ∷ []) = (256 + byte) ∷ []
peripheral_words (byte ∷ next ∷ bytes) = byte ∷ peripheral_words (next ∷ bytes)

-- the words of a block on a line
abbrev pub words_on : Line → List ℕ → List ℕ
words_on Controller bytes = controller_words bytes
words_on Peripheral bytes = peripheral_words bytes
