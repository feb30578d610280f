-- Which bytes and words are blocks, and why others are none.
use Rattle.std.specs.Prelude.{◌≡◌, ◌≢◌, ℕ, ◌%◌, ◌<◌, ◌≤◌, List, [], ◌∷◌, ◌++◌, length, sum}
use Rattle.mdb_words.specs.declared.block.BlockFault.{BlockFault}
use Rattle.mdb_words.specs.declared.block.BlockFault.TheVariants.{Empty, TooLong, BadSum}
use Rattle.mdb_words.specs.Block.{IsContent, block_of}

-- a block: a content and its sum, so 2 to 36 bytes in all
pub record IsBlock (bytes : List ℕ) : Type 0 where
  pub content : List ℕ
  pub is_content : IsContent content
  pub summed : bytes ≡ block_of content

-- why a content has no block
abbrev pub IsSealFault : List ℕ → BlockFault → Type 0
IsSealFault content Empty = content ≡ []
IsSealFault content TooLong = 35 < length content
IsSealFault content BadSum = ⊥

-- why bytes are no block, the first reason that applies; with `BadSum` they are 2 to 36 bytes whose
-- last isn't the sum of the others modulo 256
abbrev pub IsUnsealFault : List ℕ → BlockFault → Type 0
IsUnsealFault bytes Empty = length bytes < 2
IsUnsealFault bytes TooLong = 36 < length bytes
IsUnsealFault bytes BadSum =
    (front : List ℕ) × (last : ℕ) × (bytes ≡ front ++ last ∷ [])
    × (1 ≤ length front) × (length front ≤ 35) × (last ≢ sum front % 256)
