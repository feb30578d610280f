-- Two to 36 bytes are a block where the last is the sum of the others.
use Rattle.std.proofs.Common.{sym, refl, ◌∙◌}
use Rattle.mdb_words.proofs.Blocks.{block_from_sum}
use Rattle.mdb_words.proofs.block.unseal.Goals as goal

pub invariant_of-result : goal.invariant_of-result
invariant_of-result c =
    rw c.listed.ensures (block_from_sum c.args.bytes.now c.in_default.len_at_least
    c.if-bytes-gt-BLOCK_MAX.false c.type_inv.bytes
    (sym c.sum_of.ensures ∙ c.if-sum_of-sum.true))

pub returns-in-len1-up-clause-exactly : goal.returns-in-len1-up-clause-exactly
returns-in-len1-up-clause-exactly c = (
  λ _. block_from_sum c.args.bytes.now c.in_default.len_at_least c.if-bytes-gt-BLOCK_MAX.false
      c.type_inv.bytes (sym c.sum_of.ensures ∙ c.if-sum_of-sum.true),
  λ _. refl,
)
