-- Sums that wrap at each step end as the sum of all bytes modulo 256.
use Rattle.std.proofs.Common.{rules, ◌≡◌, ◌+◌, ◌%◌, ◌∙◌, fold, arith}
use Rattle.mdb_words.proofs.Sums.{fold_wrapping}
use Rattle.mdb_words.proofs.block.sum_of.Goals as goal

pub returns : goal.returns
returns c =
    let steps : c.fold.result ≡ fold (λ s b. (s + b) % 256) 0 c.args.bytes.now = search rules in
    omega (arith, steps ∙ fold_wrapping 0 c.args.bytes.now (omega arith))
