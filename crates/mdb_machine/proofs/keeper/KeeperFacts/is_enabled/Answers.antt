-- A mask has 16 bits, so no type from 16 on is enabled.
use Rattle.mdb_machine.proofs.Words.{◌≡◌, ◌==◌, ◌<◌, ◌≤◌, false, sym, ap, ◌∙◌, arith, le-ltb, bit_at}
use Rattle.mdb_machine.proofs.Masks.{past_mask}
use Rattle.mdb_machine.proofs.keeper.KeeperFacts.is_enabled.Goals as goal

pub returns-else-kind-lt16 : goal.returns-else-kind-lt16
returns-else-kind-lt16 g c =
    let past : 16 ≤ c.args.kind = c.if-kind-lt16.false in
    let small : c.args.self.now.enabled < 65536 = omega arith in
    let none : (bit_at c.args.self.now.enabled c.args.kind == 1) ≡ false =
    ap (λ n. n == 1) (past_mask c.args.self.now.enabled c.args.kind small past) in
    le-ltb c.args.kind 16 past ∙ sym none
