-- An act that ends is listed.
use Rattle.std.proofs.Common.{◌++◌, ◌∷◌, [], arith, refl}
use Rattle.mdb_page.proofs.Turns.{act_taken, are_of, few_earlier, row_more}
use Rattle.mdb_page.proofs.walk.Lists.end.Goals as goal

pub returns-clause-taken : goal.returns-clause-taken
returns-clause-taken c stay before pieces longer has turn =
    let more = row_more (c.cut_before.ensures.begun stay before pieces longer c.args.at has turn)
    turn.row turn.start c.add.ensures in
    let are = are_of turn.grown.begun turn.row more in
    act_taken turn are
    (c.act.ensures stay before turn.grown.earlier (turn.grown.begun ++ turn.row ∷ []) more.listed
    (omega (
      arith,
      few_earlier turn,
      more.to,
      c.add.ensures.last,
      c.cut_before.ensures.last,
      c.requires.room,
    )) are) refl refl
