-- The summary of one message more is that of the messages before, with this one added.
use Rattle.mdb_machine.proofs.Words.{◌≡◌, ◌+◌, ◌++◌, [], ◌∷◌, ◌∙◌, List, ap, sym, subst, map, take, arith, map_more, Part, IsSummary}
use Rattle.mdb_machine.proofs.kept.summary_of.Goals as goal

pub loop-message-preserved : goal.loop-message-preserved
loop-message-preserved g c =
    let before =
    map g.M.KeptAmong.part_of (take c.loop-message.message-index c.args.messages.now) in
    let part = c.part.result in
    let more : map g.M.KeptAmong.part_of
    (take (c.loop-message.message-index + 1) c.args.messages.now) ≡ before ++ part ∷ [] =
    map_more g.M.KeptAmong.part_of c.args.messages.now c.loop-message.message-index
    c.message-item.result c.loop-message-test.true
    ∙ ap (λ p. before ++ p ∷ [])
    (ap g.M.KeptAmong.part_of (sym c.message-item.is) ∙ sym c.part.ensures) in
    let summary = c.add.new.self in
    record {
      summary =
          subst (λ (parts : List (Part g.row.M.Denot)).
          IsSummary summary.kept.items summary.reset summary.early parts) (sym more)
          (c.add.ensures.summary before c.loop-message.invariant.summary);
      room = omega (arith, c.add.ensures.room, c.loop-message.invariant.room);
    }
