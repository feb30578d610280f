-- Bytes that agree with the reply in each of the four readings are alike.
use Rattle.mdb_bus.proofs.Words.{refl}
use Rattle.mdb_bus.proofs.FormatLaws.{alike_each}
use Rattle.mdb_bus.proofs.format.are_alike.Goals as goal

pub returns-clause-alike : goal.returns-clause-alike
returns-clause-alike c = λ is.
    alike_each c.args.command.now c.args.bytes.now c.args.reply.now c.long.ensures
    c.long-2.ensures c.short.ensures c.short-2.ensures (c.if-not-agrees.ensures.alike refl)
    (c.if-not-agrees-2.ensures.alike refl) (c.if-not-agrees-3.ensures.alike refl)
    (c.agrees-4.ensures.alike is)
