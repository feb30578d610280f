-- A replay without marks tells offences alone.
use Rattle.std.proofs.Common.{[]}
use Rattle.mdb_page.proofs.PlainReplays.{no_mark_fault, plain_offence}
use Rattle.mdb_page.proofs.judge.ReplayJudge.take.Goals as goal

pub unreachable-requires : goal.unreachable-requires
unreachable-requires c =
    let rows = c.requires.1 in
    no_mark_fault _ rows c.args.event _ _ c.in-Err-Mark.field-0-is
    (c.in-Err-Mark.ensures.fault rows [] c.requires.2.1)

pub returns-in-Err-Offence-clause-refused : goal.returns-in-Err-Offence-clause-refused
returns-in-Err-Offence-clause-refused c = λ scope rows stands.
    plain_offence _ scope rows c.args.event _ _ stands.0 c.in-Err-Offence.field-0-is
    (c.in-Err-Offence.ensures.fault rows [] stands.1)
