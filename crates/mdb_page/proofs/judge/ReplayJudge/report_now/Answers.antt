-- A replay that goes on has a report.
use Rattle.std.proofs.Common.{[], true≢false, sym}
use Rattle.mdb_page.proofs.judge.ReplayJudge.report_now.Goals as goal

pub unreachable-requires : goal.unreachable-requires
unreachable-requires c =
    true≢false (sym (c.in-Err.ensures.answers c.requires.1 [] c.requires.2.1))
