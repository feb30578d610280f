-- The chain of a best way has the marks of that way.
use Rattle.mdb_run_search.proofs.Words.{Denotes, if-ok}
use Rattle.mdb_run_search.proofs.AllPaths.{best-chain, best-listed, best-marks}
use Rattle.mdb_run_search.proofs.explain.all_paths.AllPaths.marks.Goals as goal

pub read-requires : goal.read-requires
read-requires c =
    let device = c.args.device in
    let are = c.requires.3 device in
    best-chain c.requires.0 device c.requires.1 are
    (best-listed c.requires.0 device c.requires.1 are c.requires.4 c.best-best.ensures)

pub returns : goal.returns
returns c =
    let device = c.args.device in
    if-ok c.read.result
    (λ marks. Denotes c.args.self.now.chains.links.items c.best-best.result.chain marks.items) _
    (λ marks read profile aim pieces are way. best-marks profile device aim (are device)
    (best-listed profile device aim (are device) way c.best-best.ensures) read)
    c.read.ensures
