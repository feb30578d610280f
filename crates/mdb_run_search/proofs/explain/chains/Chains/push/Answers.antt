-- A further link is a chain with one mark more.
use Rattle.mdb_run_search.proofs.Words.{arith, ◌≡◌, length, Link}
use Rattle.mdb_run_search.proofs.Chains.{grown, kept}
use Rattle.mdb_run_search.proofs.explain.chains.Chains.push.Goals as goal

pub returns-clause-grown : goal.returns-clause-grown
returns-clause-grown c marks old =
    let link : Link = record { row = c.args.row; mark = c.args.mark; parent = c.args.chain } in
    let counted : c.len-at.result ≡ length c.args.self.now.links.items =
    omega (arith, c.len-at.ensures, c.args.self.now.links.ok) in
    rw (c.in_ok-push.ensures.items, counted) (grown c.args.self.now.links.items link marks old)

pub returns-clause-kept : goal.returns-clause-kept
returns-clause-kept c chain marks old =
    rw c.in_ok-push.ensures.items (kept c.args.self.now.links.items _ chain marks old)
