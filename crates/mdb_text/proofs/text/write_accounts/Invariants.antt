-- Each round appends the line of one account to what was written.
use Rattle.mdb_text.proofs.Words.{Appends, account_line, account_of, flat_map, take}
use Rattle.mdb_text.proofs.text.write_accounts.Given as goal

-- the accounts so far have their lines
abbrev pub invariant-loop-name : goal.invariant-loop-name
invariant-loop-name g l =
    Appends (g.W.Write.contents l.fn.writer) (g.W.Write.contents l.writer)
    (flat_map (λ name. account_line name (account_of name l.report))
    (take l.name-index l.name-items))
