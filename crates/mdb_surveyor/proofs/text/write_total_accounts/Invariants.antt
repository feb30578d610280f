-- Each round appends the line of one account's total to what was written.
use Rattle.std.proofs.Common.{◌++◌, codes, take}
use Rattle.std.specs.Io.KnownBytes.{Appends}
use Rattle.std.specs.List.{flat_map}
use Rattle.mdb_surveyor.specs.Totals.{total_of}
use Rattle.mdb_text.specs.Text.{account_line}
use Rattle.mdb_surveyor.proofs.text.write_total_accounts.Given as goal

-- the accounts so far have their lines
abbrev pub invariant-loop-name : goal.invariant-loop-name
invariant-loop-name g l =
    Appends (g.W.Write.contents l.fn.writer) (g.W.Write.contents l.writer)
    (flat_map (λ name. codes "total " ++ account_line name (total_of name l.totals))
    (take l.name-index l.name-items))
