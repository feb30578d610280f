-- Each round adds at most one member, so they stand in the order of all accounts.
use Rattle.mdb_json.proofs.Words.{account_member, filter, keeps, map, members, members_view, take, ◌≡◌}
use Rattle.mdb_json.proofs.account.accounts_of.Given as goal

-- those of the accounts so far that the device keeps are members
abbrev pub invariant-loop-name : goal.invariant-loop-name
invariant-loop-name l =
    members_view l.accounts.entries
    ≡ members (map (account_member l.all) (filter (keeps l.device)
    (take l.name-index l.name-items)))
