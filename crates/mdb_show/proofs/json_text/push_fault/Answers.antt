-- The members of a fault come one after the other, its rule last.
use Rattle.mdb_show.proofs.Words.{◌++◌, codes, decimal, blame_json, head_json, rule_json}
use Rattle.mdb_show.proofs.JsonLines.{put_last, then_put}
use Rattle.mdb_show.proofs.json_text.push_fault.Goals as goal

pub returns : goal.returns
returns c =
    let head = head_json (codes "fault") in
    let blame = blame_json c.args.fault.blame in
    let row = codes ",\"row\":" in
    put_last c.push_rule.result _ _ _ (head ++ blame ++ row ++ decimal c.args.row)
    (rule_json c.args.fault.rule)
    (then_put _ _ _ (head ++ blame ++ row) (decimal c.args.row)
    (then_put _ _ _ (head ++ blame) row
    (then_put _ _ _ head blame c.in_ok-push_head.ensures c.in_ok-push_blame.ensures)
    c.in_ok-extend_from_slice.ensures.items) c.in_ok-push_decimal.ensures)
    c.push_rule.ensures
