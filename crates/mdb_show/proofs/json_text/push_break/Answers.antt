-- The members of a break come one after the other, its length last.
use Rattle.mdb_show.proofs.Words.{◌++◌, codes, decimal, rows_only_json}
use Rattle.mdb_show.proofs.JsonLines.{put_last, then_put}
use Rattle.mdb_show.proofs.json_text.push_break.Goals as goal

pub returns : goal.returns
returns c =
    let rows = rows_only_json (codes "break") c.args.first c.args.last in
    put_last c.push_decimal.result _ _ _ (rows ++ codes ",\"length\":") (decimal c.args.length)
    (then_put _ _ _ rows (codes ",\"length\":") c.in_ok-push_rows_only.ensures
    c.in_ok-extend_from_slice.ensures.items) c.push_decimal.ensures
