-- A reply and a repeat have the text of their act.
use Rattle.mdb_show.proofs.Words.{ap, sym, act_json}
use Rattle.mdb_show.proofs.JsonLines.{put_as}
use Rattle.mdb_show.proofs.json_text.push_act.Goals as goal

pub returns-in-Reply : goal.returns-in-Reply
returns-in-Reply c =
    put_as c.push_reply.result _ _ _ _
    (ap (λ act. act_json c.args.first c.args.last act) (sym c.in-Reply.is)) c.push_reply.ensures

pub returns-in-Repeat : goal.returns-in-Repeat
returns-in-Repeat c =
    put_as c.push_reply-in-Repeat.result _ _ _ _
    (ap (λ act. act_json c.args.first c.args.last act) (sym c.in-Repeat.is))
    c.push_reply-in-Repeat.ensures
