-- The side of an act's one device goes on, or those of all do by a break, or none.
use Rattle.mdb_follow.proofs.Words.{inl, inr, IfErr-weaker, IfOk-weaker, on_err_weaker}
use Rattle.mdb_follow.proofs.Sided.{all-follow, break-stops-none, none-follows}
use Rattle.mdb_follow.proofs.sides.Sides.lead.Goals as goal

pub returns-in-One-clause-followed : goal.returns-in-One-clause-followed
returns-in-One-clause-followed c = IfOk-weaker c.lead_one.result _ _
    (λ _. all-follow c.in-One.device c.args.self.now c.lead_one.new.self c.args.act.now
    (λ other. (c.in-One.ensures other).0)) c.lead_one.ensures.followed

pub returns-in-One-clause-stay : goal.returns-in-One-clause-stay
returns-in-One-clause-stay c = on_err_weaker c.lead_one.result inl c.lead_one.ensures.same

pub returns-in-All-clause-stay : goal.returns-in-All-clause-stay
returns-in-All-clause-stay c = IfErr-weaker c.lead_all.result _ _
    (λ broken stops. inr (break-stops-none c.args.self.now c.args.act.now broken c.in-All.ensures
    stops)) c.lead_all.ensures.stopped

pub returns-in-Nobody-clause-followed : goal.returns-in-Nobody-clause-followed
returns-in-Nobody-clause-followed c =
    none-follows c.args.self.now c.args.act.now c.in-Nobody.ensures
