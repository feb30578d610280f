-- Before the first entry.
use Rattle.mdb_explain.proofs.Words.{HasMarkedRun, [], from_power_on, refl, subst}
use Rattle.mdb_explain.proofs.EntryByEntry as steps
use Rattle.mdb_explain.proofs.replaying.Replaying.new.Goals as goal

pub returns-clause-none : goal.returns-clause-none
returns-clause-none c =
    let only =
    c.replays_stand_for_the_only_run_with_their_marks.ensures c.from_power_on.result [] []
    c.from_power_on.ensures.stands in
    steps.starts (from_power_on c.args.profile c.args.without) _ c.from_power_on.ensures.scope
    c.from_power_on.ensures.stands
    (subst (λ s. HasMarkedRun s [] []) c.from_power_on.ensures.scope (only.0, only.1))
    c.from_power_on.ensures.empty c.new.ensures.items refl refl
