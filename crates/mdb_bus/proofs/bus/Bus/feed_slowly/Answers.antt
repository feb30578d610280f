-- A row that is taken goes on, and one that is refused has its fault.
use Rattle.mdb_bus.proofs.Feed.{has_fault}
use Rattle.mdb_bus.proofs.Verdicts.{covers_same}
use Rattle.mdb_bus.proofs.bus.Bus.feed_slowly.Goals as goal

pub returns-in-Ok-clause-goes_on : goal.returns-in-Ok-clause-goes_on
returns-in-Ok-clause-goes_on c pieces stands =
    c.in-Ok.ensures.goes_on pieces _ c.haste_after-haste.result stands
    (covers_same _ _ c.profile-times.ensures) c.awaits_foreign-self.ensures
    (λ next leads. c.haste_after-haste.ensures)

pub returns-in-Err-clause-faults : goal.returns-in-Err-clause-faults
returns-in-Err-clause-faults c pieces stands =
    has_fault c.args.self.now pieces stands c.args.event.now c.in-Err.rule c.fault.result
    (c.in-Err.ensures.breaks pieces stands c.profile-times.ensures)
    (rw c.in-Err.ensures.unchanged at c.fault.ensures)

pub returns-in-Err-clause-impossible : goal.returns-in-Err-clause-impossible
returns-in-Err-clause-impossible c pieces stands has =
    let faulty = returns-in-Err-clause-faults c pieces stands in
    c.rows_that_break_a_rule_end_the_act_list.ensures c.args.self.now.scope pieces
    c.args.event.now faulty.first stands.in_order faulty.rule.breaks has
