-- A step that is added stands in the list beside those that were there.
use Rattle.mdb_machine.proofs.Knowing.{with_one}
use Rattle.mdb_machine.proofs.conduct.add_step.Goals as goal

pub returns-in-Some-clause-items : goal.returns-in-Some-clause-items
returns-in-Some-clause-items g c one =
    rw c.in-Some.is (with_one c.args.steps.now.items c.push.new.self.items c.in-Some.step
    c.push.ensures.items one)
