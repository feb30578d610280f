-- An ACK of anything but POLL steps as the device's own conduct says.
use Rattle.mdb_machine.proofs.Words.{Bool, Some, sym, subst, ◌∙◌, AckStep, facts_in, IsOnlyStep}
use Rattle.mdb_machine.proofs.conduct.ack.Goals as goal

pub returns-then-not-is_poll-clause-step : goal.returns-then-not-is_poll-clause-step
returns-then-not-is_poll-clause-step g c =
    subst (λ (p : Bool). IsOnlyStep (AckStep g.K.Conduct.conduct (facts_in c.args.facts.now) p
    c.args.command c.args.choice c.args.before) (Some c.ack.result))
    (sym c.if-not-is_poll.true ∙ c.is_poll.ensures) c.ack.ensures.step
