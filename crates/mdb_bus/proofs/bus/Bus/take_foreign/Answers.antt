-- Foreign traffic is open, and the bus keeps whether an answer is awaited.
use Rattle.mdb_bus.proofs.Words.{ap, ended_act, refl, ◌∙◌}
use Rattle.mdb_bus.specs.ExtendedHaste.{awaited_after}
use Rattle.mdb_bus.proofs.Feed.{gone_foreign}
use Rattle.mdb_bus.proofs.bus.Bus.take_foreign.Goals as goal

pub returns-clause-gone : goal.returns-clause-gone
returns-clause-gone c =
    gone_foreign c.args.self.now _ c.args.event.now refl refl refl refl
    (ended_act c.advance.result c.advance.new.act) refl
    (c.awaited_after-self.ensures ∙ ap (awaited_after c.args.event.now) c.is_awaited.ensures)
    (c.advance.ensures.advanced tt)
