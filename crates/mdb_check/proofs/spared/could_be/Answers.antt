-- An early row could be exactly where a new bus takes it.
use Rattle.mdb_check.proofs.Words.{CouldBe, HasActList, IsTrue, [], subst, sym, ◌↔◌, ◌∷◌}
use Rattle.mdb_check.proofs.spared.could_be.Goals as goal

pub returns-in-Early : goal.returns-in-Early
returns-in-Early c rows pieces whole in_scope last on_bus =
    subst (λ r. IsTrue c.takes.result ↔ CouldBe c.args.scope.now rows c.args.met.now.row r)
    (sym c.in-Early.is)
    (subst (λ s. IsTrue c.takes.result ↔ HasActList s (c.args.met.now.row ∷ []))
    c.scoped.ensures.scope (c.takes.ensures [] c.scoped.ensures.stands))
