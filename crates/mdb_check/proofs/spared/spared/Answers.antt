-- By the base profile a time is answered exactly where the row could be at another time.
use Rattle.mdb_check.proofs.Words.{CouldBe, IsTrue, ap, false, subst, sym, true, ◌↔◌, ◌∙◌, ◌≡◌}
use Rattle.mdb_bus.specs.Bus as links
use Rattle.mdb_check.specs.Spared as spec
use Rattle.mdb_check.proofs.spared.spared.Goals as goal

pub returns-then-could_be : goal.returns-then-could_be
returns-then-could_be c rows accepted noted last earlier =
    let could : IsTrue c.could_be.result
    ↔ CouldBe c.args.scope.now rows c.args.met.now.row c.args.met.now.offence.rule =
    c.could_be.ensures rows accepted.pieces accepted.act_list.whole
    (ap links.scope_of c.into_bus.ensures ∙ c.requires) last
    (λ late. subst (λ b. links.StandsFor b accepted.pieces) (sym c.into_bus.ensures)
    (accepted.on_bus c.args.met.now.offence noted late)) in
    record {
      some = (
        sym c.profile.ensures ∙ c.in-Base.is,
        ap (λ l. spec.time_of c.args.met.now.offence.rule l c.args.met.now.row) (sym last)
            ∙ sym c.time_of.ensures ∙ c.in_ok-micros-in-Base.was,
        could.0 c.if-could_be.true,
        c.is_ret.ensures ∙ ap (λ l. spec.is_ret l c.args.met.now.last) earlier
            ∙ ap (spec.is_ret (spec.before_last rows)) last,
      );
      none = tt;
    }

pub returns-else-could_be : goal.returns-else-could_be
returns-else-could_be c rows accepted noted last earlier =
    let could : IsTrue c.could_be.result
    ↔ CouldBe c.args.scope.now rows c.args.met.now.row c.args.met.now.offence.rule =
    c.could_be.ensures rows accepted.pieces accepted.act_list.whole
    (ap links.scope_of c.into_bus.ensures ∙ c.requires) last
    (λ late. subst (λ b. links.StandsFor b accepted.pieces) (sym c.into_bus.ensures)
    (accepted.on_bus c.args.met.now.offence noted late)) in
    record {
      some = tt;
      none = λ base timed is.
          let clash : false ≡ true = sym c.if-could_be.false ∙ could.1 is in absurd (cc clash);
    }
