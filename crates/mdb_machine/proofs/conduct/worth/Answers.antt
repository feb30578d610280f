-- One message more adds its gain to each account, and all sums stay small.
use Rattle.mdb_machine.proofs.Words.{◌≡◌, ◌+◌, ◌*◌, ◌≤◌, ℕ, List, take, arith, ap, sym, ◌∙◌, subst, AllByRecursion, worth, facts_in}
use Rattle.std.proofs.lemmas.List.Sums.{sum_by_more}
use Rattle.mdb_machine.proofs.Slots.{two_by_slot}
use Rattle.mdb_machine.proofs.conduct.worth.Goals as goal

pub loop-message-preserved : goal.loop-message-preserved
loop-message-preserved g c =
    let inv = c.loop-message.invariant in
    let at = c.loop-message.message-index in
    let messages = c.args.messages.now in
    let gain : ℕ → g.row.K-Kept.Denot → ℕ = g.K.Conduct.conduct.gain (facts_in c.args.facts.now) in
    let so_far : ℕ → ℕ → ℕ =
    λ count slot.
    worth g.K.Conduct.conduct (facts_in c.args.facts.now) (take count messages) slot in
    let small = subst (λ (list : List ℕ). AllByRecursion (λ amount. amount ≤ 268435455 * at) list)
    inv.value inv.small in
    let more : (slot : ℕ)
    → so_far (at + 1) slot ≡ so_far at slot + gain slot c.message-item.result = λ slot.
    sum_by_more (gain slot) messages at c.message-item.result c.loop-message-test.true
    ∙ ap (λ m. so_far at slot + gain slot m) (sym c.message-item.is) in
    record {
      value = rw inv.value
          (two_by_slot (so_far (at + 1)) _ _
          (ap (λ n. so_far at 0 + n) c.gain.ensures.value ∙ sym (more 0))
          (ap (λ n. so_far at 1 + n) c.gain-in-loop-message.ensures.value ∙ sym (more 1)));
      small = rw inv.value (
        omega (arith, small.0, c.gain.ensures.small),
        (omega (arith, small.1.0, c.gain-in-loop-message.ensures.small), tt),
      );
    }
