-- A further byte of a block leaves a command open, or is its last.
use Rattle.mdb_bus.proofs.Words.{ap, arith, Exactly, length, needed, rules, sym, ℕ, ◌%◌, ◌+◌, ◌∙◌, ◌≡◌, ◌≤◌}
use Rattle.mdb_bus.proofs.Verdicts.{are_bytes, further_end, further_front}
use Rattle.mdb_bus.proofs.effects.asking.further_byte.Goals.{in_default-via-in-Exactly+else-so_far-length, in_default-via-in_default}
use Rattle.mdb_bus.proofs.effects.asking.further_byte.Goals as goal

pub returns-in-Exactly : goal.returns-in-Exactly
returns-in-Exactly c profile known =
    let told : needed c.args.so_far.now ≡ Exactly c.in-Exactly.length = sym c.need_of.ensures
    ∙ c.in-Exactly.is in
    let front = further_front profile c.need_leaves_a_command_open.ensures
    c.first_two_bytes_tell_enable_options.ensures c.args.so_far.now (c.args.word % 256)
    c.in-Exactly.length c.requires.two (are_bytes c.args.so_far.now c.type_inv.so_far)
    (omega arith) (rw c.requires.is at known) told c.if-so_far-length.true in
    (omega (arith, c.requires.unmarked), rw c.requires.is front)

pub end_of_ask_effect-requires-clause-last : goal.end_of_ask_effect-requires-clause-last
end_of_ask_effect-requires-clause-last c =
    let same = ap length c.requires.is in
    let most : (n : ℕ) → c.need_of.result ≡ Exactly n → n ≤ length c.args.bytes.now + 1 =
    λ n exact. (elim c.in_default.branch [
      | in_default-via-in-Exactly+else-so_far-length w ↦
          let one : w.in-Exactly.length ≡ n = cc (w.in-Exactly.is, exact) in
          omega (arith, w.if-so_far-length.false)
      | in_default-via-in_default w ↦ absurd (search rules)
    ]) in
    let told = ap needed c.requires.is ∙ sym c.need_of.ensures in
    further_end c.args.bytes.now c.need_of.result (omega arith) told most c.requires.begun
