-- An account that the device keeps adds its member, and any other adds none.
use Rattle.mdb_json.proofs.Words.{ALL, account_member, keeps, sym, ◌∙◌}
use Rattle.mdb_json.proofs.Objects.{one_passed_over, one_taken}
use Rattle.mdb_json.proofs.account.accounts_of.Goals as goal
use Rattle.mdb_json.proofs.account.accounts_of.Goals.{then-keeps+in_ok-value+in_ok-put, else-keeps}

pub loop-name-preserved : goal.loop-name-preserved
loop-name-preserved c =
    elim c.if-keeps.branch [
      | then-keeps+in_ok-value+in_ok-put w ↦
          rw (w.accounts-is, w.in_ok-put.ensures.ok, w.word.ensures, w.in_ok-value.ensures)
          (rw c.loop-name.invariant
          (sym (one_taken (account_member c.args.all.now) (keeps c.args.device) ALL _ _
          c.loop-name-test.true (sym c.keeps.ensures ∙ w.if-keeps.true))))
      | else-keeps w ↦
          rw (w.accounts-is, c.loop-name.invariant)
          (sym (one_passed_over (account_member c.args.all.now) (keeps c.args.device) ALL _ _
          c.loop-name-test.true (sym c.keeps.ensures ∙ w.if-keeps.false)))
    ]
