-- Each message moves the escrow on, and after an impossible one there is none.
use Rattle.mdb_cash.proofs.Words.{◌≡◌, drop, length, arith, ap, ◌∙◌, Stacked}
use Rattle.std.proofs.Math.Seq.{drop-length}
use Rattle.std.proofs.lemmas.List.{drop_more}
use Rattle.mdb_cash.proofs.Escrows.{leaves_all, leaves_more, leaves_none}
use Rattle.mdb_cash.proofs.bill.conduct.move_bills.Goals as goal

pub loop-message-init : goal.loop-message-init
loop-message-init c = record { as_rest = λ to. (λ takes. takes, λ takes. takes) }

pub returns-in_err-escrow : goal.returns-in_err-escrow
returns-in_err-escrow c =
    rw c.from_residual.ensures (leaves_none (drop_more c.args.messages.now
    c.loop-message.message-index (Stacked 0) c.loop-message-test.true) c.in_err-escrow.ensures
    c.loop-message.invariant)

pub loop-message-preserved : goal.loop-message-preserved
loop-message-preserved c =
    leaves_more (drop_more c.args.messages.now c.loop-message.message-index (Stacked 0)
    c.loop-message-test.true) c.in_ok-escrow.ensures c.loop-message.invariant

pub returns : goal.returns
returns c =
    let all : c.loop-message.message-index ≡ length c.args.messages.now =
    omega (arith, c.loop-message-test.false, c.loop-message.auto.message-index-end) in
    leaves_all (ap (λ i. drop i c.args.messages.now) all ∙ drop-length c.args.messages.now)
    c.loop-message.invariant
