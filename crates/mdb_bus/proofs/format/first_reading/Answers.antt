-- A reading is the first where those before it have faults. Four faults make a joint one.
use Rattle.mdb_bus.proofs.Words.{HasFault, inl, inr, refl, subst, sym}
use Rattle.mdb_bus.specs.declared.format.Format.TheVariants.{Open}
use Rattle.mdb_bus.proofs.FormatLaws.{in_this, joint}
use Rattle.mdb_bus.proofs.format.first_reading.Goals as goal

pub returns-in_default-fault_in-3-clause-found : goal.returns-in_default-fault_in-3-clause-found
returns-in_default-fault_in-3-clause-found c =
    let command = c.args.command.now in
    let bytes = c.args.bytes.now in
    let its = rw c.short-2.ensures at
    (c.fault_in-4.ensures.none (rw c.in_default-fault_in-3.is refl)) in
    let one = in_this command bytes c.long.ensures c.fault_in.ensures.fault c.in-Some.is in
    let two = in_this command bytes c.long-2.ensures c.fault_in-2.ensures.fault
    c.in-Some-fault_in.is in
    let three = in_this command bytes c.short.ensures c.fault_in-3.ensures.fault
    c.in-Some-fault_in-2.is in
    rw c.short-in_default-fault_in-3.ensures (
      its.0,
      (its.1.0, its.1.1, its.1.2),
      inr (
        (_, rw its.1.2 at one),
        inr (
          (_, rw its.1.2 at two),
          inr ((_, rw its.1.2 at three), inl its.1.0),
        ),
      ),
    )

pub returns-clause-fault : goal.returns-clause-fault
returns-clause-fault c =
    let command = c.args.command.now in
    let bytes = c.args.bytes.now in
    subst (λ fault. HasFault Open command bytes fault) (sym c.joint_fault.ensures)
    (joint c.bytes_have_one_fault.ensures command bytes _ _ _ _
    (in_this command bytes c.long.ensures c.fault_in.ensures.fault c.in-Some.is)
    (in_this command bytes c.long-2.ensures c.fault_in-2.ensures.fault c.in-Some-fault_in.is)
    (in_this command bytes c.short.ensures c.fault_in-3.ensures.fault c.in-Some-fault_in-2.is)
    (in_this command bytes c.short-2.ensures c.fault_in-4.ensures.fault c.in-Some-fault_in-3.is))
