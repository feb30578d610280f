-- What is found of each device is what its side has.
use Rattle.mdb_follow.proofs.Words.{refl, ◌∙◌, Device, First, Second, side_in}
use Rattle.mdb_msgs.specs.declared.command.Device.TheVariants as devices
use Rattle.mdb_follow.proofs.ByDevice.{each}
use Rattle.mdb_follow.proofs.Sided.{decimals-are}
use Rattle.mdb_follow.proofs.sides.Sides.facts.Goals as goal

pub returns-clause-facts : goal.returns-clause-facts
returns-clause-facts c begins acts on =
    let shown = λ (device : Device).
    decimals-are begins device (side_in c.args.self.now device).facts acts (on device).facts in
    rw (
      c.decimals.ensures ∙ shown devices.Changer,
      c.decimals-2.ensures ∙ shown devices.Bill,
      c.decimals-3.ensures ∙ shown (devices.Reader First),
      c.decimals-4.ensures ∙ shown (devices.Reader Second),
      (on devices.Changer).counted,
      (on devices.Bill).counted,
      (on (devices.Reader First)).counted,
      (on (devices.Reader Second)).counted,
    ) refl

pub returns-clause-kept : goal.returns-clause-kept
returns-clause-kept c = each _ refl refl refl refl
