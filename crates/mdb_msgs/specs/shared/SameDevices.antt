-- The test of two devices says whether they are one. This proves laws of devices.
use Rattle.std.specs.Prelude.{◌≡◌, ◌↔◌, true, refl}
use Rattle.std.proofs.Common.{ap, sym, ◌∙◌}
use Rattle.mdb_msgs.specs.declared.command.Device.{Device}
use Rattle.mdb_msgs.specs.declared.command.Device.TheVariants.{Changer, Bill, Reader}
use Rattle.mdb_msgs.specs.declared.command.ReaderUnit.TheVariants.{First, Second}
use Rattle.mdb_msgs.specs.Devices.{same_device}

pub itself : (device : Device) → same_device device device ≡ true
itself Changer = refl
itself Bill = refl
itself (Reader First) = refl
itself (Reader Second) = refl

pub is_one : (one other : Device) → same_device one other ≡ true → one ≡ other
is_one Changer Changer same = refl
is_one Bill Bill same = refl
is_one (Reader First) (Reader First) same = refl
is_one (Reader Second) (Reader Second) same = refl
is_one one other same = absurd cc

pub says : (one other : Device) → (same_device one other ≡ true) ↔ (one ≡ other)
says one other = (is_one one other, λ same. ap (same_device one) (sym same) ∙ itself one)
