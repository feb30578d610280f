-- That what counts of acts for a device counts of its own acts alone, where other acts tell nothing
-- and what counts goes on act by act. This proves laws of machines.
use Rattle.std.specs.Prelude.{◌≡◌, ◌↔◌, ℕ, Bool, true, false, List, [], ◌∷◌, Option, Some, None, refl, if◌then◌else◌}
use Rattle.std.specs.List.{All, AllByRecursion}
use Rattle.std.proofs.Common.{ap, sym, ◌∙◌}
use Rattle.std.proofs.lemmas.Bool.{cond-false, cond-true, false_from_ne_true, iff_false}
use Rattle.std.proofs.lemmas.List.Elements.{recursion_from_All}
use Rattle.std.proofs.lemmas.Option.{same_Some}
use Rattle.mdb_msgs.specs.declared.command.Device.{Device}
use Rattle.mdb_msgs.specs.Devices.{same_device}
use Rattle.mdb_msgs.specs.shared.SameDevices.{is_one, itself}
use Rattle.mdb_bus.specs.declared.act.Act.{Act}
use Rattle.mdb_bus.specs.declared.act.Act.TheVariants as acts
use Rattle.mdb_bus.specs.LeavingOut.{device_in, has_part, is_this}
use Rattle.mdb_machine.specs.Pair.{IsActOf, IsBreak, own_acts}

by_name : (device : Device) (named : Option Device)
    → (is_this device named ≡ true) ↔ (named ≡ Some device)
by_name device None = (λ same. absurd cc, λ same. absurd cc)
by_name device (Some one) = (
  λ same. ap (λ (d : Device). Some d) (sym (is_one device one same)),
  λ same. ap (same_device device) (same_Some one device same) ∙ itself device,
)

-- the test of an act says whether the device has a part in it
pub decides : (device : Device) (act : Act) → (has_part device act ≡ true) ↔ IsActOf device act
decides device (acts.Break length) = (λ same. tt, λ of. refl)
decides device act = by_name device (device_in act)

-- an act in which the device has a part is one of its own acts, and any other leaves these
pub with_own : (device : Device) (act : Act) (so_far : List Act) → IsActOf device act
    → own_acts device (act ∷ so_far) ≡ act ∷ own_acts device so_far
with_own device act so_far of =
    cond-true (has_part device act) (act ∷ own_acts device so_far) (own_acts device so_far)
    ((decides device act).1 of)

pub with_other : (device : Device) (act : Act) (so_far : List Act) → (IsActOf device act → ⊥)
    → own_acts device (act ∷ so_far) ≡ own_acts device so_far
with_other device act so_far other =
    cond-false (has_part device act) (act ∷ own_acts device so_far) (own_acts device so_far)
    (false_from_ne_true (has_part device act) (λ yes. other ((decides device act).0 yes)))

-- What is known of acts, where it goes on act by act and an act in which the device has no part
-- leaves it.
pub record IsOfOwn {Known : Type 0} (device : Device) (known : List Act → Known) : Type 0 where
  pub more : Act → Known → Known
  pub goes_on : (act : Act) (so_far : List Act) → more act (known so_far) ≡ known (act ∷ so_far)
  pub still : (act : Act) (so_far : List Act) → (IsActOf device act → ⊥)
      → known so_far ≡ known (act ∷ so_far)

-- it is known of the device's own acts
one_more : {Known : Type 0} {device : Device} (known : List Act → Known) → IsOfOwn device known
    → (act : Act) (so_far own : List Act) (its : Bool) → has_part device act ≡ its
    → known so_far ≡ known own → known (act ∷ so_far) ≡ known (if its then act ∷ own else own)
one_more known is act so_far own true its same =
    sym (is.goes_on act so_far) ∙ ap (is.more act) same ∙ is.goes_on act own
one_more {device = device} known is act so_far own false its same =
    sym (is.still act so_far (iff_false (decides device act) its)) ∙ same

pub of_own : {Known : Type 0} {device : Device} (known : List Act → Known) → IsOfOwn device known
    → (so_far : List Act) → known so_far ≡ known (own_acts device so_far)
of_own known is [] = refl
of_own {device = device} known is (act ∷ so_far) =
    one_more known is act so_far (own_acts device so_far) (has_part device act) refl
    (of_own known is so_far)

-- so it is one thing of acts among which the device's own are the same
pub same_known : {Known : Type 0} {device : Device} (known : List Act → Known)
    → IsOfOwn device known → (so_far other : List Act)
    → own_acts device so_far ≡ own_acts device other → known so_far ≡ known other
same_known known is so_far other same =
    of_own known is so_far ∙ ap known same ∙ sym (of_own known is other)

-- and where its own are breaks alone, a part of it that breaks leave is that of no act
broken : {Known Part : Type 0} (known : List Act → Known) (part : Known → Part)
    → ((length : ℕ) (so_far : List Act)
    → part (known (acts.Break length ∷ so_far)) ≡ part (known so_far)) → (own : List Act)
    → AllByRecursion IsBreak own → part (known own) ≡ part (known [])
broken known part leaves [] all = refl
broken known part leaves (acts.Break length ∷ own) all =
    leaves length own ∙ broken known part leaves own all.1
broken known part leaves (act ∷ own) all = absurd all.0

pub part_of_none : {Known Part : Type 0} {device : Device} (known : List Act → Known)
    (part : Known → Part) → IsOfOwn device known
    → ((length : ℕ) (so_far : List Act)
    → part (known (acts.Break length ∷ so_far)) ≡ part (known so_far))
    → (so_far : List Act) → All IsBreak (own_acts device so_far)
    → part (known so_far) ≡ part (known [])
part_of_none {device = device} known part is leaves so_far all =
    ap part (of_own known is so_far)
    ∙ broken known part leaves (own_acts device so_far) (recursion_from_All IsBreak _ all)
