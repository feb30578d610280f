-- What is known of any device, and the amounts of it without a value, by what is known of each.
use Rattle.mdb_follow.proofs.Words.{refl, ◌≡◌, ℕ, List, [], None, All, Device, ReaderUnit, Act, Beginning, PowerOn, Joined, profile_of, IsBreak, own_acts, IsNotKnown, decimals_of, reported_of, unvalued_of}
use Rattle.mdb_msgs.specs.declared.command.Device.TheVariants as devices
use Rattle.mdb_bus.specs.declared.scope.Profile.TheVariants as profiles
use Rattle.mdb_cash.specs.shared.BillWays as bill_ways
use Rattle.mdb_cash.specs.shared.ChangerWays as changer_ways
use Rattle.mdb_cashless.specs.ByProfileFacts.{unvalued}
use Rattle.mdb_cashless.specs.shared.ByProfileWays.{of_each}
use Rattle.mdb_cashless.proofs.ByProfileKnown as reader_known

-- both depend on the own acts of the device alone
pub same_known : (begins : Beginning) (device : Device) (acts other : List Act)
    → own_acts device acts ≡ own_acts device other
    → (reported_of device).known begins acts ≡ (reported_of device).known begins other
same_known begins devices.Changer = changer_ways.same_facts begins
same_known begins devices.Bill = bill_ways.same_facts begins
same_known begins (devices.Reader unit) = reader_known.same_facts begins unit

pub same_unvalued : (begins : Beginning) (device : Device) (acts other : List Act)
    → own_acts device acts ≡ own_acts device other
    → unvalued_of begins device acts ≡ unvalued_of begins device other
same_unvalued begins devices.Changer = changer_ways.same_unvalued begins
same_unvalued begins devices.Bill = bill_ways.same_unvalued begins
same_unvalued begins (devices.Reader unit) = reader_known.same_unvalued begins unit

-- where nothing is known of a device from elsewhere it has no decimal places after no act
none_before : (begins : Beginning) (device : Device) → IsNotKnown begins device
    → decimals_of begins device [] ≡ None
none_before (PowerOn profiles.Base) (devices.Reader unit) none = refl
none_before (PowerOn profiles.Extended) (devices.Reader unit) none = refl
none_before (PowerOn profile) device none = refl
none_before (Joined setups profiles.Base) (devices.Reader unit) none = rw none
none_before (Joined setups profiles.Extended) (devices.Reader unit) none = rw none
none_before (Joined setups profile) device none = rw none

-- nor after breaks, which tell nothing of it
pub no_decimals : (begins : Beginning) (device : Device) (acts : List Act)
    → All IsBreak (own_acts device acts) → IsNotKnown begins device
    → decimals_of begins device acts ≡ None
no_decimals begins devices.Changer acts alone none =
    rw (changer_ways.no_setup begins acts alone) (none_before begins devices.Changer none)
no_decimals begins devices.Bill acts alone none =
    rw (bill_ways.no_setup begins acts alone) (none_before begins devices.Bill none)
no_decimals begins (devices.Reader unit) acts alone none =
    rw (reader_known.no_config begins unit acts alone)
    (none_before begins (devices.Reader unit) none)

pub no_unvalued : (begins : Beginning) (device : Device) (acts : List Act)
    → All IsBreak (own_acts device acts) → unvalued_of begins device acts ≡ 0
no_unvalued begins devices.Changer = changer_ways.none_told begins
no_unvalued begins devices.Bill = bill_ways.none_told begins
no_unvalued begins (devices.Reader unit) = reader_known.none_told begins unit

-- no act tells no amount of a reader
pub none_unvalued : (unit : ReaderUnit) (begins : Beginning) → unvalued unit begins [] ≡ 0
none_unvalued unit begins = of_each (λ (u : List Act → ℕ). u [] ≡ 0) (profile_of begins) refl refl
