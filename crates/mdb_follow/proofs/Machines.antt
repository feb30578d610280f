-- The machines that are followed: what joining needs of each.
use Rattle.mdb_follow.proofs.Words.{arith, refl, sym, ap, ◌∙◌, ◌≡◌, ◌⊎◌, inl, inr, ℕ, List, Option, Some, None, unwrap_or, Device, First, Second, Act, Beginning, device_in, Choice, Plain, Again, Gains, CanStand, no_gains, Machine, IsActOf, IsMachineOf, Arrives, machine_of, HasNoStep, Sums}
use Rattle.mdb_msgs.specs.declared.command.Device.TheVariants as devices
use Rattle.mdb_bus.specs.declared.act.Act.TheVariants as kinds
use Rattle.mdb_cash.specs.shared.BillWays as bill_ways
use Rattle.mdb_cash.specs.shared.ChangerWays as changer_ways
use Rattle.mdb_cashless.specs.shared.ByProfileWays as reader_ways
use Rattle.mdb_follow.proofs.ByDevice.{same_or_not}

-- each device has a machine of its own
pub is_machine_of : (begins : Beginning) (device : Device)
    → IsMachineOf device (machine_of begins device)
is_machine_of begins devices.Changer = changer_ways.is_machine begins
is_machine_of begins devices.Bill = bill_ways.is_machine begins
is_machine_of begins (devices.Reader unit) = reader_ways.is_machine unit begins

-- something of each device: of one this, and of the others what they have
pub with_one : (P : Device → Type 0) (device : Device) → P device → ((other : Device) → P other)
    → (other : Device) → P other
with_one P devices.Changer one others devices.Changer = one
with_one P devices.Bill one others devices.Bill = one
with_one P (devices.Reader First) one others (devices.Reader First) = one
with_one P (devices.Reader Second) one others (devices.Reader Second) = one
with_one P device one others other = others other

pub with_one-same : (P : Device → Type 0) (device : Device) (one : P device)
    (others : (other : Device) → P other) → with_one P device one others device ≡ one
unfolding with_one
with_one-same P (devices.Reader First) one others = refl
with_one-same P device one others = refl

-- a device is the one that is named, or it isn't
named_or_not : (device : Device) (named : Option Device)
    → (named ≡ Some device) ⊎ (named ≡ Some device → ⊥)
named_or_not device None = inr (λ same. absurd cc)
named_or_not device (Some one) = let either = same_or_not one device in grind arith

-- an act is a device's, or it isn't
pub of_or_not : (device : Device) (act : Act) → IsActOf device act ⊎ (IsActOf device act → ⊥)
of_or_not device (kinds.Break length) = inl tt
of_or_not device act = named_or_not device (device_in act)

-- a device that has a part in an act; but for a break and foreign traffic, the only one
pub whose : Act → Device
whose act = unwrap_or (device_in act) devices.Changer

pub whose_is : (device : Device) (act : Act) → IsActOf device act
    → ((length : ℕ) → act ≡ kinds.Break length → ⊥) → whose act ≡ device
unfolding whose
whose_is device (kinds.Break length) own whole = absurd (whole length refl)
whose_is device act own whole = ap (λ named. unwrap_or named devices.Changer) own

-- on a break the plain choice can stand alone
plain_alone : (length : ℕ) (choice : Choice) → CanStand (kinds.Break length) choice → choice ≡ Plain
plain_alone length Plain stands = refl
plain_alone length Again stands = absurd cc
plain_alone length _ stands = absurd stands

-- a device with a part in an act takes it as the one whose it is does, where each can
pub same_choice : (device : Device) (act : Act) (chosen : Device → Choice)
    → ((device : Device) → CanStand act (chosen device)) → IsActOf device act
    → chosen device ≡ chosen (whose act)
unfolding whose
same_choice device (kinds.Break length) chosen stands own =
    plain_alone length (chosen device) (stands device)
    ∙ sym (plain_alone length (chosen devices.Changer) (stands devices.Changer))
same_choice device act chosen stands own =
    ap (λ named. chosen (unwrap_or named devices.Changer)) (sym own)

module _ {State : Type 0} (device : Device) (machine : Machine State)
    (is : IsMachineOf device machine) where
  -- a step by one choice is one by another that is the same where the device has a part in the act
  pub elsewhere_as : (acts : List Act) (act : Act) (one other : Choice)
      → (IsActOf device act → one ≡ other) → (before after : State) (gains : Gains)
      → machine.Step acts act one before after gains
      → machine.Step acts act other before after gains
  elsewhere_as acts act one other same before after gains step = elim (of_or_not device act) [
    | inl own ↦ rw (same own) at step
    | inr apart ↦ (is.elsewhere acts act other before after gains apart).1
        ((is.elsewhere acts act one before after gains apart).0 step)
  ]

  -- an act by which a machine has no step, where a way leads to some state, is of its device alone
  pub whose_none : (act : Act) (before : List Act) → HasNoStep machine act before
      → (state : State) (sums : Sums) → Arrives machine before state sums → whose act ≡ device
  whose_none act before none state sums way = elim (of_or_not device act) [
    | inl own ↦ whose_is device act own (λ length same.
        let goes = is.breaks before length Plain state in
        none state sums way Plain tt goes.0 goes.1 (rw same goes.2))
    | inr apart ↦ absurd (none state sums way Plain tt state no_gains
        ((is.elsewhere before act Plain state state no_gains apart).1 (refl, refl)))
  ]
