-- What is kept of each device, by the places of the devices: that of one goes on, and in a loop
-- over the devices that of each.
use Rattle.mdb_follow.proofs.Words.{refl, ap, sym, inl, inr, ◌∙◌, ◌≡◌, ◌⊎◌, ◌+◌, ◌<◌, ◌≤◌, ℕ, suc, arith, get_or, cases_eq, Device, First, Second, DEVICES, device_place}
use Rattle.mdb_msgs.specs.declared.command.Device.TheVariants as devices
use Rattle.mdb_follow.specs.ByDevice.{OneGoes}

-- what is of each device
abbrev pub each : (Of : Device → Type 0) → Of devices.Changer → Of devices.Bill
    → Of (devices.Reader First) → Of (devices.Reader Second) → (device : Device) → Of device
each Of changer bill first second devices.Changer = changer
each Of changer bill first second devices.Bill = bill
each Of changer bill first second (devices.Reader First) = first
each Of changer bill first second (devices.Reader Second) = second

-- the device of a place
device_at : ℕ → Device
device_at place = get_or DEVICES place devices.Changer

at_place : (device : Device) → device_at (device_place device) ≡ device
unfolding device_at
at_place (devices.Reader First) = refl
at_place device = refl

pub below : (device : Device) → device_place device < 4
below (devices.Reader First) = omega arith
below device = omega arith

-- devices of one place are one
pub one_place : (one other : Device) → device_place one ≡ device_place other → one ≡ other
one_place one other same = sym (at_place one) ∙ (ap device_at same ∙ at_place other)

-- two devices are one, or they aren't
pub same_or_not : (one other : Device) → (one ≡ other) ⊎ (one ≡ other → ⊥)
same_or_not one other =
    elim (cases_eq (device_place one) (device_place other)) [
      | inl same ↦ inl (one_place one other same)
      | inr apart ↦ inr (λ same. apart (ap device_place same))
    ]

-- the place of the device that stands at a place
pub placed : (place : ℕ) (d : Device) → place < 4 → device_place (get_or DEVICES place d) ≡ place
placed (suc (suc (suc (suc place)))) d less = absurd (omega (arith, less))
placed place d less = refl

-- a device that stands before the one after a place, and isn't that of the place, stands before it
pub earlier : (count : ℕ) (next device : Device) → device_place next ≡ count
    → device_place device < count + 1 → (device ≡ next → ⊥) → device_place device < count
earlier count next device at less apart =
    elim (cases_eq (device_place device) (device_place next)) [
      | inl same ↦ absurd (apart (one_place device next same))
      | inr other ↦ omega (arith, less, at, other)
    ]

-- Something of each device, of which that of one device after the other goes on.
module _ (Of : Device → Type 0) (Goes : (device : Device) → Of device → Of device → Type 0) where
  -- What is kept of the devices before a place has gone on, and of the others it is what it was.
  pub record Front (count : ℕ) (old new : (device : Device) → Of device) : Type 0 where
    pub gone : (device : Device) → device_place device < count
        → Goes device (old device) (new device)
    pub kept : (device : Device) → count ≤ device_place device → new device ≡ old device

  module _ (count : ℕ) (old : (device : Device) → Of device) where
    -- what is kept of the next device is what it was
    pub front-next : (mid : (device : Device) → Of device) (d : Device) → count < 4
        → Front count old mid → mid (get_or DEVICES count d) ≡ old (get_or DEVICES count d)
    front-next mid d within front =
        let at = placed count d within in front.kept (get_or DEVICES count d) (omega (arith, at))

    pub front-more : (mid new : (device : Device) → Of device) (d : Device) → count < 4
        → Front count old mid → OneGoes Of Goes (get_or DEVICES count d) mid new
        → Front (count + 1) old new
    front-more mid new d within front one =
        let at = placed count d within in
        record {
          gone = λ device less. elim (same_or_not device (get_or DEVICES count d)) [
            | inl same ↦ rw same (rw (front-next mid d within front) at one.own)
            | inr apart ↦ rw (one.others device apart)
                (front.gone device (earlier count (get_or DEVICES count d) device at less apart))
          ];
          kept = λ device above.
              one.others device (λ same. let is = ap device_place same in
              omega (arith, above, at, is))
              ∙ front.kept device (omega (arith, above));
        }

    pub front-all : (new : (device : Device) → Of device) → 4 ≤ count → Front count old new
        → (device : Device) → Goes device (old device) (new device)
    front-all new all front device = front.gone device (omega (arith, all, below device))
