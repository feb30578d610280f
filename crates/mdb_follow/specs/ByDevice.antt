-- Something of each device, of which that of one device goes on. This serves private functions.
use Rattle.std.specs.Prelude.{◌≡◌}
use Rattle.mdb_msgs.specs.declared.command.Device.{Device}

-- What is kept of one device has gone on, and what is of each other is what it was.
pub record OneGoes (Of : Device → Type 0)
    (Goes : (device : Device) → Of device → Of device → Type 0) (device : Device)
    (old new : (device : Device) → Of device) : Type 0 where
  pub own : Goes device (old device) (new device)
  pub others : (other : Device) → (other ≡ device → ⊥) → new other ≡ old other
