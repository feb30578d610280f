-- The codes of a reader's states, and that states and codes are one to one. Which state has which
-- code is irrelevant.
use Rattle.std.specs.Prelude.{◌≡◌, ℕ, zero, suc, ◌+◌, ◌*◌, ◌/◌, ◌%◌, ◌<◌, Bool, true, false, if◌then◌else◌, refl}
use Rattle.std.proofs.Common.{arith, sym, ap, ◌∙◌}
use Rattle.mdb_cashless.specs.declared.reader.device.DeviceState.{DeviceState}
use Rattle.mdb_cashless.specs.declared.reader.device.DeviceState.TheVariants as device
use Rattle.mdb_cashless.specs.declared.reader.device.Home.{Home}
use Rattle.mdb_cashless.specs.declared.reader.device.Home.TheVariants as home
use Rattle.mdb_cashless.specs.declared.reader.state.ReaderState.{ReaderState}
use Rattle.mdb_cashless.specs.declared.reader.view.View.{View}
use Rattle.mdb_cashless.specs.declared.reader.view.View.TheVariants as view

-- the numbers of the homes, of the reader's states and of the views
abbrev pub home_number : Home → ℕ
home_number home.Disabled = 0
home_number home.Enabled = 1

abbrev pub device_number : DeviceState → ℕ
device_number device.Inactive = 0
device_number device.Disabled = 1
device_number device.Enabled = 2
device_number (device.Idle back) = 3 + home_number back
device_number (device.Vend back) = 5 + home_number back
device_number (device.Approved back) = 7 + home_number back
device_number (device.Ending back) = 9 + home_number back

abbrev pub view_number : View → ℕ
view_number view.NoSession = 0
view_number view.Idle = 1
view_number view.Asked = 2
view_number view.Waiting = 3
view_number view.Approved = 4
view_number view.SuccessOwed = 5
view_number view.FailureOwed = 6
view_number view.Ending = 7

abbrev pub holds_number : Bool → ℕ
holds_number holds = if holds then 1 else 0

-- the code of a state
abbrev pub code_of : ReaderState → ℕ
code_of state =
    16 * device_number state.device + 2 * view_number state.view + holds_number state.holds

-- what has a number
abbrev device_at : ℕ → DeviceState
device_at zero = device.Inactive
device_at (suc zero) = device.Disabled
device_at (suc (suc zero)) = device.Enabled
device_at (suc (suc (suc zero))) = device.Idle home.Disabled
device_at (suc (suc (suc (suc zero)))) = device.Idle home.Enabled
device_at (suc (suc (suc (suc (suc zero))))) = device.Vend home.Disabled
device_at (suc (suc (suc (suc (suc (suc zero)))))) = device.Vend home.Enabled
device_at (suc (suc (suc (suc (suc (suc (suc zero))))))) = device.Approved home.Disabled
device_at (suc (suc (suc (suc (suc (suc (suc (suc zero)))))))) = device.Approved home.Enabled
device_at (suc (suc (suc (suc (suc (suc (suc (suc (suc zero))))))))) = device.Ending home.Disabled
device_at (suc (suc (suc (suc (suc (suc (suc (suc (suc (suc n)))))))))) =
    device.Ending home.Enabled

abbrev view_at : ℕ → View
view_at zero = view.NoSession
view_at (suc zero) = view.Idle
view_at (suc (suc zero)) = view.Asked
view_at (suc (suc (suc zero))) = view.Waiting
view_at (suc (suc (suc (suc zero)))) = view.Approved
view_at (suc (suc (suc (suc (suc zero))))) = view.SuccessOwed
view_at (suc (suc (suc (suc (suc (suc zero)))))) = view.FailureOwed
view_at (suc (suc (suc (suc (suc (suc (suc n))))))) = view.Ending

abbrev holds_at : ℕ → Bool
holds_at zero = false
holds_at (suc n) = true

device_again : (d : DeviceState) → device_at (device_number d) ≡ d
device_again device.Inactive = refl
device_again device.Disabled = refl
device_again device.Enabled = refl
device_again (device.Idle home.Disabled) = refl
device_again (device.Idle home.Enabled) = refl
device_again (device.Vend home.Disabled) = refl
device_again (device.Vend home.Enabled) = refl
device_again (device.Approved home.Disabled) = refl
device_again (device.Approved home.Enabled) = refl
device_again (device.Ending home.Disabled) = refl
device_again (device.Ending home.Enabled) = refl

view_again : (v : View) → view_at (view_number v) ≡ v
view_again view.NoSession = refl
view_again view.Idle = refl
view_again view.Asked = refl
view_again view.Waiting = refl
view_again view.Approved = refl
view_again view.SuccessOwed = refl
view_again view.FailureOwed = refl
view_again view.Ending = refl

holds_again : (h : Bool) → holds_at (holds_number h) ≡ h
holds_again true = refl
holds_again false = refl

-- numbers are small
small_home : (p : Home) → home_number p < 2
small_home home.Disabled = omega arith
small_home home.Enabled = omega arith

small_device : (d : DeviceState) → device_number d < 11
small_device device.Inactive = omega arith
small_device device.Disabled = omega arith
small_device device.Enabled = omega arith
small_device (device.Idle back) = let small = small_home back in omega arith
small_device (device.Vend back) = let small = small_home back in omega arith
small_device (device.Approved back) = let small = small_home back in omega arith
small_device (device.Ending back) = let small = small_home back in omega arith

small_view : (v : View) → view_number v < 8
small_view view.NoSession = omega arith
small_view view.Idle = omega arith
small_view view.Asked = omega arith
small_view view.Waiting = omega arith
small_view view.Approved = omega arith
small_view view.SuccessOwed = omega arith
small_view view.FailureOwed = omega arith
small_view view.Ending = omega arith

small_holds : (h : Bool) → holds_number h < 2
small_holds true = omega arith
small_holds false = omega arith

-- the parts of a code
same_parts : (d v h e w i : ℕ) → v < 8 → h < 2 → w < 8 → i < 2
    → 16 * d + 2 * v + h ≡ 16 * e + 2 * w + i → (d ≡ e) × (v ≡ w) × (h ≡ i)
same_parts d v h e w i p q r s same = (
  omega (arith, p, q, r, s, same),
  omega (arith, p, q, r, s, same),
  omega (arith, p, q, r, s, same),
)

-- two states have two codes
pub apart : (one other : ReaderState) → code_of one ≡ code_of other → one ≡ other
apart one other e =
    let parts = same_parts (device_number one.device) (view_number one.view)
    (holds_number one.holds) (device_number other.device) (view_number other.view)
    (holds_number other.holds) (small_view one.view) (small_holds one.holds)
    (small_view other.view) (small_holds other.holds) e in
    let devices : one.device ≡ other.device =
    sym (device_again one.device) ∙ (ap device_at parts.0 ∙ device_again other.device) in
    let views : one.view ≡ other.view =
    sym (view_again one.view) ∙ (ap view_at parts.1 ∙ view_again other.view) in
    let holding : one.holds ≡ other.holds =
    sym (holds_again one.holds) ∙ (ap holds_at parts.2 ∙ holds_again other.holds) in
    let same : record one { holds = one.holds } ≡ record other { holds = other.holds } =
    cc (devices, views, holding) in
    same

-- codes are below 176
pub below : (state : ReaderState) → code_of state < 176
below state =
    let d = small_device state.device in
    let v = small_view state.view in
    let h = small_holds state.holds in
    omega (arith, d, v, h)

-- each number is that of what it was made for
device_back : (n : ℕ) → n < 11 → device_number (device_at n) ≡ n
device_back zero small = refl
device_back (suc zero) small = refl
device_back (suc (suc zero)) small = refl
device_back (suc (suc (suc zero))) small = refl
device_back (suc (suc (suc (suc zero)))) small = refl
device_back (suc (suc (suc (suc (suc zero))))) small = refl
device_back (suc (suc (suc (suc (suc (suc zero)))))) small = refl
device_back (suc (suc (suc (suc (suc (suc (suc zero))))))) small = refl
device_back (suc (suc (suc (suc (suc (suc (suc (suc zero)))))))) small = refl
device_back (suc (suc (suc (suc (suc (suc (suc (suc (suc zero))))))))) small = refl
device_back (suc (suc (suc (suc (suc (suc (suc (suc (suc (suc n)))))))))) small =
    omega (arith, small)

view_back : (n : ℕ) → n < 8 → view_number (view_at n) ≡ n
view_back zero small = refl
view_back (suc zero) small = refl
view_back (suc (suc zero)) small = refl
view_back (suc (suc (suc zero))) small = refl
view_back (suc (suc (suc (suc zero)))) small = refl
view_back (suc (suc (suc (suc (suc zero))))) small = refl
view_back (suc (suc (suc (suc (suc (suc zero)))))) small = refl
view_back (suc (suc (suc (suc (suc (suc (suc n))))))) small = omega (arith, small)

holds_back : (n : ℕ) → n < 2 → holds_number (holds_at n) ≡ n
holds_back zero small = refl
holds_back (suc n) small = omega (arith, small)

-- each number below 176 is a code
pub whole : (code : ℕ) → code < 176 → (state : ReaderState) × (code_of state ≡ code)
whole code small =
    let d = device_back (code / 16) (omega (arith, small)) in
    let v = view_back (code % 16 / 2) (omega (arith, small)) in
    let h = holds_back (code % 2) (omega (arith, small)) in (
      record {
        device = device_at (code / 16);
        view = view_at (code % 16 / 2);
        holds = holds_at (code % 2);
      },
      omega (arith, small, d, v, h),
    )
