-- Which device a block is for, told from its first byte.
use Rattle.mdb_msgs.proofs.Words.{◌≡◌, ◌≤◌, length, nat_tests, block_of, Device, ReaderUnit, First, Second, MsgFault, IsCommandFault, IsRefused, reader_address, device_at, need, need_for, reader_need, ℕ, ◌+◌, ◌-◌, ◌/◌, ◌%◌, ◌<◌, List, [], ◌∷◌, slice_get, slice_index, sum, Option, Some, arith, ap, sym, ◌∙◌, length-append}
use Rattle.mdb_msgs.specs.declared.command.Device.TheVariants.{Changer, Bill, Reader}

pub at_first : (first : ℕ) → 0x10 ≤ first → first ≤ 0x17 → device_at first ≡ Some (Reader First)
at_first first least most = let address : first / 8 ≡ 2 = omega arith in rw address

pub at_second : (first : ℕ) → 0x60 ≤ first → first ≤ 0x67
    → device_at first ≡ Some (Reader Second)
at_second first least most = let address : first / 8 ≡ 12 = omega arith in rw address

-- a first byte has the address of a device
abbrev address_of : Device → ℕ
address_of Changer = 0x08
address_of Bill = 0x30
address_of (Reader unit) = reader_address unit

at_address : (first : ℕ) (device : Device) → device_at first ≡ Some device
    → first ≡ address_of device + first % 8
at_address first (Reader First) at = grind (arith, nat_tests)
at_address first device at = grind (arith, nat_tests)

-- a first byte for a reader has its address, and one for any device is a byte
pub of_reader : (first : ℕ) (unit : ReaderUnit) → device_at first ≡ Some (Reader unit)
    → first ≡ reader_address unit + first % 8
of_reader first unit = at_address first (Reader unit)

pub low : (first : ℕ) (device : Device) → device_at first ≡ Some device → first < 256
low first (Reader First) at = omega (arith, at_address first (Reader First) at)
low first device at = omega (arith, at_address first device at)

pub need_at : (first : ℕ) (second : Option ℕ) {device : Option Device} → device_at first ≡ device
    → need first second ≡ need_for device first second
need_at first second at = ap (λ device. need_for device first second) at

need_of_reader : (unit : ReaderUnit) (first : ℕ) (second : Option ℕ) → reader_address unit ≤ first
    → first ≤ reader_address unit + 7 → reader_need (first - reader_address unit) second
    ≡ need first second
need_of_reader First first second least most =
    ap (λ command. reader_need command second) (let e : first - 0x10 ≡ first % 8 = omega arith in e)
    ∙ sym (need_at first second (at_first first least most))
need_of_reader Second first second least most =
    ap (λ command. reader_need command second) (let e : first - 0x60 ≡ first % 8 = omega arith in e)
    ∙ sym (need_at first second (at_second first least most))

-- what refuses a block to a reader refuses it as a command
pub refused_by_reader : (unit : ReaderUnit) (content : List ℕ) (fault : MsgFault)
    → 1 ≤ length content → reader_address unit ≤ slice_index content 0
    → slice_index content 0 ≤ reader_address unit + 7
    → IsRefused (reader_need (slice_index content 0 - reader_address unit)
    (slice_get (block_of content) 1)) (length content + 1) fault
    → IsCommandFault (block_of content) fault
refused_by_reader unit [] fault some least most refused = absurd (omega arith)
refused_by_reader unit (first ∷ rest) fault some least most refused =
    rw (
      length-append (first ∷ rest) ((sum (first ∷ rest) % 256) ∷ []),
      ← need_of_reader unit first (slice_get (block_of (first ∷ rest)) 1) least most,
    ) refused
