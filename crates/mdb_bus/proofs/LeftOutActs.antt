-- The acts in which a device has a part, where further devices are left out: those of a device that
-- stays followed stay, and a device that is left out has a part in breaks alone.
use Rattle.mdb_bus.proofs.Words.{[], Act, acts_of, acts_with, ArePieces, Bool, breaks_among, Device, device_in, DeviceSet, Event, false, filter, First, has, has_part, is_break, is_left_out, is_one_left_out, is_this, IsFollowed, IsLeftOut, List, None, Option, Piece, piece_events, refl, Scope, Second, Some, sym, true, Whole, with_foreign, ◌∙◌, ◌∷◌, ◌≡◌}
use Rattle.mdb_msgs.specs.Devices.{same_device}
use Rattle.mdb_bus.specs.LeavingOut.{leave_out}
use Rattle.mdb_msgs.specs.declared.command.Device.TheVariants as devices
use Rattle.mdb_bus.specs.declared.act.Act.TheVariants as acts
use Rattle.mdb_bus.proofs.Named.{IsOneFollowed, in_act}
use Rattle.mdb_bus.proofs.LeftOutOrder.{leaving}

-- a device that is left out is another than one that isn't
apart : (set : DeviceSet) (one other : Device) → (has set one ≡ has set other → ⊥)
    → same_device one other ≡ false
apart set devices.Changer devices.Changer differ = absurd (differ refl)
apart set devices.Bill devices.Bill differ = absurd (differ refl)
apart set (devices.Reader First) (devices.Reader First) differ = absurd (differ refl)
apart set (devices.Reader Second) (devices.Reader Second) differ = absurd (differ refl)
apart set one other differ = refl

-- acts that are kept with one more that is, and with one that isn't
kept : (keep other : Act → Bool) (act : Act) (one rest : List Act) → keep act ≡ other act
    → filter keep one ≡ filter other rest → filter keep (act ∷ one) ≡ filter other (act ∷ rest)
kept keep other act one rest part same = rw (part, same)

dropped : (keep : Act → Bool) (act : Act) (rest : List Act) → keep act ≡ false
    → filter keep (act ∷ rest) ≡ filter keep rest
dropped keep act rest none = rw none

-- What is kept of the acts that stay is what is kept by another test of the acts that there were:
-- by that one none is that is left out, and both agree on what stays.
module _ (scope : Scope) (keep other : Act → Bool) (foreign : keep acts.Foreign ≡ false)
    (out : (act : Act) (events : List Event) → is_left_out scope (Whole act events) ≡ true
    → other act ≡ false)
    (stays : (act : Act) (events : List Event) → is_left_out scope (Whole act events) ≡ false
    → keep act ≡ other act) where
  -- none of the foreign acts is kept
  no_foreign : (events : List Event) (pieces : List Piece)
      → filter keep (acts_of (with_foreign events pieces)) ≡ filter keep (acts_of pieces)
  no_foreign [] pieces = refl
  no_foreign (event ∷ events) pieces =
      no_foreign events (Whole acts.Foreign (event ∷ []) ∷ pieces)
      ∙ dropped keep acts.Foreign (acts_of pieces) foreign

  -- none of what is left out, and what stays is where the other test keeps it
  its_out : (piece : Piece) (pieces : List Piece) → is_left_out scope piece ≡ true
      → filter other (acts_of (piece ∷ pieces)) ≡ filter other (acts_of pieces)
  its_out (Whole act events) pieces is = dropped other act (acts_of pieces) (out act events is)
  its_out piece pieces is = refl

  its_kept : (piece : Piece) (one rest : List Piece) → is_left_out scope piece ≡ false
      → filter keep (acts_of one) ≡ filter other (acts_of rest)
      → filter keep (acts_of (piece ∷ one)) ≡ filter other (acts_of (piece ∷ rest))
  its_kept (Whole act events) one rest is same = kept keep other act _ _ (stays act events is) same
  its_kept piece one rest is same = same

  -- so the acts that are kept are those
  left : (pieces : List Piece)
      → filter keep (acts_of (leave_out scope pieces)) ≡ filter other (acts_of pieces)
  left [] = refl
  left (piece ∷ pieces) =
      leaving scope piece pieces
      (λ ps. filter keep (acts_of ps) ≡ filter other (acts_of (piece ∷ pieces)))
      (λ is. no_foreign (piece_events piece) (leave_out scope pieces)
      ∙ (left pieces ∙ sym (its_out piece pieces is)))
      (λ is. its_kept piece (leave_out scope pieces) pieces is (left pieces))

module _ (scope : Scope) (device : Device) where
  -- a device that is followed has no part in what is of one that is left out
  not_named : (named : Option Device) → IsFollowed scope device
      → is_one_left_out scope named ≡ true → is_this device named ≡ false
  not_named None followed out = refl
  not_named (Some one) followed out = apart scope.without device one (λ same. cc)

  no_part : IsFollowed scope device → (act : Act) (events : List Event)
      → is_left_out scope (Whole act events) ≡ true → has_part device act ≡ false
  no_part followed acts.Foreign events out = refl
  no_part followed (acts.Break length) events out = cc
  no_part followed act events out = not_named (device_in act) followed out

  -- so the acts of a device that is followed stay
  pub own_acts_stay : (pieces : List Piece) → IsFollowed scope device
      → acts_with device (acts_of (leave_out scope pieces)) ≡ acts_with device (acts_of pieces)
  own_acts_stay pieces followed =
      left scope (has_part device) (has_part device) refl (no_part followed)
      (λ act events is. refl) pieces

  -- a device that is left out has a part in an act of others only if that is a break
  nor_named : (named : Option Device) → IsLeftOut scope device → IsOneFollowed scope named
      → is_this device named ≡ false
  nor_named None out followed = refl
  nor_named (Some one) out followed = apart scope.without device one (λ same. cc)

  part_of_breaks : (act : Act) → IsLeftOut scope device → IsOneFollowed scope (device_in act)
      → has_part device act ≡ is_break act
  part_of_breaks (acts.Break length) out followed = refl
  part_of_breaks act out followed = nor_named (device_in act) out followed

  -- so in an act list a device that is left out has a part in breaks alone
  pub breaks_alone : (pieces : List Piece) → ArePieces scope pieces → IsLeftOut scope device
      → acts_with device (acts_of pieces) ≡ breaks_among (acts_of pieces)
  breaks_alone [] order out = refl
  breaks_alone (Whole act events ∷ pieces) order out =
      kept (has_part device) is_break act (acts_of pieces) (acts_of pieces)
      (part_of_breaks act out (in_act scope act events pieces order))
      (breaks_alone pieces order.2 out)
  breaks_alone (piece ∷ pieces) order out = breaks_alone pieces order.2 out

  -- what stays names a device that is followed, or none
  kept_followed : (act : Act) (events : List Event)
      → is_left_out scope (Whole act events) ≡ false → IsOneFollowed scope (device_in act)
  kept_followed acts.Foreign events kept = tt
  kept_followed (acts.Break length) events kept = tt
  kept_followed act events kept = kept

  -- and what is left out is no break
  no_break : (act : Act) (events : List Event) → is_left_out scope (Whole act events) ≡ true
      → is_break act ≡ false
  no_break (acts.Break length) events out = cc
  no_break act events out = refl

  -- where a device is left out, it has a part in the breaks that there were
  pub breaks_left : (pieces : List Piece) → IsLeftOut scope device
      → acts_with device (acts_of (leave_out scope pieces)) ≡ breaks_among (acts_of pieces)
  breaks_left pieces out =
      left scope (has_part device) is_break refl no_break
      (λ act events is. part_of_breaks act out (kept_followed act events is)) pieces
