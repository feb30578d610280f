-- No act names a device that is left out, and no fault of the link is blamed on one.
use Rattle.mdb_bus.proofs.Words.{[], Act, ap, ArePieces, Asked, asked_device, Blame, blame_of, blame_on, Bool, Controller, counted_as, Device, device_in, device_of, Event, false, fault_of, First, haste_of, if◌then◌else◌, inl, inr, InRepeat, InReply, is_excused, IsFollowed, IsLinkFault, LinkFault, List, None, Option, Peripheral, Piece, Position, position_of, refl, RepeatTail, Replied, ReplyTail, Returned, Rule, Scope, Second, Some, sym, true, Whole, wide_of, Word, ◌&&◌, ◌∙◌, ◌∷◌, ◌≡◌, ◌⊎◌}
use Rattle.mdb_msgs.specs.declared.command.Device.TheVariants as device
use Rattle.mdb_bus.specs.declared.act.Act.TheVariants as acts
use Rattle.mdb_bus.specs.declared.fault.Blame.TheVariants as blame
use Rattle.mdb_bus.specs.declared.fault.Rule.TheVariants as rule
use Rattle.mdb_bus.proofs.Lists.{at_first}

-- the device of the command that is open at a position
abbrev pub device_at : Position → Option Device
device_at (Asked command) = Some (device_of command)
device_at (InReply command bytes) = Some (device_of command)
device_at (Replied command reply) = Some (device_of command)
device_at (Returned command reply) = Some (device_of command)
device_at (InRepeat command reply words) = Some (device_of command)
device_at _ = None

-- a device is followed, if there is one
abbrev pub IsOneFollowed : Scope → Option Device → Type 0
IsOneFollowed scope None = Unit {0}
IsOneFollowed scope (Some device) = IsFollowed scope device

module _ (scope : Scope) where
  -- the device whose command is open after pieces in order is followed
  open_followed : (pieces : List Piece) → ArePieces scope pieces
      → IsOneFollowed scope (device_at (position_of scope pieces))
  open_followed [] order = at_first (λ p. IsOneFollowed scope (device_at p)) tt tt scope.begins
  open_followed (Whole (acts.Ask command) events ∷ pieces) order = order.0.said.0.followed
  open_followed (Whole (acts.Reply command reply) events ∷ pieces) order =
      rw order.1.comes.0 at (open_followed pieces order.2)
  open_followed (Whole (acts.VmcRet command reply) events ∷ pieces) order =
      rw order.1.comes.0 at (open_followed pieces order.2)
  open_followed (Whole (acts.Repeat command reply) events ∷ pieces) order =
      rw order.1.comes.0 at (open_followed pieces order.2)
  open_followed (ReplyTail command bytes events ∷ pieces) order =
      rw order.1.comes.0 at (open_followed pieces order.2)
  open_followed (RepeatTail command reply words events ∷ pieces) order =
      rw order.1.comes.0 at (open_followed pieces order.2)
  open_followed (piece ∷ pieces) order = tt

  -- so the device that an act names is followed: an answer names the one whose command is open
  pub in_act : (act : Act) (events : List Event) (pieces : List Piece)
      → ArePieces scope (Whole act events ∷ pieces) → IsOneFollowed scope (device_in act)
  in_act (acts.Ask command) events pieces order = order.0.said.0.followed
  in_act acts.Foreign events pieces order = tt
  in_act (acts.Break length) events pieces order = tt
  in_act act events pieces order = rw order.1.comes.0 at (open_followed pieces order.2)

  pub named_followed : (act : Act) (events : List Event) (pieces : List Piece) (device : Device)
      → ArePieces scope (Whole act events ∷ pieces) → device_in act ≡ Some device
      → IsFollowed scope device
  named_followed act events pieces device order is = rw is at (in_act act events pieces order)

  -- the device that was asked last is followed
  last_asked : (pieces : List Piece) → ArePieces scope pieces
      → IsOneFollowed scope (asked_device pieces)
  last_asked [] order = tt
  last_asked (Whole (acts.Ask command) events ∷ pieces) order = order.0.said.0.followed
  last_asked (Whole acts.Foreign events ∷ pieces) order = tt
  last_asked (Whole (acts.Break length) events ∷ pieces) order = tt
  last_asked (piece ∷ pieces) order = last_asked pieces order.2

-- the device that is blamed
abbrev blamed_device : Blame → Option Device
blamed_device blame.Changer = Some device.Changer
blamed_device blame.Bill = Some device.Bill
blamed_device blame.Cashless = Some (device.Reader First)
blamed_device blame.Cashless2 = Some (device.Reader Second)
blamed_device _ = None

blamed_back : (asked : Option Device) → blamed_device (blame_on asked) ≡ asked
blamed_back (Some (device.Reader First)) = refl
blamed_back asked = refl

-- a fault is blamed on the device that was asked, or on the controller
abbrev IsItOrNone : Option Device → Blame → Type 0
IsItOrNone asked blamed = (blamed ≡ blame_on asked) ⊎ (blamed ≡ blame.Controller)

blamed_for_row : (position : Position) (asked : Option Device) (row : Event) (broken : Rule)
    → IsItOrNone asked (blame_of position asked row broken)
blamed_for_row (InReply command bytes) asked (Word at Controller word) rule.Spacing = inl refl
blamed_for_row (InRepeat command reply words) asked (Word at Controller word) rule.Spacing =
    inl refl
blamed_for_row position asked (Word at Peripheral word) broken = inl refl
blamed_for_row position asked row broken = inr refl

-- what counts in haste is blamed on the controller, or as it was
in_haste : (asked : Option Device) (is : Bool) (fault : LinkFault) → IsItOrNone asked fault.blame
    → IsItOrNone asked
    (if is then record { rule = rule.Early; blame = blame.Controller } else fault).blame
in_haste asked true fault by = inr refl
in_haste asked false fault by = by

-- who is blamed as a device is blamed is the one that was asked
is_asked : (asked : Option Device) (blamed : Blame) (device : Device) → IsItOrNone asked blamed
    → blamed ≡ blame_on (Some device) → asked ≡ Some device
is_asked asked blamed device (inl by) is =
    sym (blamed_back asked) ∙ (ap blamed_device (sym by ∙ is) ∙ blamed_back (Some device))
is_asked asked blamed device (inr by) is =
    let other : None ≡ Some device = ap blamed_device (sym by ∙ is) ∙ blamed_back (Some device) in
    cc

pub blamed_followed : (scope : Scope) (pieces : List Piece) (row : Event) (broken : Rule)
    (blamed : Blame) (device : Device)
    → ArePieces scope pieces → IsLinkFault scope pieces row broken blamed
    → blamed ≡ blame_on (Some device) → IsFollowed scope device
blamed_followed scope pieces row broken blamed device order fault is =
    let position = position_of scope pieces in
    let asked = asked_device pieces in
    let counts = counted_as fault.first position (wide_of scope pieces) in
    let by = in_haste asked (haste_of scope pieces && is_excused row counts)
    (record { rule = counts; blame = blame_of position asked row counts })
    (blamed_for_row position asked row counts) in
    rw (is_asked asked (fault_of scope pieces row fault.first).blame device by
    (sym fault.blame ∙ is)) at (last_asked scope pieces order)
