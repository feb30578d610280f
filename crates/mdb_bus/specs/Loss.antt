-- Loss: which words were damaged at their receivers, and how that fits the acts (this profile).
use Rattle.std.specs.Prelude.{◌≡◌, ◌+◌, ◌<◌, ◌≤◌, ℕ, Bool, false, List, [], ◌∷◌, length}
use Rattle.mdb_bus.specs.declared.act.Act.{Act}
use Rattle.mdb_bus.specs.declared.act.Act.TheVariants as acts
use Rattle.mdb_bus.specs.ActLists.{Piece, Whole, events_of}

-- A loss tells of each row, by its number from 1, whether its word was damaged at its receiver.
abbrev pub Loss : Type 0
Loss = ℕ → Bool

-- none of so many rows after the first `before` ones was damaged
abbrev pub AllArrive : Loss → ℕ → ℕ → Type 0
AllArrive loss before count = (k : ℕ) → before < k → k ≤ before + count → loss k ≡ false

-- An act was heard, by its rows, where none of its words was damaged. A break is always heard.
abbrev pub IsHeard : Loss → Act → ℕ → ℕ → Type 0
IsHeard loss (acts.Break length) before count = Unit {0}
IsHeard loss act before count = AllArrive loss before count

-- What an act tells of the act before it: that it was heard, that it wasn't, or nothing.
pub data Hearing : Type 0 where
  Heard : Hearing
  Unheard : Hearing
  Open : Hearing

-- a block tells that a reply before it wasn't heard
abbrev pub told_by_block : Act → Hearing
told_by_block (acts.Reply command reply) = Unheard
told_by_block (acts.Repeat command reply) = Unheard
told_by_block _ = Open

-- What an act tells of the one before it: a peripheral acknowledges or answers an ask that it
-- heard, the controller acknowledges a reply that it heard, a peripheral repeats where it heard
-- RET, and RET, NAK and a block mean that a reply wasn't heard. A peripheral's NAK and a break tell
-- nothing.
abbrev pub told_by : Act → Act → Hearing
told_by (acts.Ask command) before = told_by_block before
told_by (acts.Ack command) before = Heard
told_by (acts.Nak command) before = Open
told_by (acts.Reply command reply) before = Heard
told_by (acts.VmcAck command reply) before = Heard
told_by (acts.VmcNak command reply) before = Unheard
told_by (acts.VmcRet command reply) before = Unheard
told_by (acts.Repeat command reply) before = Heard
told_by acts.Foreign before = told_by_block before
told_by (acts.Break length) before = Open

-- a loss is as it was told
abbrev pub IsAsTold : Hearing → Type 0 → Type 0
IsAsTold Heard heard = heard
IsAsTold Unheard heard = ¬ heard
IsAsTold Open heard = Unit {0}

-- the loss of the rows of the newest piece is as the act after it tells
abbrev pub FitsNext : Loss → List Piece → Act → Type 0
FitsNext loss (Whole act events ∷ pieces) next =
    IsAsTold (told_by next act) (IsHeard loss act (length (events_of pieces)) (length events))
FitsNext loss _ next = Unit {0}

-- A loss fits pieces: each two neighbouring acts agree on whether the first of them was heard.
abbrev pub LossFits : Loss → List Piece → Type 0
LossFits loss [] = Unit {0}
LossFits loss (Whole act events ∷ pieces) = FitsNext loss pieces act × LossFits loss pieces
LossFits loss (piece ∷ pieces) = LossFits loss pieces
