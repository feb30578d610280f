-- Wishes: which acts were heard, where nothing in the transcript tells it (this profile).
use Rattle.std.specs.Prelude.{◌≡◌, ◌↔◌, ℕ, Bool, true, List, [], ◌∷◌, length}
use Rattle.mdb_bus.specs.declared.act.Act.{Act}
use Rattle.mdb_bus.specs.declared.act.Act.TheVariants as acts
use Rattle.mdb_bus.specs.Acts.{IsAck}
use Rattle.mdb_bus.specs.ActLists.{Piece, Whole, events_of}
use Rattle.mdb_bus.specs.Loss.{Hearing, IsHeard, Loss, Open, told_by}

-- A wish says of each act, by the number of rows before it, whether it is to be heard.
abbrev pub Wish : Type 0
Wish = ℕ → Bool

-- the act after so many rows, of so many rows itself, is heard exactly where it is wished
abbrev pub IsHeardAsWished : Loss → Wish → Act → ℕ → ℕ → Type 0
IsHeardAsWished loss wish act before count =
    IsHeard loss act before count ↔ (wish before ≡ true)

-- each ACK of the pieces is heard exactly where it is wished
abbrev pub HearsAsWished : Loss → Wish → List Piece → Type 0
HearsAsWished loss wish [] = Unit {0}
HearsAsWished loss wish (Whole act events ∷ pieces) =
    (IsAck act → IsHeardAsWished loss wish act (length (events_of pieces)) (length events))
    × HearsAsWished loss wish pieces
HearsAsWished loss wish (piece ∷ pieces) = HearsAsWished loss wish pieces

-- An act is free where both may be, that it was heard and that it wasn't: an ACK is always free, a
-- break never, since it is always heard, and another act where nothing is told of it.
abbrev pub IsFree : Act → Hearing → Type 0
IsFree (acts.Ack command) hearing = Unit {0}
IsFree (acts.VmcAck command reply) hearing = Unit {0}
IsFree (acts.Break length) hearing = ⊥
IsFree act hearing = hearing ≡ Open

-- what the end of a transcript tells of the last act, and a tail of the act before it: nothing
abbrev pub nothing_told : Act → Hearing
nothing_told act = Open

-- Each free act of the pieces is heard exactly where it is wished, if what is after the pieces
-- tells so of the newest act.
abbrev pub HearsFreeAsWished : Loss → Wish → (Act → Hearing) → List Piece → Type 0
HearsFreeAsWished loss wish tells [] = Unit {0}
HearsFreeAsWished loss wish tells (Whole act events ∷ pieces) =
    (IsFree act (tells act)
    → IsHeardAsWished loss wish act (length (events_of pieces)) (length events))
    × HearsFreeAsWished loss wish (told_by act) pieces
HearsFreeAsWished loss wish tells (piece ∷ pieces) =
    HearsFreeAsWished loss wish nothing_told pieces
