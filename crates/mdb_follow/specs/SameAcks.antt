-- Losses under which the same acknowledgements were heard.
use Rattle.std.specs.Prelude.{◌↔◌, List, [], ◌∷◌, length}
use Rattle.mdb_bus.specs.ActLists.{Piece, Whole, events_of}
use Rattle.mdb_bus.specs.Acts.{IsAck}
use Rattle.mdb_bus.specs.Loss.{IsHeard, Loss}

-- Under two losses the same ACKs of the pieces, of devices and of the controller, were heard.
abbrev pub HearSameAcks : Loss → Loss → List Piece → Type 0
HearSameAcks one other [] = Unit {0}
HearSameAcks one other (Whole act events ∷ pieces) =
    (IsAck act → IsHeard one act (length (events_of pieces)) (length events)
    ↔ IsHeard other act (length (events_of pieces)) (length events))
    × HearSameAcks one other pieces
HearSameAcks one other (piece ∷ pieces) = HearSameAcks one other pieces
