-- A break comes everywhere, and nothing else comes inside a block. So what is no break stands on
-- pieces that are closed.
use Rattle.std.proofs.Common.{◌≡◌, List, [], ◌∷◌, length, refl, ap, inl, inr, Option, Some, None}
use Rattle.mdb_bus.proofs.Words
use Words.{Event, Act, Scope, Profile, IsTail, act_in}
use Rattle.mdb_bus.specs.ActLists.{Piece, Whole, AskTail, Position, InAsk, InReply, InRepeat, BlockMayCome, IsSaid, MayCome, MayStand, left_by, piece_events}
use Rattle.mdb_bus.specs.ClosedPieces.{closed_pieces}
use Rattle.mdb_bus.specs.declared.act.Act.TheVariants as acts

-- a position inside a block
abbrev IsInside : Position → Type 0
IsInside (InAsk bytes) = Unit {0}
IsInside (InReply command bytes) = Unit {0}
IsInside (InRepeat command reply words) = Unit {0}
IsInside _ = ⊥

-- an act that is a break
abbrev pub IsBreak : Option Act → Type 0
IsBreak (Some (acts.Break length)) = Unit {0}
IsBreak _ = ⊥

no_block : (profile : Profile) (position : Position) (from : Option Event) (to : Event)
    → IsInside position → BlockMayCome profile position from to → ⊥
no_block profile (InAsk bytes) from to inside comes = comes
no_block profile position from to inside comes = search

only_a_break : (profile : Profile) (piece : Piece) (position : Position) (from : Option Event)
    (to : Event) → IsInside position → MayCome profile piece position from to
    → IsBreak (act_in piece)
only_a_break profile (Whole (acts.Ask command) events) position from to inside comes =
    absurd (no_block profile position from to inside comes)
only_a_break profile (Whole acts.Foreign events) position from to inside (inl opening) =
    absurd (no_block profile position from to inside opening.1)
only_a_break profile (Whole acts.Foreign events) position from to inside (inr further) =
    absurd (rw further.1 at inside)
only_a_break profile (Whole (acts.Break length) events) position from to inside comes = tt
only_a_break profile (AskTail bytes events) position from to inside comes =
    absurd (no_block profile position from to inside comes)
only_a_break profile piece position from to inside comes = absurd (rw comes.0 at inside)

-- what is no break stands on pieces of which the newest is whole
pub on_closed : (scope : Scope) (pieces : List Piece) (piece : Piece) → MayStand scope pieces piece
    → (IsBreak (act_in piece) → ⊥) → closed_pieces pieces ≡ pieces
on_closed scope [] piece stands not = refl
on_closed scope (Whole act events ∷ pieces) piece stands not = refl
on_closed scope (tail ∷ pieces) piece stands not =
    absurd (not (only_a_break _ piece (left_by tail) _ _ tt stands.comes))

pub closed_tail : (piece : Piece) (pieces : List Piece) → IsTail piece
    → closed_pieces (piece ∷ pieces) ≡ pieces
closed_tail (Whole act events) pieces is = absurd is
closed_tail tail pieces is = refl

-- the words of a break are one row
pub break_said : (scope : Scope) (act : Act) (events : List Event) → IsBreak (Some act)
    → IsSaid scope (Whole act events) → length events ≡ 1
break_said scope (acts.Break long) events is said = ap length said.1
break_said scope act events is said = absurd is

-- a piece without an act is a tail
pub is_tail : (piece : Piece) → act_in piece ≡ None → IsTail piece
is_tail (Whole act events) none = cc
is_tail tail none = tt

-- a whole piece with its act
pub whole_of : (piece : Piece) (act : Act) → act_in piece ≡ Some act
    → piece ≡ Whole act (piece_events piece)
whole_of (Whole other events) act is =
    let same : other ≡ act = cc is in ap (λ a. Whole a events) same
whole_of tail act is = absurd cc
