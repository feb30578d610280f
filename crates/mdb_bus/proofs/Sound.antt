-- Where pieces in order leave the bus: a block there has begun well, and a last row that is a break
-- is a long one.
use Rattle.mdb_bus.proofs.Words.{[], Act, ArePieces, AskTail, Break, Controller, Event, events_of, inl, inr, InRepeat, IsReply, IsSaid, IsSound, last_of, Line, List, MayStand, NamesAReply, Peripheral, Piece, piece_events, Position, position_of, profile_of, refl, RepeatTail, Replied, ReplyTail, Returned, Say, Scope, Whole, Word, ℕ, ◌++◌, ◌∷◌, ◌≡◌, ◌≢◌}
use Rattle.mdb_bus.specs.declared.act.Act.TheVariants as acts
use Rattle.mdb_bus.proofs.Stops.{LastIsLong, lasts}
use Rattle.mdb_bus.proofs.Lists.{at_first}

-- a reply that was told, or is told again, is one
abbrev pub HasReply : Position → Type 0
HasReply (Replied command reply) = IsReply command reply
HasReply (Returned command reply) = IsReply command reply
HasReply (InRepeat command reply words) = IsReply command reply
HasReply _ = Unit {0}

-- the last of some rows after others
pub rest_last : (front : List Event) (first : Event) (others : List Event)
    → last_of (front ++ first ∷ others) ≡ last_of (first ∷ others)
rest_last [] first others = refl
rest_last (x ∷ []) first others = refl
rest_last (x ∷ y ∷ front) first others = rest_last (y ∷ front) first others

-- words aren't a break
say_long : (line : Line) (words : List ℕ) (events : List Event) → Say line words events
    → LastIsLong (last_of events)
say_long line words [] says = tt
say_long line words (Word at on word ∷ []) says = tt
say_long line (w ∷ words) (event ∷ next ∷ events) says = say_long line words (next ∷ events) (cc)
say_long line words events says = cc

module _ (scope : Scope) where
  -- a piece has events
  pub piece_some : (rest : List Piece) (piece : Piece) → MayStand scope rest piece
      → piece_events piece ≢ []
  piece_some rest piece stands none = cc (stands.begins, none)

  -- the position after pieces in order is sound
  pub is_sound : (pieces : List Piece) → ArePieces scope pieces
      → IsSound scope (position_of scope pieces)
  is_sound [] order = at_first (IsSound scope) tt tt scope.begins
  is_sound (AskTail bytes events ∷ pieces) order = order.0.said.0
  is_sound (ReplyTail command bytes events ∷ pieces) order = order.0.said.0
  is_sound (Whole acts.Foreign events ∷ pieces) order = tt
  is_sound (piece ∷ pieces) order = tt

  -- the last row of a piece that is a break is long
  piece_long : (piece : Piece) → IsSaid scope piece → LastIsLong (last_of (piece_events piece))
  piece_long (Whole (acts.Ask command) events) said = say_long Controller _ events said.1
  piece_long (Whole (acts.Reply command reply) events) said = say_long Peripheral _ events said.1
  piece_long (Whole (acts.Repeat command reply) events) said = say_long Peripheral _ events said
  piece_long (Whole acts.Foreign events) (inl opening) = say_long Controller _ events opening.2
  piece_long (Whole acts.Foreign events) (inr (Word at line word, is, low)) = rw is tt
  piece_long (Whole acts.Foreign events) (inr (Break at length, is, low)) = absurd low
  piece_long (Whole (acts.Break length) events) said =
      rw said.1 (lasts (profile_of scope.begins) length said.2)
  piece_long (Whole act events) said = say_long _ (_ ∷ []) events said
  piece_long (AskTail bytes events) said = say_long Controller _ events said.1
  piece_long (ReplyTail command bytes events) said = say_long Peripheral _ events said.1
  piece_long (RepeatTail command reply words events) said = say_long Peripheral _ events said.1

  -- the last row of pieces that is a break is long
  pub last_is_long : (pieces : List Piece) → ArePieces scope pieces
      → LastIsLong (last_of (events_of pieces))
  last_is_long [] order = tt
  last_is_long (piece ∷ pieces) order =
      rw (order.1.begins, rest_last) (rw order.1.begins at (piece_long piece order.0.said))

  -- after a reply or a repeat, and where it was asked for again, there is a reply
  pub has_reply : (pieces : List Piece) → ArePieces scope pieces
      → HasReply (position_of scope pieces)
  has_reply [] order = at_first HasReply tt tt scope.begins
  has_reply (Whole (acts.Reply command reply) events ∷ pieces) order = order.0.said.0
  has_reply (Whole (acts.VmcRet command reply) events ∷ pieces) order =
      rw order.1.comes.0 at (has_reply pieces order.2)
  has_reply (Whole (acts.Repeat command reply) events ∷ pieces) order =
      rw order.1.comes.0 at (has_reply pieces order.2)
  has_reply (RepeatTail command reply words events ∷ pieces) order =
      rw order.1.comes.0 at (has_reply pieces order.2)
  has_reply (piece ∷ pieces) order = tt

  -- so the reply that an act names is one
  pub names_a_reply : (act : Act) (events : List Event) (pieces : List Piece)
      → ArePieces scope (Whole act events ∷ pieces) → NamesAReply act
  names_a_reply (acts.Reply command reply) events pieces order = order.0.said.0
  names_a_reply (acts.VmcAck command reply) events pieces order =
      rw order.1.comes.0 at (has_reply pieces order.2)
  names_a_reply (acts.VmcNak command reply) events pieces order =
      rw order.1.comes.0 at (has_reply pieces order.2)
  names_a_reply (acts.VmcRet command reply) events pieces order =
      rw order.1.comes.0 at (has_reply pieces order.2)
  names_a_reply (acts.Repeat command reply) events pieces order =
      rw order.1.comes.0 at (has_reply pieces order.2)
  names_a_reply act events pieces order = tt
