-- The words of pieces where a transcript is cut: all but the first of a piece are foreign words,
-- and the first is one, or begins a block or a break. What is said is said where a recording begins
-- otherwise, and where other levels were told before it.
use Rattle.mdb_late_start.proofs.Words.{◌≡◌, inl, inr, ℕ, List, [], ◌∷◌, ◌++◌, Levels, Beginning, Scope, profile_of, Command, IsForeignOpening, Piece, Whole, AskTail, IsSaid, Asks, InAnswerTime, arith, sym, ◌∙◌, ◌⊎◌, ◌+◌, Option, AllByRecursion, Event, Break, Controller, IsBlockWord, IsForeign, IsForeignWord, Say, reply_words, IsBreakEvent, AreForeignWords, word_waits, block_waits, Profile, rest_after, ReplyTail, RepeatTail, Position, InForeign, MayCome, NotBefore, piece_events, Quiet, low_words, peripheral_foreign, answer_foreign, heard}
use Rattle.mdb_bus.specs.declared.act.Act.TheVariants as acts
use Rattle.mdb_words.specs.Block.{block_of, controller_words}
use Rattle.mdb_msgs.specs.Commands.{IsByte, command_bytes}
use Rattle.mdb_msgs.proofs.CommandBytes.{begun_low, whole_low}

-- a recording that begins so, with these levels told before, and with the same devices left out
abbrev pub begun_so : Beginning → Levels → Scope → Scope
begun_so begins levels scope =
    record { begins = begins; without = scope.without; levels = levels }

module _ (begins : Beginning) (levels : Levels) (scope : Scope)
    (same : profile_of begins ≡ profile_of scope.begins) where
  -- a foreign opening is one in such a recording, too
  opening_stays : (bytes : List ℕ) → IsForeignOpening scope bytes
      → IsForeignOpening (begun_so begins levels scope) bytes
  opening_stays (first ∷ []) opening = rw same opening
  opening_stays (first ∷ second ∷ []) opening = rw same opening
  opening_stays bytes opening = opening

  -- what spells a command does so
  asks_stays : (command : Command) (bytes : List ℕ) → Asks scope command bytes
      → Asks (begun_so begins levels scope) command bytes
  asks_stays command bytes asks = record {
    spells = asks.spells;
    known = rw same asks.known;
    followed = asks.followed;
  }

  -- and all that is said
  pub said_stays : (piece : Piece) → IsSaid scope piece
      → IsSaid (begun_so begins levels scope) piece
  said_stays (Whole (acts.Ask command) events) said = (asks_stays command _ said.0, said.1)
  said_stays (Whole acts.Foreign events) (inl opens) =
      inl (opens.0, opening_stays opens.0 opens.1, opens.2)
  said_stays (Whole acts.Foreign events) (inr further) = inr further
  said_stays (Whole (acts.Break length) events) said = (said.0, said.1, rw same said.2)
  said_stays (AskTail bytes events) said =
      let front = said.0 in (
        record {
          some = front.some;
          command = front.command;
          rest = front.rest;
          open_end = front.open_end;
          spelled = asks_stays front.command (bytes ++ front.rest) front.spelled;
        },
        said.1,
      )
  said_stays piece said = said

-- so are those of two lists together
pub foreign_both : (events others : List Event) → AreForeignWords events → AreForeignWords others
    → AreForeignWords (events ++ others)
foreign_both [] others words also = also
foreign_both (event ∷ events) others words also =
    (words.0, foreign_both events others words.1 also)

-- and those of an end
pub foreign_end : (events others : List Event) → AreForeignWords (events ++ others)
    → AreForeignWords others
foreign_end [] others words = words
foreign_end (event ∷ events) others words = foreign_end events others words.1

-- the first event of a block is its marked word, and the others are foreign words
pub block_begins : (bytes : List ℕ) (first : Event) (others : List Event)
    → Say Controller (controller_words bytes) (first ∷ others) → IsBlockWord first
block_begins [] first others says = cc
block_begins (byte ∷ bytes) first others says =
    rw (heard first Controller (256 + byte) (cc)).1 (omega arith)

block_words : (bytes : List ℕ) (first : Event) (others : List Event)
    → AllByRecursion IsByte bytes → Say Controller (controller_words bytes) (first ∷ others)
    → AreForeignWords others
block_words [] first others low says = cc
block_words (byte ∷ bytes) first others low says = low_words bytes others low.1 (cc)

-- all but the first event of a foreign act are foreign words
foreign_others : (scope : Scope) (first : Event) (others : List Event)
    → IsForeign scope (first ∷ others) → AreForeignWords others
foreign_others scope first others (inl ([], opening, says)) = absurd opening
foreign_others scope first others (inl (byte ∷ [], opening, says)) = low_words [] others tt (cc)
foreign_others scope first others (inl (byte ∷ next ∷ [], opening, says)) =
    low_words (next ∷ []) others (opening.2, tt) (cc)
foreign_others scope first others (inl (byte ∷ next ∷ third ∷ bytes, opening, says)) =
    absurd opening
foreign_others scope first others (inr further) =
    let alone : [] ≡ others = cc further.1 in rw (← alone) tt

-- a piece is a foreign act
abbrev pub IsForeignAct : Piece → Type 0
IsForeignAct (Whole acts.Foreign events) = Unit {0}
IsForeignAct piece = ⊥

-- nothing is open, or foreign traffic
abbrev pub IsFree : Position → Type 0
IsFree Quiet = Unit {0}
IsFree InForeign = Unit {0}
IsFree position = ⊥

-- How a piece may go on from a cut: all its events but the first are foreign words. The first is
-- one, too, and where nothing else is open the piece is a further foreign act. Or the piece may
-- come in foreign traffic, and begins anew.
pub record Kind (profile : Profile) (piece : Piece) (position : Position) (from : Option Event)
    (first : Event) (others : List Event) : Type 0 where
  pub words : AreForeignWords others
  pub way : (IsForeignWord first × NotBefore (rest_after from) from first
      × (IsFree position → IsForeignAct piece × (position ≡ InForeign)))
      ⊎ ((IsBlockWord first ⊎ IsBreakEvent first) × MayCome profile piece InForeign from first)

-- each piece is of such a kind
module _ (scope : Scope) (position : Position) (from : Option Event) (first : Event)
    (others : List Event) where
  abbrev profile : Profile
  profile = profile_of scope.begins

  -- a piece of foreign words goes on as these, where it answers something
  plain : {other : Position} (piece : Piece) → piece_events piece ≡ first ∷ others
      → AreForeignWords (piece_events piece) → (position ≡ other) × InAnswerTime profile from first
      → (IsFree other → IsForeignAct piece × (position ≡ InForeign))
      → Kind profile piece position from first others
  plain piece are words comes busy =
      let its : AreForeignWords (first ∷ others) = rw are at words in
      record {
        words = its.1;
        way = inl (its.0, word_waits from first comes.1.0, λ free. busy (rw comes.0 at free));
      }

  -- a block begins anew
  block : (bytes : List ℕ) (events : List Event) → events ≡ first ∷ others
      → AllByRecursion IsByte bytes → Say Controller (controller_words bytes) events
      → AreForeignWords others × IsBlockWord first
  block bytes events are low says =
      let its : Say Controller (controller_words bytes) (first ∷ others) = rw are at says in
      (block_words bytes first others low its, block_begins bytes first others its)

  pub kind : (piece : Piece) → IsSaid scope piece → piece_events piece ≡ first ∷ others
      → MayCome profile piece position from first → Kind profile piece position from first others
  kind (Whole (acts.Ask command) events) said are comes =
      let bytes = block_of (command_bytes command) in
      let its = block bytes events are (whole_low command bytes said.0.spells) said.1 in
      record {
        words = its.0;
        way = inr (inl its.1, block_waits profile position from first comes);
      }
  kind (Whole (acts.Ack command) events) said are comes =
      plain _ are (peripheral_foreign (_ ∷ []) events said) comes (λ free. absurd free)
  kind (Whole (acts.Nak command) events) said are comes =
      plain _ are (peripheral_foreign (_ ∷ []) events said) comes (λ free. absurd free)
  kind (Whole (acts.Reply command reply) events) said are comes =
      plain _ are (peripheral_foreign (reply_words reply) events said.1) comes (λ free. absurd free)
  kind (Whole (acts.VmcAck command reply) events) said are comes =
      plain _ are (answer_foreign 0x00 events (omega arith) said) comes (λ free. absurd free)
  kind (Whole (acts.VmcNak command reply) events) said are comes =
      plain _ are (answer_foreign 0xFF events (omega arith) said) comes (λ free. absurd free)
  kind (Whole (acts.VmcRet command reply) events) said are comes =
      plain _ are (answer_foreign 0xAA events (omega arith) said) comes (λ free. absurd free)
  kind (Whole (acts.Repeat command reply) events) said are comes =
      plain _ are (peripheral_foreign (reply_words reply) events said) comes (λ free. absurd free)
  kind (Whole acts.Foreign events) said are (inl opens) = record {
    words = foreign_others scope first others (rw are at said);
    way = inr (inl opens.0, inl (opens.0, block_waits profile position from first opens.1));
  }
  kind (Whole acts.Foreign events) said are (inr further) = record {
    words = foreign_others scope first others (rw are at said);
    way = inl (further.0, further.2, λ free. (tt, further.1));
  }
  kind (Whole (acts.Break length) events) said are comes =
      let is : first ∷ others ≡ Break said.0 length ∷ [] = sym are ∙ said.1 in
      let alone : others ≡ [] = cc in
      let same : first ≡ Break said.0 length = cc in
      record { words = rw alone tt; way = inr (inr (rw same tt), comes) }
  kind (AskTail bytes events) said are comes =
      let front = said.0 in
      let its = block bytes events are
      (begun_low front.command bytes front.rest front.spelled.spells) said.1 in
      record {
        words = its.0;
        way = inr (inl its.1, block_waits profile position from first comes);
      }
  kind (ReplyTail command bytes events) said are comes =
      plain _ are (peripheral_foreign bytes events said.1) comes (λ free. absurd free)
  kind (RepeatTail command reply words events) said are comes =
      plain _ are (peripheral_foreign words events said.1) comes (λ free. absurd free)

  -- where nothing is open a piece begins anew, or is a further word of foreign traffic
  pub first_anew : (piece : Piece) → IsSaid scope piece → piece_events piece ≡ first ∷ others
      → MayCome profile piece position from first → IsFree position
      → (IsBlockWord first ⊎ IsBreakEvent first)
      ⊎ (IsForeignAct piece × (position ≡ InForeign))
  first_anew piece said are comes free = elim (kind piece said are comes).way [
    | inl further ↦ inr (further.2 free)
    | inr anew ↦ inl anew.0
  ]
