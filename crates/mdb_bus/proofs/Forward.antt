-- A row that a position leads on by extends the act list.
use Rattle.mdb_bus.proofs.Words.{[], Act, act_after, act_in, acts_of, All-append, All-from_recursion, ap, append-nil, append_assoc, ArePieces, arith, Asked, asked_after, asked_device, Asks, AskTail, Break, break_least, BreakMayCome, Controller, Event, events_of, first_position, Grown, grown, InAsk, InBlockTime, InForeign, inl, inr, InRepeat, InReply, IsAt, IsByte, IsReplyFront, IsSaid, IsTail, last_of, Leads, left_by, left_open, length, length-append, Levels, levels_before, levels_if, levels_of, Line, List, MayCome, None, Opens, Option, Peripheral, Piece, piece_after, piece_events, PieceFits, pieces_after, Position, position_after, position_of, Profile, profile_of, Quiet, refl, RepeatTail, Replied, ReplyTail, Returned, rules, Say, Scope, Situation, situation_of, Some, Step, subst, sym, Whole, with_act, Word, WordLeads, ℕ, ◌++◌, ◌+◌, ◌<◌, ◌∙◌, ◌∷◌, ◌≡◌, ◌≤◌, ◌⊎◌}
use Rattle.mdb_bus.specs.declared.act.Act.TheVariants as acts
use Rattle.mdb_bus.specs.shared.Step as step
use Rattle.mdb_bus.proofs.Lists.{at_first, spaced_on, begins_block, say_byte, say_sum, say_word}
use Rattle.mdb_bus.proofs.Verdicts.{sealed}

module _ (scope : Scope) (pieces : List Piece) (row : Event) (next : Step) where
  abbrev Made : List Piece
  Made = pieces_after scope pieces row next

  abbrev Ended : Option Act
  Ended = act_after (position_of scope pieces) next

  -- what a step makes of pieces
  pub record Extended : Type 0 where
    pub in_order : ArePieces scope Made
    pub rows : events_of Made ≡ events_of pieces ++ row ∷ []
    pub acts : acts_of Made ≡ with_act Ended (acts_of pieces)
    pub position : position_of scope Made ≡ position_after (position_of scope pieces) next
    pub levels : levels_of (profile_of scope.begins) (levels_before scope) Made
        ≡ levels_if (profile_of scope.begins) Ended
        (levels_of (profile_of scope.begins) (levels_before scope) pieces)
    pub asked : asked_device Made ≡ asked_after (asked_device pieces) next
    pub grown : Grown pieces row Ended Made

-- a position where no tail is open
abbrev pub IsFree : Position → Type 0
IsFree (InAsk bytes) = ⊥
IsFree (InReply command bytes) = ⊥
IsFree (InRepeat command reply words) = ⊥
IsFree _ = Unit {0}

-- an act leaves no tail open
free : (act : Act) → IsFree (left_open act)
free (acts.Ask command) = tt
free act = tt

-- a step of a word
abbrev IsWordStep : Step → Type 0
IsWordStep (step.Break length) = ⊥
IsWordStep _ = Unit {0}

-- such a step makes pieces grow
grows : (scope : Scope) (pieces : List Piece) (row : Event) (next : Step) → IsWordStep next
    → pieces_after scope pieces row next
    ≡ grown pieces row (piece_after (position_of scope pieces) next)
grows scope pieces row (step.Break length) word = absurd word
grows scope pieces row next word = refl

module _ (scope : Scope) where
  abbrev Taken : Profile
  Taken = profile_of scope.begins

  abbrev Told : List Piece → Levels
  Told = levels_of (profile_of scope.begins) (levels_before scope)

  -- a step and the piece that it adds agree on what they leave
  record Adds (next : Step) (piece : List Event → Piece) : Type 0 where
    rows : (events : List Event) → piece_events (piece events) ≡ events
    acts : (events : List Event) (pieces : List Piece)
        → acts_of (piece events ∷ pieces) ≡ with_act (act_in (piece [])) (acts_of pieces)
    act : (events : List Event) → act_in (piece events) ≡ act_in (piece [])
    position : (events : List Event) → left_by (piece events) ≡ left_by (piece [])
    levels : (events : List Event) (pieces : List Piece)
        → Told (piece events ∷ pieces) ≡ levels_if Taken (act_in (piece [])) (Told pieces)
    asked : (events : List Event) (pieces : List Piece)
        → asked_device (piece events ∷ pieces) ≡ asked_after (asked_device pieces) next

  -- a step adds the piece that it makes
  adds : (position : Position) (next : Step) → IsAt position next
      → Adds next (piece_after position next)
  adds (InAsk bytes) (step.AskByte byte) is = search rules
  adds position (step.AskByte byte) is = search rules
  adds position next is = search rules

  -- a tail has no effect on what pieces leave
  pub no_effect : (tail : Piece) (pieces : List Piece) → IsTail tail
      → (acts_of (tail ∷ pieces) ≡ acts_of pieces) × (Told (tail ∷ pieces) ≡ Told pieces)
      × (asked_device (tail ∷ pieces) ≡ asked_device pieces)
  no_effect (Whole act events) pieces open_end = absurd open_end
  no_effect tail pieces open_end = (refl, refl, refl)

  module _ (pieces : List Piece) (row : Event) (next : Step)
      (at : IsAt (position_of scope pieces) next) where
    abbrev New : List Event → Piece
    New = piece_after (position_of scope pieces) next

    -- pieces that a step leads to, as they stand, are what it makes of the pieces before it
    extended : (rest : List Piece) (begun : List Event)
        → pieces_after scope pieces row next ≡ New (begun ++ row ∷ []) ∷ rest
        → ArePieces scope (New (begun ++ row ∷ []) ∷ rest)
        → events_of rest ++ begun ≡ events_of pieces
        → (acts_of pieces ≡ acts_of rest) × (Told pieces ≡ Told rest)
        × (asked_device pieces ≡ asked_device rest)
        → ((begun ≡ []) × (pieces ≡ rest))
        ⊎ ((tail : Piece) × IsTail tail × (piece_events tail ≡ begun) × (pieces ≡ tail ∷ rest))
        → Extended scope pieces row next
    extended rest begun made are rows same from =
        let new = adds (position_of scope pieces) next at in
        let events : List Event = begun ++ row ∷ [] in
        let act = act_after (position_of scope pieces) next in
        record {
          in_order = rw made are;
          rows = ap events_of made ∙ (ap (λ es. events_of rest ++ es) (new.rows events)
              ∙ (sym (append_assoc (events_of rest) begun (row ∷ []))
              ∙ ap (λ es. es ++ row ∷ []) rows));
          acts = ap acts_of made ∙ (new.acts events rest ∙ ap (with_act act) (sym same.0));
          position = ap (position_of scope) made ∙ new.position events;
          levels = ap Told made ∙ (new.levels events rest ∙ ap (levels_if Taken act) (sym same.1));
          asked = ap asked_device made
              ∙ (new.asked events rest ∙ ap (λ a. asked_after a next) (sym same.2));
          grown = record {
            newest = New events;
            earlier = rest;
            are = made;
            begun = begun;
            events = new.rows events;
            ends = new.act events;
            from = from;
          };
        }

  -- what a row makes a new piece at a position, so that it may stand there
  abbrev Begins : Position → Option Event → Levels → Event → Step → Type 0
  Begins position from levels row next =
      IsSaid scope (piece_after position next (row ∷ []))
      × MayCome Taken (piece_after position next (row ∷ [])) position from row
      × PieceFits scope.begins levels (piece_after position next (row ∷ []))

  -- a piece of one event after pieces
  fresh : (pieces : List Piece) (row : Event) (next : Step) → IsAt (position_of scope pieces) next
      → pieces_after scope pieces row next
      ≡ piece_after (position_of scope pieces) next (row ∷ []) ∷ pieces → ArePieces scope pieces
      → Begins (position_of scope pieces) (last_of (events_of pieces)) (Told pieces) row next
      → Extended scope pieces row next
  fresh pieces row next at made are stands =
      let begins = (adds (position_of scope pieces) next at).rows (row ∷ []) in
      extended pieces row next at pieces [] made (
        record { said = stands.0; spaced = rw begins tt },
        record { first = row; others = []; begins = begins; comes = stands.1; levels = stands.2 },
        are,
      ) (append-nil (events_of pieces)) (refl, refl, refl) (inl (refl, refl))

  -- what a row makes of a tail, so that it stands where the tail stood
  abbrev Longer : Piece → Option Event → Levels → Event → Step → Type 0
  Longer tail from levels row next =
      let longer = piece_after (left_by tail) next (piece_events tail ++ row ∷ []) in
      IsSaid scope longer × PieceFits scope.begins levels longer × InBlockTime Taken from row
      × ((position : Position) (before : Option Event) (first : Event) (others : List Event)
      → piece_events tail ≡ first ∷ others → MayCome Taken tail position before first
      → MayCome Taken longer position before first)

  -- a tail at the head goes on, or ends
  longer : (tail : Piece) (pieces : List Piece) (row : Event) (next : Step) → IsTail tail
      → IsAt (left_by tail) next → pieces_after scope (tail ∷ pieces) row next
      ≡ piece_after (left_by tail) next (piece_events tail ++ row ∷ []) ∷ pieces
      → ArePieces scope (tail ∷ pieces)
      → Longer tail (last_of (events_of (tail ∷ pieces))) (Told pieces) row next
      → Extended scope (tail ∷ pieces) row next
  longer tail pieces row next open_end at made are goes =
      let stood = are.1 in
      let old = piece_events tail in
      let rows = (adds (left_by tail) next at).rows (old ++ row ∷ []) in
      extended (tail ∷ pieces) row next at pieces old made (
        record {
          said = goes.0;
          spaced = rw (rows, stood.begins) ((spaced_on Taken row (events_of pieces)
              (stood.first ∷ stood.others) (λ none. cc none)).1
              (rw stood.begins at are.0.spaced, rw stood.begins at goes.2));
        },
        record {
          first = stood.first;
          others = stood.others ++ row ∷ [];
          begins = rows ∙ ap (λ es. es ++ row ∷ []) stood.begins;
          comes = goes.3 (position_of scope pieces) (last_of (events_of pieces)) stood.first
              stood.others stood.begins stood.comes;
          levels = goes.1;
        },
        are.2,
      ) refl (no_effect tail pieces open_end) (inr (tail, open_end, refl, refl))

  module _ (from : Option Event) (levels : Levels) (at word : ℕ) where
    -- a word leads to a step that belongs to the position
    word_at : (position : Position) (line : Line) (next : Step)
        → WordLeads scope position from levels (Word at line word) line word next
        → IsAt position next × IsWordStep next
    word_at Quiet Controller (step.AskByte byte) leads = (tt, tt)
    word_at position Controller (step.AskByte byte) leads = (tt, tt)
    word_at position Peripheral (step.AskByte byte) leads = (tt, tt)
    word_at (InAsk bytes) Controller (step.Ask command) leads =
        (sealed bytes word command leads.1.spells, tt)
    word_at (InReply command bytes) Peripheral (step.Reply reply) leads = ((leads.1, leads.2), tt)
    word_at (Returned command reply) Peripheral (step.RepeatWord said) leads =
        (rw (sym leads.0) leads.1, tt)
    word_at (InRepeat command reply words) Peripheral (step.RepeatWord said) leads =
        (rw (sym leads.0) leads.1, tt)
    word_at InForeign Controller next (inl leads) = search
    word_at InForeign Controller next (inr leads) = search
    word_at position line next leads = search

    -- a word says itself
    says : (line : Line) (said : ℕ) → word ≡ said → Say line (said ∷ []) (Word at line word ∷ [])
    says line said is = ap (λ w. Some (line, w) ∷ []) is

    -- a marked word of the controller begins a block
    opens : (position : Position) → IsFree position → (next : Step)
        → Opens scope position from (Word at Controller word) word next
        → Begins position from levels (Word at Controller word) next
    opens (InAsk bytes) free next leads = absurd free
    opens position free (step.AskByte byte) leads =
        ((leads.1, says Controller (256 + byte) leads.0), leads.2, tt)
    opens position free step.Foreign leads = (
      inl (leads.0 ∷ [], leads.2, says Controller (256 + leads.0) leads.1),
      inl (omega (arith, leads.1), leads.3),
      tt,
    )
    opens position free next leads = absurd leads

    -- a word after closed pieces begins a piece
    begins : (position : Position) → IsFree position → (line : Line) (next : Step)
        → WordLeads scope position from levels (Word at line word) line word next
        → Begins position from levels (Word at line word) next
    begins Quiet free Controller next leads = opens Quiet tt next leads
    begins (Asked command) free Peripheral (step.ReplyByte byte) leads =
        let below : byte < 256 = omega (arith, leads.0, leads.1) in
        let front : IsReplyFront command (byte ∷ []) = record {
          allowed = leads.2;
          some = omega arith;
          few = omega arith;
          in_range = All-from_recursion IsByte (byte ∷ []) (below, tt);
        } in
        ((front, says Peripheral byte leads.0), (refl, leads.3), tt)
    begins (Replied command reply) free Controller (step.AskByte byte) leads =
        opens (Replied command reply) tt (step.AskByte byte) leads
    begins (Returned command reply) free Peripheral (step.RepeatWord said) leads =
        (rw (sym leads.0) (leads.1, refl), (refl, leads.2), tt)
    begins InForeign free Controller next (inl leads) = opens InForeign tt next leads
    begins InForeign free Controller step.Foreign (inr leads) =
        (inr (Word at Controller word, refl, leads.0), inr (leads.0, refl, leads.1), tt)
    begins InForeign free Controller next (inr leads) = absurd leads.1
    begins InForeign free Peripheral step.Foreign leads =
        (inr (Word at Peripheral word, refl, tt), inr (tt, refl, leads), tt)
    begins position free line next leads = search (says, opens)

    -- a word in a block goes on with its tail
    goes_on : (tail : Piece) → IsTail tail → IsSaid scope tail → (line : Line) (next : Step)
        → WordLeads scope (left_by tail) from levels (Word at line word) line word next
        → Longer tail from levels (Word at line word) next
    goes_on (AskTail bytes events) open_end said Controller (step.AskByte byte) leads =
        let says = say_byte bytes events at word said.0.some said.1 in
        ((leads.2, rw (sym leads.0) says), tt, leads.3, λ _ _ _ _ _ comes. comes)
    goes_on (AskTail bytes events) open_end said Controller (step.Ask command) leads =
        let same = leads.1.spells.bytes in
        let asks = subst (Asks scope command) same leads.1 in
        let says = say_byte bytes events at word said.0.some said.1 in
        ((asks, rw same at says), leads.2, leads.3, λ _ _ _ _ _ comes. comes)
    goes_on (AskTail bytes events) open_end said Controller step.Foreign leads = (
      inl (bytes ++ word ∷ [], leads.1, say_byte bytes events at word said.0.some said.1),
      tt,
      leads.2,
      λ position before first others is comes. inl
          (begins_block bytes first others said.0.some (rw is at said.1), comes),
    )
    goes_on (ReplyTail command bytes events) open_end said Peripheral (step.ReplyByte byte) leads =
        let below : byte < 256 = omega (arith, leads.0, leads.1) in
        let front : IsReplyFront command (bytes ++ byte ∷ []) = record {
          allowed = said.0.allowed;
          some = omega (arith, length-append bytes (byte ∷ []));
          few = omega (arith, leads.2, length-append bytes (byte ∷ []));
          in_range = All-append IsByte bytes (byte ∷ []) said.0.in_range
              (All-from_recursion IsByte (byte ∷ []) (below, tt));
        } in
        let says = say_word Peripheral bytes events at word said.1 in
        ((front, rw (sym leads.0) says), tt, leads.3, λ _ _ _ _ _ comes. comes)
    goes_on (ReplyTail command bytes events) open_end said Peripheral (step.Reply reply) leads =
        let says = say_sum bytes events at word leads.0 said.1 in
        ((leads.1, rw leads.2 at says), leads.3, leads.4, λ _ _ _ _ _ comes. comes)
    goes_on (RepeatTail command reply words events) open_end said Peripheral (step.RepeatWord told)
        leads =
        let says = say_word Peripheral words events at word said.1 in
        (rw (sym leads.0) (leads.1, says), tt, leads.2, λ _ _ _ _ _ comes. comes)
    goes_on (RepeatTail command reply words events) open_end said Peripheral step.Repeat leads =
        let says = say_word Peripheral words events at word said.1 in
        (rw leads.0 at says, tt, leads.1, λ _ _ _ _ _ comes. comes)
    goes_on tail open_end said line next leads = search

  -- a break stands at each position
  breaks_off : (position : Position) (from : Option Event) (levels : Levels) (at length lasted : ℕ)
      → (lasted ≡ length) × (break_least Taken ≤ length) × BreakMayCome from (Break at length)
      → Begins position from levels (Break at length) (step.Break lasted)
  breaks_off (InAsk bytes) from levels at length lasted leads =
      ((at, ap (λ l. Break at l ∷ []) (sym leads.0), rw leads.0 leads.1), leads.2, tt)
  breaks_off position from levels at length lasted leads =
      ((at, ap (λ l. Break at l ∷ []) (sym leads.0), rw leads.0 leads.1), leads.2, tt)

  -- what a break makes of a position
  pub break_after : (position : Position) (length : ℕ)
      → piece_after position (step.Break length) ≡ Whole (acts.Break length)
  break_after (InAsk bytes) length = refl
  break_after position length = refl

  -- a row that breaks no rule extends the act list by its step
  pub forward : (pieces : List Piece) (row : Event) (next : Step) → ArePieces scope pieces
      → Leads (situation_of scope pieces) row next → Extended scope pieces row next
  forward pieces (Break at length) (step.Break lasted) are leads =
      fresh pieces (Break at length) (step.Break lasted) tt
      (ap (λ (p : List Event → Piece). p (Break at length ∷ []) ∷ pieces)
      (sym (break_after (position_of scope pieces) lasted))) are
      (breaks_off (position_of scope pieces) _ (Told pieces) at length lasted leads)
  forward pieces (Break at length) next are leads = absurd leads
  forward [] (Word at line word) next are leads =
      let first = first_position scope.begins in
      let led = word_at None (Told []) at word first line next leads in
      fresh [] (Word at line word) next led.0 (grows scope [] (Word at line word) next led.1) are
      (begins None (Told []) at word first (at_first IsFree tt tt scope.begins) line next leads)
  forward (Whole act events ∷ pieces) (Word at line word) next are leads =
      let before : List Piece = Whole act events ∷ pieces in
      let from = last_of (events_of before) in
      let led = word_at from (Told before) at word (left_open act) line next leads in
      fresh before (Word at line word) next led.0
      (grows scope before (Word at line word) next led.1) are
      (begins from (Told before) at word (left_open act) (free act) line next leads)
  forward (tail ∷ pieces) (Word at line word) next are leads =
      let from = last_of (events_of (tail ∷ pieces)) in
      let led = word_at from (Told pieces) at word (left_by tail) line next leads in
      longer tail pieces (Word at line word) next tt led.0
      (grows scope (tail ∷ pieces) (Word at line word) next led.1) are
      (goes_on from (Told pieces) at word tail tt are.0.said line next leads)

-- a step belongs to the position that it leads from
pub leads_at : (s : Situation) (row : Event) (next : Step) → Leads s row next → IsAt s.position next
leads_at s (Word at line word) next leads =
    (word_at s.scope s.last s.levels at word s.position line next leads).0
leads_at s (Break at length) (step.Break lasted) leads = tt
leads_at s (Break at length) next leads = absurd leads
