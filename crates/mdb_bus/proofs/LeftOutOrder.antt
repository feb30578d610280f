-- Pieces in order, where further devices are left out: what stays may stand where it stood, and
-- what is of a device that is left out stands as foreign acts.
use Rattle.mdb_bus.proofs.Words.{[], Act, ap, append-nil, append_assoc, ArePieces, AreSpaced, arith, AskTail, begin_left_out, block_of, BlockMayCome, Bool, Break, Command, command_bytes, cond_both, Device, device_in, device_of, Event, events_of, false, First, first_position, ForeignMayCome, Format, format_by, has, if◌then◌else◌, InAnswerTime, InForeign, inl, inr, is_left_out, is_one_left_out, IsByte, IsFollowed, IsForeign, IsInProfile, IsLeftOut, IsReadAs, IsSaid, last_of, LeavesOutMore, left_by, Levels, levels_before, levels_by, levels_for, levels_of, List, MayCome, NEW_BLOCK_GAP_MIN, None, NotBefore, Option, Piece, piece_events, PieceFits, Position, position_of, position_without, Profile, profile_of, Quiet, refl, RepeatTail, Reply, reply_words, ReplyTail, rest_after, Scope, Second, Some, spelled_low, subst, sym, true, untold_format, Whole, with_foreign, Word, ◌++◌, ◌∙◌, ◌∷◌, ◌≡◌}
use Rattle.mdb_bus.specs.declared.levels.ReaderLevels.{ReaderLevels}
use Rattle.mdb_bus.specs.LeavingOut.{leave_out}
use Rattle.mdb_msgs.specs.declared.command.Command.TheVariants as commands
use Rattle.mdb_msgs.specs.declared.command.ReaderCommand.TheVariants as readers
use Rattle.mdb_bus.specs.declared.act.Act.TheVariants as acts
use Rattle.mdb_msgs.specs.declared.reply.Reply.TheVariants as replies
use Rattle.mdb_bus.specs.declared.scope.Profile.TheVariants as profiles
use Rattle.mdb_bus.proofs.Followed.{FirstTells, front_followed, plain_front}
use Rattle.mdb_bus.proofs.LeftOutWords.{AreForeignWords, Becomes, answer_foreign, as_block, as_foreign, as_words, foreign_stays, peripheral_foreign, word_waits}
use Rattle.mdb_bus.proofs.Lists.{all_front, at_first, last_push}
use Rattle.mdb_bus.proofs.Named.{device_at}

-- the rows of pieces with foreign acts after them
pub foreign_rows : (events : List Event) (pieces : List Piece)
    → events_of (with_foreign events pieces) ≡ events_of pieces ++ events
foreign_rows [] pieces = sym (append-nil (events_of pieces))
foreign_rows (event ∷ events) pieces =
    foreign_rows events (Whole acts.Foreign (event ∷ []) ∷ pieces)
    ∙ append_assoc (events_of pieces) (event ∷ []) events

-- what holds of pieces without some devices, by whether the newest is of one
pub leaving : (scope : Scope) (piece : Piece) (pieces : List Piece) (P : List Piece → Type 0)
    → (is_left_out scope piece ≡ true
    → P (with_foreign (piece_events piece) (leave_out scope pieces)))
    → (is_left_out scope piece ≡ false → P (piece ∷ leave_out scope pieces))
    → P (leave_out scope (piece ∷ pieces))
leaving scope piece pieces P out kept =
    cond_both (is_left_out scope piece)
    (with_foreign (piece_events piece) (leave_out scope pieces)) (piece ∷ leave_out scope pieces) P
    out kept

-- they have the same rows
pub same_rows : (scope : Scope) (pieces : List Piece)
    → events_of (leave_out scope pieces) ≡ events_of pieces
same_rows scope [] = refl
same_rows scope (piece ∷ pieces) =
    let here = ap (λ es. es ++ piece_events piece) (same_rows scope pieces) in
    leaving scope piece pieces (λ ps. events_of ps ≡ events_of pieces ++ piece_events piece)
    (λ out. foreign_rows (piece_events piece) (leave_out scope pieces) ∙ here) (λ kept. here)

-- foreign acts leave foreign traffic
foreign_position : (scope : Scope) (first : Event) (others : List Event) (pieces : List Piece)
    → position_of scope (with_foreign (first ∷ others) pieces) ≡ InForeign
foreign_position scope first [] pieces = refl
foreign_position scope first (next ∷ others) pieces =
    foreign_position scope next others (Whole acts.Foreign (first ∷ []) ∷ pieces)

-- so does a piece that is left out; another leaves what it left
pub where_without : (less more : Scope) (pieces : List Piece) → ArePieces less pieces
    → position_of more (leave_out more pieces) ≡ position_without more pieces
where_without less more [] order = refl
where_without less more (piece ∷ pieces) order =
    let stands = order.1 in
    leaving more piece pieces (λ ps. position_of more ps ≡ position_without more (piece ∷ pieces))
    (λ out. rw (stands.begins, out)
    (foreign_position more stands.first stands.others (leave_out more pieces)))
    (λ kept. rw kept refl)

-- what waits for an answer waits for a word
rests_enough : (from : Option Event) (to : Event) → NotBefore NEW_BLOCK_GAP_MIN from to
    → NotBefore (rest_after from) from to
rests_enough None to comes = tt
rests_enough (Some (Word at line word)) to comes = omega (arith, comes)
rests_enough (Some (Break at length)) to comes = omega (arith, comes)

-- a block that may come may come in foreign traffic
pub block_waits : (profile : Profile) (position : Position) (from : Option Event) (to : Event)
    → BlockMayCome profile position from to → BlockMayCome profile InForeign from to
block_waits profiles.Base Quiet (Some (Break at length)) to comes = omega (arith, comes)
block_waits profile Quiet from to comes = comes
block_waits profile position from to comes = search (arith, rests_enough)

-- a piece that leaves a command open is of its device
of_its_device : (scope : Scope) (piece : Piece) (device : Device)
    → device_at (left_by piece) ≡ Some device → is_left_out scope piece ≡ has scope.without device
of_its_device scope (Whole (acts.Ack command) events) device is = cc
of_its_device scope piece device is = cc

-- Where the bus is without further devices, by where it is with them.
pub record Moves (scope : Scope) (position without : Position) : Type 0 where
  pub block : (from : Option Event) (to : Event)
      → BlockMayCome (profile_of scope.begins) position from to
      → BlockMayCome (profile_of scope.begins) without from to
  pub stays : (device : Device) → device_at position ≡ Some device → IsFollowed scope device
      → without ≡ position
  pub leaves : (device : Device) → device_at position ≡ Some device → IsLeftOut scope device
      → without ≡ InForeign
  pub foreign : position ≡ InForeign → without ≡ InForeign

-- a piece moves the bus where it stays, or where its rows are foreign
piece_moves : (scope : Scope) (piece : Piece) (out : Bool) → is_left_out scope piece ≡ out
    → Moves scope (left_by piece) (if out then InForeign else left_by piece)
piece_moves scope piece true out = record {
  block = block_waits (profile_of scope.begins) (left_by piece);
  stays = λ device is followed. let its = of_its_device scope piece device is in cc;
  leaves = λ device is also. refl;
  foreign = λ is. refl;
}
piece_moves scope piece false kept = record {
  block = λ from to comes. comes;
  stays = λ device is followed. refl;
  leaves = λ device is also. let its = of_its_device scope piece device is in cc;
  foreign = λ is. is;
}

module _ (scope : Scope) (position without : Position) (from : Option Event)
    (moved : Moves scope position without) where
  abbrev Of : Profile
  Of = profile_of scope.begins

  -- a foreign act may come where one might
  foreign_moves : (to : Event) → ForeignMayCome Of position from to
      → ForeignMayCome Of without from to
  foreign_moves to (inl opens) = inl (opens.0, moved.block from to opens.1)
  foreign_moves to (inr further) = inr (further.0, moved.foreign further.1, further.2)

  -- what stays may come where it came
  comes_as_it_did : (to : Event) (piece : Piece) → is_left_out scope piece ≡ false
      → MayCome Of piece position from to → MayCome Of piece without from to
  comes_as_it_did to (Whole (acts.Ask command) events) kept comes = moved.block from to comes
  comes_as_it_did to (Whole acts.Foreign events) kept comes = foreign_moves to comes
  comes_as_it_did to (Whole (acts.Break length) events) kept comes = comes
  comes_as_it_did to (AskTail bytes events) kept comes = moved.block from to comes
  comes_as_it_did to piece kept comes =
      (moved.stays _ (ap device_at comes.0) kept ∙ comes.0, comes.1)

  -- what is of a device that is left out becomes foreign acts
  module _ (law : FirstTells) (less : Scope) (first : Event) (others : List Event) where
    -- its words are words of foreign traffic
    words : {events : List Event} {other : Position} {device : Device} → AreForeignWords events
        → events ≡ first ∷ others → (position ≡ other) × InAnswerTime Of from first
        → device_at other ≡ Some device → IsLeftOut scope device
        → Becomes scope without from first others
    words foreign are comes its out =
        as_words scope without from first others (rw are at foreign)
        (moved.leaves _ (ap device_at comes.0 ∙ its) out) comes.1.0

    becomes : (piece : Piece) → is_left_out scope piece ≡ true → IsSaid less piece
        → piece_events piece ≡ first ∷ others → MayCome Of piece position from first
        → Becomes scope without from first others
    becomes (Whole (acts.Ask command) events) out said are comes =
        let block = block_of (command_bytes command) in
        as_block scope without from first others block
        (law block command said.0.spells scope.without ∙ out)
        (spelled_low command block said.0.spells) (rw are at said.1) (moved.block from first comes)
    becomes (Whole (acts.Ack command) events) out said are comes =
        words (peripheral_foreign (_ ∷ []) events said) are comes refl out
    becomes (Whole (acts.Nak command) events) out said are comes =
        words (peripheral_foreign (_ ∷ []) events said) are comes refl out
    becomes (Whole (acts.Reply command reply) events) out said are comes =
        words (peripheral_foreign (reply_words reply) events said.1) are comes refl out
    becomes (Whole (acts.VmcAck command reply) events) out said are comes =
        words (answer_foreign _ events (omega arith) said) are comes refl out
    becomes (Whole (acts.VmcNak command reply) events) out said are comes =
        words (answer_foreign _ events (omega arith) said) are comes refl out
    becomes (Whole (acts.VmcRet command reply) events) out said are comes =
        words (answer_foreign _ events (omega arith) said) are comes refl out
    becomes (Whole (acts.Repeat command reply) events) out said are comes =
        words (peripheral_foreign (reply_words reply) events said) are comes refl out
    becomes (Whole acts.Foreign events) out said are comes =
        as_foreign scope without from first others less
        (ap (begin_left_out scope) (sym are) ∙ out) (rw are at said) (foreign_moves first comes)
    becomes (Whole (acts.Break length) events) out said are comes = cc out
    becomes (AskTail bytes events) out said are comes =
        let front = said.0 in
        as_block scope without from first others bytes out (all_front IsByte bytes front.rest
        (spelled_low front.command (bytes ++ front.rest) front.spelled.spells)) (rw are at said.1)
        (moved.block from first comes)
    becomes (ReplyTail command bytes events) out said are comes =
        words (peripheral_foreign bytes events said.1) are comes refl out
    becomes (RepeatTail command reply said_words events) out said are comes =
        words (peripheral_foreign said_words events said.1) are comes refl out

module _ (scope : Scope) where
  -- a foreign word stands as an act by itself
  word_stands : (event : Event) (pieces : List Piece) → ArePieces scope pieces
      → IsForeign scope (event ∷ []) → ForeignMayCome (profile_of scope.begins)
      (position_of scope pieces) (last_of (events_of pieces)) event
      → ArePieces scope (Whole acts.Foreign (event ∷ []) ∷ pieces)
  word_stands event pieces are said comes = (
    record { said = said; spaced = tt },
    record { first = event; others = []; begins = refl; comes = comes; levels = tt },
    are,
  )

  -- so do further words of foreign traffic
  words_stand : (from : Event) (events : List Event) (pieces : List Piece) → ArePieces scope pieces
      → position_of scope pieces ≡ InForeign → last_of (events_of pieces) ≡ Some from
      → AreSpaced (profile_of scope.begins) (from ∷ events) → AreForeignWords events
      → ArePieces scope (with_foreign events pieces)
  words_stand from [] pieces are here last spaced words = are
  words_stand from (event ∷ events) pieces are here last spaced words =
      words_stand event events (Whole acts.Foreign (event ∷ []) ∷ pieces)
      (word_stands event pieces are (inr (event, refl, words.0))
      (inr (words.0, here, rw last (word_waits (Some from) event spaced.0.0))))
      refl (last_push (events_of pieces) event) spaced.1 words.1

-- an act tells its own reader a level, and not the other
told_another : (profile : Profile) (scope : Scope) (command : Command) (act : Act) (levels : Levels)
    → IsFollowed scope (device_of command) → is_one_left_out scope (device_in act) ≡ true
    → levels_for command (levels_by profile act levels) ≡ levels_for command levels
told_another profile scope (commands.Reader First _)
    (acts.Ask (commands.Reader Second (readers.SetupConfig _ _ _ _))) levels followed out = refl
told_another profile scope (commands.Reader Second _)
    (acts.Ask (commands.Reader First (readers.SetupConfig _ _ _ _))) levels followed out = refl
told_another profiles.Extended scope (commands.Reader First command)
    (acts.Reply (commands.Reader Second asked) (replies.Reader list)) levels followed out = refl
told_another profiles.Extended scope (commands.Reader Second command)
    (acts.Reply (commands.Reader First asked) (replies.Reader list)) levels followed out = refl
told_another profile scope command act levels followed out = search

-- after an act, levels are the same for a reader if they were before it
same_after : (profile : Profile) (command : Command) (act : Act) (one other : Levels)
    → levels_for command one ≡ levels_for command other
    → levels_for command (levels_by profile act one)
    ≡ levels_for command (levels_by profile act other)
same_after profile (commands.Reader First _)
    (acts.Ask (commands.Reader First (readers.SetupConfig _ _ _ _))) one other same = rw same
same_after profile (commands.Reader Second _)
    (acts.Ask (commands.Reader Second (readers.SetupConfig _ _ _ _))) one other same = rw same
same_after profile (commands.Reader unit _)
    (acts.Ask (commands.Reader another (readers.SetupConfig _ _ _ _))) one other same = same
same_after profiles.Extended (commands.Reader First command)
    (acts.Reply (commands.Reader First asked) (replies.Reader list)) one other same = rw same
same_after profiles.Extended (commands.Reader Second command)
    (acts.Reply (commands.Reader Second asked) (replies.Reader list)) one other same = rw same
same_after profiles.Extended (commands.Reader unit command)
    (acts.Reply (commands.Reader another asked) (replies.Reader list)) one other same = same
same_after profile command act one other same = search

-- foreign acts tell no level
pub foreign_levels : (profile : Profile) (told : Levels) (events : List Event) (pieces : List Piece)
    → levels_of profile told (with_foreign events pieces) ≡ levels_of profile told pieces
foreign_levels profile told [] pieces = refl
foreign_levels profile told (event ∷ events) pieces =
    foreign_levels profile told events (Whole acts.Foreign (event ∷ []) ∷ pieces)

module _ (scope : Scope) (command : Command) where
  abbrev Its : List Piece → ReaderLevels
  Its pieces = levels_for command (levels_of (profile_of scope.begins) (levels_before scope) pieces)

  -- a piece goes on from levels that are the same for a command
  levels_go_on : (piece : Piece) (one other : List Piece) → Its one ≡ Its other
      → Its (piece ∷ one) ≡ Its (piece ∷ other)
  levels_go_on (Whole act events) one other same =
      same_after (profile_of scope.begins) command act _ _ same
  levels_go_on piece one other same = same

  -- a piece of a device that is left out tells another reader nothing, and of it nothing
  levels_stay : (piece : Piece) (pieces : List Piece) → IsFollowed scope (device_of command)
      → is_left_out scope piece ≡ true → Its (piece ∷ pieces) ≡ Its pieces
  levels_stay (Whole acts.Foreign events) pieces followed out = refl
  levels_stay (Whole act events) pieces followed out =
      told_another (profile_of scope.begins) scope command act _ followed out
  levels_stay piece pieces followed out = refl

  -- so a reader that is followed was told the same
  same_level : (pieces : List Piece) → IsFollowed scope (device_of command)
      → Its (leave_out scope pieces) ≡ Its pieces
  same_level [] followed = refl
  same_level (piece ∷ pieces) followed =
      let same = same_level pieces followed in
      leaving scope piece pieces (λ ps. Its ps ≡ Its (piece ∷ pieces))
      (λ out. ap (levels_for command) (foreign_levels (profile_of scope.begins)
      (levels_before scope) (piece_events piece) (leave_out scope pieces))
      ∙ (same ∙ sym (levels_stay piece pieces followed out)))
      (λ kept. levels_go_on piece (leave_out scope pieces) pieces same)

-- a reply fits levels that are the same for its command
fits_so : (profile : Profile) (untold : Format) (one other : Levels) (command : Command)
    (reply : Reply) → levels_for command one ≡ levels_for command other
    → IsReadAs (format_by profile untold other command) command reply
    × IsInProfile profile other command reply
    → IsReadAs (format_by profile untold one command) command reply
    × IsInProfile profile one command reply
fits_so profiles.Base untold one other command reply same fits = rw same fits
fits_so profiles.Extended untold one other (commands.Reader unit command) reply same fits =
    rw same fits
fits_so profiles.Extended untold one other command reply same fits = fits

-- so a piece that stays fits the levels of the pieces that stay
levels_fit : (scope : Scope) (piece : Piece) (pieces : List Piece) → is_left_out scope piece ≡ false
    → PieceFits scope.begins (levels_of (profile_of scope.begins) (levels_before scope) pieces)
    piece → PieceFits scope.begins
    (levels_of (profile_of scope.begins) (levels_before scope) (leave_out scope pieces)) piece
levels_fit scope (Whole (acts.Reply command reply) events) pieces kept fits =
    fits_so (profile_of scope.begins) (untold_format scope.begins) _ _ command reply
    (same_level scope command pieces kept) fits
levels_fit scope piece pieces kept fits = fits

module _ (law : FirstTells) (less more : Scope) (wider : LeavesOutMore less more) where
  -- so do pieces in order
  moves : (pieces : List Piece) → ArePieces less pieces
      → Moves more (position_of less pieces) (position_of more (leave_out more pieces))
  moves [] order =
      let same = ap first_position wider.begins in
      record {
        block = λ from to comes. rw (sym same) comes;
        stays = λ device is followed. sym same;
        leaves = λ device is out.
            let none = at_first (λ p. device_at p ≡ None) refl refl less.begins in cc;
        foreign = λ is. sym same ∙ is;
      }
  moves (piece ∷ pieces) order =
      subst (Moves more (left_by piece)) (sym (where_without less more (piece ∷ pieces) order))
      (piece_moves more piece (is_left_out more piece) refl)

  -- what stays says what it said
  said_stays : (piece : Piece) → is_left_out more piece ≡ false → IsSaid less piece
      → IsSaid more piece
  said_stays (Whole (acts.Ask command) events) kept said =
      let known = rw wider.begins at said.0.known in
      (record { spells = said.0.spells; known = known; followed = kept }, said.1)
  said_stays (Whole acts.Foreign events) kept said = foreign_stays less more wider events kept said
  said_stays (AskTail bytes events) kept said =
      let front = rw wider.begins at (plain_front less bytes said.0) in
      (front_followed law more bytes front kept, said.1)
  said_stays (Whole (acts.Break length) events) kept said =
      (said.0, said.1, rw wider.begins at said.2)
  said_stays piece kept said = said

  -- pieces in order are in order without further devices
  pub in_order : (pieces : List Piece) → ArePieces less pieces
      → ArePieces more (leave_out more pieces)
  in_order [] order = tt
  in_order (piece ∷ pieces) order =
      let said = order.0.said in
      let stands = order.1 in
      let rest = leave_out more pieces in
      let before = in_order pieces order.2 in
      let moved = moves pieces order.2 in
      let from = last_of (events_of pieces) in
      let spaced = rw wider.begins at order.0.spaced in
      let at = position_of less pieces in
      let came : MayCome (profile_of more.begins) piece at from stands.first =
      subst (λ begins. MayCome (profile_of begins) piece at from stands.first) wider.begins
      stands.comes in
      let fits : PieceFits more.begins
      (levels_of (profile_of more.begins) (levels_before more) pieces) piece =
      rw (← wider.begins, ← wider.levels) stands.levels in
      leaving more piece pieces (ArePieces more)
      (λ out.
      let become = becomes more _ _ from moved law less stands.first stands.others piece out said
      stands.begins came in
      let here : List Piece = Whole acts.Foreign (stands.first ∷ []) ∷ rest in
      rw stands.begins (words_stand more stands.first stands.others here
      (word_stands more stands.first rest before become.act
      (rw (same_rows more pieces) become.comes)) refl
      (last_push (events_of rest) stands.first) (rw stands.begins at spaced) become.words))
      (λ kept. (
        record { said = said_stays piece kept said; spaced = spaced },
        record {
          first = stands.first;
          others = stands.others;
          begins = stands.begins;
          comes = rw (same_rows more pieces)
              (comes_as_it_did more _ _ from moved stands.first piece kept came);
          levels = levels_fit more piece pieces kept fits;
        },
        before,
      ))
