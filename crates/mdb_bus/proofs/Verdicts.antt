-- What is made of a word, position by position.
use Rattle.std.proofs.lemmas.Option.{slice_get-get_or, slice_get_past}
use Rattle.mdb_bus.proofs.Words.{[], All, All-append, All-from_get_or, All-from_recursion, and_right, answer_byte, answer_most, ap, append_assoc, arith, Asked, Base, begins_options, Belongs, block_most, block_of, Bool, BytesHaveOneFault, cases_Bool, Command, command_bytes, Controller, Counts, Covers, drop, EnablesMore, Err, Event, Exactly, Extended, false, Fits, Foreign, format_for, FrontIsOpen, get_or, HasCommand, HasFault, IfOk, InAsk, InBlockTime, inl, inr, InReply, is_enable_options, is_past, is_untimely, IsAskFront, IsBefore, IsByte, IsCommandFront, IsFirstByPlace, IsGoingOn, HasEffect, HasEffectBy, IsOpen, IsOpened, IsPast, IsRead, IsRepeatFront, IsReplyEnd, IsSettled, IsShort, IsTimely, IsTrue, IsUnknownExpansion, Effect, leaves_features, LeavesProfile, length, length-append, length-drop, Levels, List, More, MsgFault, Need, needed, needed_by, needed_in, nil_from_length, None, NotBefore, NotPast, Ok, OnOk, OpenIsAnothersFront, Option, OutOfOrder, Outside, Peripheral, peripheral_words, place_of, Position, Profile, profile_of, refl, Reply, reply_words, ReplyHasNoFault, Result, RowBreaks, Rule, rules, same_from_push, Scope, Situation, slice_get, slice_index, Some, Spells, suc, sum, sym, take, true, w8, Word, WORD_GAP_MIN, WrongLength, zero, ℕ, ◌%◌, ◌&&◌, ◌++◌, ◌+◌, ◌<◌, ◌↔◌, ◌∙◌, ◌∷◌, ◌≡◌, ◌≢◌, ◌≤◌, ◌⊎◌}
use Rattle.mdb_words.specs.declared.answer.Answer.{Answer}
use Rattle.mdb_msgs.specs.Answers.{HasDataAnswer}
use Rattle.mdb_msgs.specs.Laws.{OpenIsAFront}
use Rattle.mdb_bus.specs.declared.phase.Phase.{Phase}
use Rattle.mdb_words.specs.declared.answer.Answer.TheVariants as answers
use Rattle.mdb_msgs.specs.declared.fault.MsgFault.TheVariants as reading
use Rattle.mdb_bus.specs.declared.fault.Rule.TheVariants as rule
use Rattle.mdb_bus.specs.declared.effect.Effect.TheVariants as effect
use Rattle.mdb_bus.specs.declared.phase.Phase.TheVariants as phase
use Rattle.mdb_bus.proofs.Needs.{from_2_to_32, not_left, stays, narrows}
use Rattle.mdb_bus.proofs.FormatLaws.{none_as, one_bad, bad_length}
use Rattle.mdb_bus.proofs.Masked.{AreKnown, TwoTell, begins_one, content_tells, known_front, known_need, more_known, one_need, features_more, unmasked}
use Rattle.mdb_bus.proofs.Followed.{AreFollowed, FirstTells, asks_followed, expansion_opens, front_followed, needed_followed, plain_front, still_followed, within}
use Rattle.mdb_bus.proofs.Lists.{not_empty, peripheral_push, some_length, some_there}

-- a row that isn't early comes in time, and one that isn't late
in_time : (least : ℕ) (from : Option Event) (to : Event) → (IsBefore least from to → ⊥)
    → NotBefore least from to
in_time least None to early = tt
in_time least (Some before) to early = omega (arith, early)

not_late : (most : Option ℕ) (from : Option Event) (to : Event) → (IsPast most from to → ⊥)
    → NotPast most from to
not_late (Some most) (Some before) to late = omega (arith, late)
not_late most from to late = search

-- times cover those of the same profile
pub covers_same : (times profile : Profile) → times ≡ profile → Covers times profile
covers_same Extended Base same = absurd (cc same)
covers_same times profile same = tt

-- a word in its block's time, by times that count for a profile, isn't late by that
pub block_covered : (times profile : Profile) (from : Option Event) (to : Event)
    (result : Result Effect Rule) → Counts times profile result → InBlockTime times from to
    → IsPast (block_most profile) from to → ⊥
block_covered Base Base (Some before) to result counts near past = omega (arith, near.1, past)
block_covered Extended Base from to (Err broken) counts near past = cc counts
block_covered times profile from to result counts near past = search

-- and it is timely
pub block_timely : (times : Profile) (position : Position) (from : Option Event) (to : Event)
    (result : Result Effect Rule) → is_untimely position from to ≡ is_past (block_most Base) from to
    → is_past (block_most times) from to ≡ false → OnOk result (IsTimely times position from to)
block_timely Base position from to (Ok found) same near = same ∙ near
block_timely times position from to result same near = search rules

-- what fits a byte each are bytes
pub are_bytes : (bytes : List ℕ) → ((i : ℕ) → Fits w8 (get_or bytes i 0)) → All IsByte bytes
are_bytes bytes low = All-from_get_or IsByte bytes 0 (λ i within. search (rules, low i))

-- a need by which bytes leave a command open
abbrev Wants : Need → Type 0
Wants told = (told ≡ More) ⊎ ((n : ℕ) × (told ≡ Exactly n))

-- it isn't foreign
not_foreign : (told : Need) → Wants told → told ≢ Foreign
not_foreign told (inl more) foreign = cc
not_foreign told (inr exact) foreign = let is = exact.1 in cc

-- what two bytes don't tell a length of, the first leaves to the second
left_by : (first word : ℕ) (told : Need) → needed (first ∷ []) ≡ told → IsShort told 1
    → ((n : ℕ) → needed (first ∷ word ∷ []) ≡ Exactly n → ⊥) → needed (first ∷ []) ≡ More
left_by first word More is short none = is
left_by first word (Exactly n) is short none = absurd (none n ((narrows first).known word n is))
left_by first word other is short none = absurd short

-- a second byte with which a command is open still
second_short : (first byte : ℕ) (alone told : Need) → needed (first ∷ []) ≡ alone
    → needed (first ∷ byte ∷ []) ≡ told → IsShort alone 1 → (alone ≡ Exactly 2 → ⊥) → Wants told
    → IsShort told 2
second_short first byte alone told is tell short other (inl more) =
    absurd (not_left (first ∷ byte ∷ []) (omega arith) (tell ∙ more))
second_short first byte More told is tell short other (inr exact) =
    rw exact.1 ((narrows first).left byte exact.0 is (tell ∙ exact.1))
second_short first byte (Exactly m) told is tell short other (inr exact) =
    let same : m ≡ exact.0 = cc ((narrows first).known byte m is, tell, exact.1) in
    let two = (from_2_to_32 (first ∷ []) m (omega arith) is).0 in
    let not_two : m ≡ 2 → ⊥ = λ at. other (ap Exactly at) in
    rw exact.1 (omega arith)
second_short first byte alone told is tell short other (inr exact) = absurd short

-- where no further byte leaves a command open, the next one is its last
pub further_end : (bytes : List ℕ) (told : Need) → 2 ≤ length bytes → needed bytes ≡ told
    → ((n : ℕ) → told ≡ Exactly n → n ≤ length bytes + 1) → IsOpen bytes
    → needed bytes ≡ Exactly (length bytes + 1)
further_end bytes More two is most begun = absurd (not_left bytes two is)
further_end bytes (Exactly n) two is most begun =
    let short : length bytes < n = rw is at begun in
    let e : n ≡ length bytes + 1 = omega (arith, most n refl) in is ∙ ap Exactly e
further_end bytes told two is most begun = absurd (rw is at begun)

-- bytes with which a command is open are few
few_open : (bytes : List ℕ) (need : Need) → 0 < length bytes → needed bytes ≡ need
    → IsShort need (length bytes) → length bytes ≤ 32
few_open bytes (Exactly n) some is short = omega (arith, short, (from_2_to_32 bytes n some is).1)
few_open bytes More some is short = omega (arith, short)
few_open bytes other some is short = absurd short

-- bytes that leave a command open are some: none need nothing
pub some_bytes : (bytes : List ℕ) → IsOpen bytes → bytes ≢ []
some_bytes [] wanting none = wanting
some_bytes (byte ∷ bytes) wanting none = cc none

-- the last byte of a command's block is its sum
pub last_is_sum : (bytes : List ℕ) (word : ℕ) (command : Command)
    → Spells command (bytes ++ word ∷ []) → word ≡ sum bytes % 256
last_is_sum bytes word command spelled =
    let content = command_bytes command in
    let same = same_from_push bytes content word (sum content % 256) spelled.bytes in
    same.1 ∙ ap (λ bs. sum bs % 256) (sym same.0)

-- so it is the block of the bytes before it
pub sealed : (bytes : List ℕ) (word : ℕ) (command : Command) → Spells command (bytes ++ word ∷ [])
    → Spells command (block_of bytes)
sealed bytes word command spelled = rw (last_is_sum bytes word command spelled) at spelled

module _ (profile : Profile) where
  -- what is open is the front of an ask
  front_of : OpenIsAFront → TwoTell → (bytes : List ℕ) → 2 ≤ length bytes → All IsByte bytes
      → IsOpen bytes → AreKnown profile bytes → IsCommandFront profile bytes
  front_of law tell bytes two low wanting known =
      let found = law bytes low wanting in
      record {
        some = some_there bytes (omega (arith, two));
        command = found.0;
        known = known_front tell profile bytes found.1 found.0 two found.3 known;
        rest = found.1;
        open_end = found.2;
        spelled = found.3;
      }

  -- and the front of an ask is open
  open_front : FrontIsOpen → (bytes : List ℕ) → IsCommandFront profile bytes → IsOpen bytes
  open_front law bytes front =
      law bytes front.rest front.command (some_length bytes front.some) front.open_end
      front.spelled

  -- a first byte that leaves a command open begins another ask than ENABLE OPTIONS
  begins : OpenIsAnothersFront → (byte : ℕ) (told : Need) → IsByte byte
      → needed (byte ∷ []) ≡ told → Wants told → IsCommandFront profile (byte ∷ [])
  begins law byte told low is wanting =
      let found = law (byte ∷ []) (All-from_recursion IsByte (byte ∷ []) (low, tt)) (short wanting)
      (begins_one byte) in
      record {
        some = λ none. cc none;
        command = found.0;
        known = and_right (leaves_features profile) (is_enable_options found.0) found.4;
        rest = found.1;
        open_end = found.2;
        spelled = found.3;
      }
    where
      short : Wants told → IsOpen (byte ∷ [])
      short (inl more) = rw (is, more) refl
      short (inr exact) =
          let two = (from_2_to_32 (byte ∷ []) exact.0 (omega arith) (is ∙ exact.1)).0 in
          rw (is, exact.1) (omega arith)

  -- what two bytes make foreign, the first leaves to the second
  left_foreign : (first word : ℕ) → IsOpen (first ∷ [])
      → needed_by profile (first ∷ word ∷ []) ≡ Foreign → needed (first ∷ []) ≡ More
  left_foreign first word alone foreign = elim (cases_Bool (begins_options (first ∷ word ∷ []))) [
    | inl begins ↦ features_more first word begins
    | inr none ↦
        let known = known_need profile (first ∷ word ∷ [])
        (and_right (leaves_features profile) _ none) in
        left_by first word _ refl alone (λ n tells. cc (known, foreign, tells))
  ]

  -- what is made of a second byte
  module _ {bytes : List ℕ} {first byte word : ℕ} {told : Need} (is : bytes ≡ first ∷ [])
      (low : byte ≡ word % 256) (small : word < 256)
      (tell : told ≡ needed_by profile (first ∷ byte ∷ [])) (begun : IsOpen bytes) where
    -- one that this profile leaves out
    pub second_outside : told ≡ Outside
        → (needed_by profile bytes ≡ More) × (needed_by profile (bytes ++ word ∷ []) ≡ Outside)
    second_outside out =
        let same : word ≡ byte = omega (arith, low) in
        let unknown : needed_by profile (first ∷ byte ∷ []) ≡ Outside = sym tell ∙ out in
        let plain = unmasked profile (first ∷ byte ∷ []) Outside unknown (λ foreign. cc foreign) in
        let more = left_by first byte _ refl (rw is at begun)
        (λ n tells. cc (plain.1, tells)) in
        rw is (rw same (one_need profile first ∙ more, unknown))

    -- one that makes the block foreign
    pub second_foreign : told ≡ Foreign → IsUnknownExpansion profile (bytes ++ word ∷ [])
    second_foreign out =
        let same : word ≡ byte = omega (arith, low) in
        let foreign : needed_by profile (first ∷ byte ∷ []) ≡ Foreign = sym tell ∙ out in
        let more = left_foreign first byte (rw is at begun) foreign in
        rw is (rw same (more, foreign, omega (arith, low)))

    -- one that leaves the command open
    pub second_front : OpenIsAFront → TwoTell → (alone : Need) → first < 256
        → alone ≡ needed (first ∷ []) → (alone ≡ Exactly 2 → ⊥) → Wants told
        → (word ≡ word % 256) × IsCommandFront profile (bytes ++ word % 256 ∷ [])
    second_front opens tells alone fits lone other wanting =
        let plain = unmasked profile (first ∷ byte ∷ []) told (sym tell)
        (not_foreign told wanting) in
        let byte_low : byte < 256 = omega (arith, low) in (
          omega arith,
          rw is (rw (← low) (front_of opens tells (first ∷ byte ∷ []) (omega arith)
              (All-from_recursion IsByte (first ∷ byte ∷ []) (fits, (byte_low, tt)))
              (rw plain.1 (second_short first byte alone told (sym lone) plain.1
              (rw (is, sym lone) at begun) other wanting)) plain.0)),
        )

  -- a further byte with which a command is open still
  pub further_front : OpenIsAFront → TwoTell → (bytes : List ℕ) (byte n : ℕ) → 2 ≤ length bytes
      → All IsByte bytes → byte < 256 → AreKnown profile bytes → needed bytes ≡ Exactly n
      → length bytes + 1 < n → IsCommandFront profile (bytes ++ byte ∷ [])
  further_front opens tells bytes byte n two low byte_low known told short =
      let long = length-append bytes (byte ∷ []) in
      front_of opens tells (bytes ++ byte ∷ []) (omega (arith, long, two))
      (All-append IsByte bytes (byte ∷ []) low
      (All-from_recursion IsByte (byte ∷ []) (byte_low, tt)))
      (rw (stays bytes (byte ∷ []) two, told) (omega arith))
      (more_known profile bytes (byte ∷ []) two known)

-- a byte that begins an ask, where it is no address of a device that is left out
pub begins_followed : FirstTells → OpenIsAnothersFront → (scope : Scope) (word one : ℕ)
    (told : Need) → one ≡ word % 256 → told ≡ needed_in scope (one ∷ []) → Wants told
    → IsAskFront scope (word % 256 ∷ [])
begins_followed first law scope word one told same is wanting =
    let plain = within scope (one ∷ []) told (sym is) (not_foreign told wanting) in
    rw (← same) (front_followed first scope (one ∷ []) (begins (profile_of scope.begins) law one
    told (omega (arith, same)) (sym (one_need (profile_of scope.begins) one) ∙ plain.1) wanting)
    plain.0)

-- bytes that need their sum alone are with it the block of a command
module _ (law : (content : List ℕ) → All IsByte content
    → needed content ≡ Exactly (length content + 1)
    → (command : Command) × Spells command (block_of content)) (tell : TwoTell)
    (bytes : List ℕ) (word : ℕ) (some : 1 ≤ length bytes) (low : All IsByte bytes)
    (told : needed bytes ≡ Exactly (length bytes + 1)) (total : word ≡ sum bytes % 256) where
  ask_whole : (profile : Profile) → AreKnown profile bytes
      → (command : Command) × Spells command (block_of bytes) × Spells command (bytes ++ word ∷ [])
      × HasCommand profile command
  ask_whole profile known =
      let found = law bytes low told in
      let same = sym (content_tells tell bytes found.0 (some_there bytes some) found.1) in
      (found.0, found.1, rw total found.1, ap (λ b. leaves_features profile && b) same ∙ known)

  -- which asks for more than is followed, or doesn't
  module _ (more : Bool) (means : (command : Command) → Spells command (block_of bytes)
      → IsTrue more ↔ EnablesMore command) where
    pub ask_more : more ≡ true → (profile : Profile) → AreKnown profile bytes
        → IsGoingOn profile bytes word (Err rule.Profile)
    ask_more is profile known =
        let ask = ask_whole profile known in inr (ask.0, ask.2, ask.3, (means ask.0 ask.1).0 is)

    pub ask_ends : more ≡ false → (profile : Profile) → AreKnown profile bytes
        → IsGoingOn profile bytes word (Ok effect.Ask)
    ask_ends is profile known =
        let ask = ask_whole profile known in
        (ask.0, ask.2, ask.3, λ enables. cc ((means ask.0 ask.1).1 enables, is))

-- an unmarked word inside a block of the controller
module _ (scope : Scope) (bytes : List ℕ) (from : Option Event) (at word : ℕ) (levels : Levels)
    (order : OutOfOrder from (Word at Controller word) → ⊥)
    (early : IsBefore WORD_GAP_MIN from (Word at Controller word) → ⊥) (small : word < 256)
    (law : FirstTells) (begun : IsOpen bytes) (followed : AreFollowed scope bytes) where
  abbrev Asking : Situation
  Asking = record { scope = scope; position = InAsk bytes; last = from; levels = levels }

  abbrev Said : Event
  Said = Word at Controller word

  -- that comes in its time
  module _ (late : IsPast (block_most (profile_of scope.begins)) from Said → ⊥) where
    asks_first : (broken : Rule) → place_of broken ≤ place_of rule.Profile
        → (RowBreaks Asking Said rule.Sum → place_of broken ≤ place_of rule.Sum)
        → (other : Rule) → RowBreaks Asking Said other → place_of broken ≤ place_of other
    asks_first broken most sum rule.Sum b = sum b
    asks_first broken most sum other b = search arith

    -- it comes in its block's time, and what goes on to a device that is followed does
    on_time : InBlockTime (profile_of scope.begins) from Said
    on_time = (in_time WORD_GAP_MIN from Said early, not_late _ from Said late)

    goes_on : (more : List ℕ) → AreFollowed scope (bytes ++ more)
    goes_on more = still_followed scope bytes more (some_bytes bytes begun) followed

    going_on : (result : Result Effect Rule)
        → IsGoingOn (profile_of scope.begins) bytes word result → HasEffect Asking Said result
    going_on (Ok effect.AskByte) h =
        (h.0, small, front_followed law scope (bytes ++ word % 256 ∷ []) h.1 (goes_on _), on_time)
    going_on (Ok effect.Ask) h =
        let asks = asks_followed law scope h.0 (bytes ++ word ∷ []) h.1 h.2 (goes_on _) in
        (h.0, (small, asks, h.3, on_time))
    going_on (Ok effect.Foreign) h =
        (small, expansion_opens scope (bytes ++ word ∷ []) h (goes_on (word ∷ [])), on_time)
    going_on (Err rule.Sum) h = record {
      breaks = (needed_followed scope bytes followed ∙ h.0, h.1);
      first = asks_first rule.Sum (omega arith) (λ b. omega arith);
    }
    going_on (Err rule.Profile) (inl h) =
        let more = needed_followed scope bytes followed ∙ h.0 in
        let out = needed_followed scope (bytes ++ word ∷ []) (goes_on (word ∷ [])) ∙ h.1 in record {
          breaks = inl (more, out);
          first = asks_first rule.Profile (omega arith) (λ b. cc (more, b.0));
        }
    going_on (Err rule.Profile) (inr h) =
        let asks = asks_followed law scope h.0 (bytes ++ word ∷ []) h.1 h.2 (goes_on _) in record {
          breaks = inr (h.0, asks, h.3);
          first = asks_first rule.Profile (omega arith)
              (λ b. absurd (b.1 (last_is_sum bytes word h.0 h.1)));
        }
    going_on result h = absurd h

  -- by the times of a profile
  pub going_by : (times : Profile) (result : Result Effect Rule) → InBlockTime times from Said
      → is_past (block_most times) from Said ≡ false
      → IsGoingOn (profile_of scope.begins) bytes word result → HasEffectBy times Asking Said result
  going_by times result near past going = record {
    effect = λ counts. going_on
        (block_covered times (profile_of scope.begins) from Said result counts near) result going;
    timely = block_timely times (InAsk bytes) from Said result refl past;
  }

-- a marked word of a peripheral, in its time
module _ (scope : Scope) (command : Command) (from : Option Event) (at word : ℕ) (levels : Levels)
    (order : OutOfOrder from (Word at Peripheral word) → ⊥)
    (early : IsBefore WORD_GAP_MIN from (Word at Peripheral word) → ⊥) (marked : 256 ≤ word) where
  abbrev Told : Event
  Told = Word at Peripheral word

  abbrev At : Position → Situation
  At position = record { scope = scope; position = position; last = from; levels = levels }

  -- one that is no answer
  pub no_answer : (byte : ℕ) → (IsPast (answer_most (profile_of scope.begins)) from Told → ⊥)
      → word < 512 → byte ≡ word % 256 → ((answer : Answer) → answer_byte answer ≢ byte)
      → IsFirstByPlace (At (Asked command)) Told rule.Answer
  no_answer byte late small low none = record {
    breaks = inl (
      marked,
      (λ ack. none answers.Ack (omega (arith, low, ack))),
      (λ nak. none answers.Nak (omega (arith, low, nak))),
    );
    first = first;
  }
    where
      first : (other : Rule) → RowBreaks (At (Asked command)) Told other
          → place_of rule.Answer ≤ place_of other
      first rule.Answer b = omega arith
      first other b = search arith

  -- one that ends a reply
  module _ (one : BytesHaveOneFault) (none : ReplyHasNoFault) (bytes : List ℕ)
      (late : IsPast (block_most (profile_of scope.begins)) from Told → ⊥) where
    abbrev Replying : Situation
    Replying = At (InReply command bytes)

    abbrev Bad : MsgFault → Type 0
    Bad = HasFault (format_for scope.begins levels command) command bytes

    -- faults of its bytes are one
    apart : (fault other : MsgFault) → (fault ≢ other) → Bad fault → Bad other → ⊥
    apart fault other differ bad also = differ (one_bad none command one
        (format_for scope.begins levels command) bytes fault other bad also)

    -- it ends a reply of a right number of bytes
    length_right : HasDataAnswer command (length bytes) → WrongLength (InReply command bytes) Told
        → ⊥
    length_right count (inl wrong) = omega (arith, wrong.0)
    length_right count (inr wrong) = wrong.1 count

    -- the first of the rules that it breaks
    replies_first : (broken : Rule) → RowBreaks Replying Told broken
        → place_of broken ≤ place_of rule.Profile
        → (WrongLength (InReply command bytes) Told → place_of broken ≤ place_of rule.Length)
        → (word ≢ 256 + sum bytes % 256 → place_of broken ≤ place_of rule.Sum)
        → (Bad reading.Answer → place_of broken ≤ place_of rule.Answer)
        → (Bad reading.Message → place_of broken ≤ place_of rule.Message)
        → IsFirstByPlace Replying Told broken
    replies_first broken breaks most length sum answer message =
        record { breaks = breaks; first = first }
      where
        first : (other : Rule) → RowBreaks Replying Told other → place_of broken ≤ place_of other
        first rule.Length b = length b
        first rule.Sum b = sum b.1
        first rule.Answer b = answer b.1
        first rule.Message b = message b.1
        first other b = search

    -- the reply, read of a right number of bytes with their sum
    module _ (has : HasDataAnswer command (length bytes)) (total : word ≡ 256 + sum bytes % 256)
      where
        first : (broken : Rule) → RowBreaks Replying Told broken
            → place_of broken ≤ place_of rule.Profile
            → (Bad reading.Answer → place_of broken ≤ place_of rule.Answer)
            → (Bad reading.Message → place_of broken ≤ place_of rule.Message)
            → IsFirstByPlace Replying Told broken
        first broken breaks most = replies_first broken breaks most
            (λ b. absurd (length_right has b)) (λ b. absurd (b total))

        faultless : LeavesProfile scope.begins command bytes levels → (fault : MsgFault) → Bad fault
            → ⊥
        faultless h fault bad = none_as none command (format_for scope.begins levels command) h.0
            fault h.1.answers h.3 (rw h.2 at bad)

        reply_read : (result : Result Reply Rule) → IsRead scope.begins command bytes levels result
            → IsSettled Replying Told result
        reply_read (Ok reply) h =
            let near : InBlockTime (profile_of scope.begins) from Told =
            (in_time WORD_GAP_MIN from Told early, not_late _ from Told late) in
            (total, h.0, h.1, h.2, near)
        reply_read (Err rule.Length) h =
            let bad = (bad_length (format_for scope.begins levels command) command bytes h).1 in
            let both : Some bad.0 ≡ Some has.0 = sym bad.1 ∙ has.1 in
            let same : has.0 ≡ bad.0 = cc in
            absurd (bad.2 (rw same at has.2))
        reply_read (Err rule.Answer) h =
            first rule.Answer (marked, h) (omega arith) (λ b. omega arith) (λ b. omega arith)
        reply_read (Err rule.Message) h = first rule.Message (marked, h) (omega arith)
            (λ b. absurd (apart reading.Answer reading.Message (λ e. cc) b h)) (λ b. omega arith)
        reply_read (Err rule.Profile) (inl h) = first rule.Profile (marked, inl h) (omega arith)
            (λ b. absurd (apart reading.Answer reading.Profile (λ e. cc) b h))
            (λ b. absurd (apart reading.Message reading.Profile (λ e. cc) b h))
        reply_read (Err rule.Profile) (inr h) = first rule.Profile (marked, inr h) (omega arith)
            (λ b. absurd (faultless h reading.Answer b))
            (λ b. absurd (faultless h reading.Message b))
        reply_read result h = absurd h

    -- what is made of that word
    pub reply_ended : (result : Result Effect Rule) → IsReplyEnd command bytes word result
        → HasEffect Replying Told result
    reply_ended (Ok effect.Reply) h = reply_read h.0 h.1
    reply_ended (Err rule.Length) h =
        replies_first rule.Length (inr (marked, h)) (omega arith) (λ b. omega arith)
        (λ b. omega arith) (λ b. omega arith) (λ b. omega arith)
    reply_ended (Err rule.Sum) h =
        replies_first rule.Sum (marked, h.1) (omega arith) (λ b. absurd (length_right h.0 b))
        (λ b. omega arith) (λ b. omega arith) (λ b. omega arith)
    reply_ended result h = absurd h

-- the word at an index splits words
split_at : (words : List ℕ) (n word : ℕ) → slice_get words n ≡ Some word
    → take n words ++ word ∷ drop (suc n) words ≡ words
split_at [] n word is = cc
split_at (w ∷ words) zero word is = let same : word ≡ w = cc in ap (λ x. x ∷ words) same
split_at (w ∷ words) (suc n) word is = ap (λ ws. w ∷ ws) (split_at words n word is)

-- a word of a reply in its place, with more to come
pub repeats : (reply : Reply) (n word count : ℕ) → length (reply_words reply) ≡ count + 1
    → n < count → slice_get (reply_words reply) n ≡ Some word
    → IsRepeatFront reply (take n (reply_words reply) ++ word ∷ [])
repeats reply n word count long more is =
    let rest : List ℕ = drop (suc n) (reply_words reply) in
    record {
      some = not_empty (take n (reply_words reply)) word;
      rest = rest;
      open_end = λ none. omega (arith, length-drop (suc n) (reply_words reply), ap length none);
      same = append_assoc (take n (reply_words reply)) (word ∷ []) rest
          ∙ split_at (reply_words reply) n word is;
    }

-- and the last one
pub repeated : (words : List ℕ) (n word count : ℕ) → length words ≡ count + 1 → count ≤ n
    → slice_get words n ≡ Some word → take n words ++ word ∷ [] ≡ words
repeated words n word count long most is =
    let none : drop (suc n) words ≡ [] =
    nil_from_length (drop (suc n) words) (omega (arith, length-drop (suc n) words)) in
    rw none at (split_at words n word is)

-- the words of a reply are one more than its bytes
pub words_count : (bytes : List ℕ) → length (peripheral_words (block_of bytes)) ≡ length bytes + 1
words_count bytes =
    ap length (peripheral_push bytes (sum bytes % 256))
    ∙ length-append bytes ((256 + sum bytes % 256) ∷ [])

-- the word at an index of a sealed reply
module _ (bytes block : List ℕ) (i : ℕ) (is : block ≡ block_of bytes) where
  long : length block ≡ length bytes + 1
  long = ap length is ∙ length-append bytes ((sum bytes % 256) ∷ [])

  pub word_there : (word : ℕ) → i < length block → word ≡ slice_index (peripheral_words block) i
      → Some word ≡ slice_get (peripheral_words (block_of bytes)) i
  word_there word within at =
      ap Some (rw is at at) ∙ sym (slice_get-get_or (peripheral_words (block_of bytes)) i 0
      (omega (arith, within, words_count bytes, long)))

  pub word_after : length block ≤ i → None ≡ slice_get (peripheral_words (block_of bytes)) i
  word_after past = sym (slice_get_past (peripheral_words (block_of bytes)) i
      (omega (arith, past, words_count bytes, long)))

-- the effect of a word that may begin a block
pub opened_belongs : (scope : Scope) → FrontIsOpen → (least : ℕ) (from : Option Event) (at word : ℕ)
    (result : Result Effect Rule) → IsOpened scope least from (Word at Controller word) word result
    → (here : Phase) (bytes : List ℕ) → (here ≡ phase.InAsk → ⊥)
    → IfOk result (Belongs here bytes (Word at Controller word))
opened_belongs scope law least from at word (Ok effect.AskByte) opened phase.InAsk bytes other =
    absurd (other refl)
opened_belongs scope law least from at word (Ok effect.AskByte) opened here bytes other =
    let front = plain_front scope (word % 256 ∷ []) opened.1 in
    (tt, open_front (profile_of scope.begins) law (word % 256 ∷ []) front)
opened_belongs scope law least from at word result opened here bytes other = search

-- the effect of a word inside a block of the controller
pub asking_belongs : FrontIsOpen → (profile : Profile) (bytes : List ℕ) (at word : ℕ)
    (result : Result Effect Rule) → IsGoingOn profile bytes word result
    → IfOk result (Belongs phase.InAsk bytes (Word at Controller word))
asking_belongs law profile bytes at word (Ok effect.AskByte) going =
    let longer : List ℕ = bytes ++ word % 256 ∷ [] in
    let begun : IsOpen longer = open_front profile law longer going.1 in
    let long : length longer ≡ length bytes + 1 = length-append bytes (word % 256 ∷ []) in
    let few = few_open longer (needed longer) (omega (arith, long)) refl begun in
    (tt, (omega (arith, long, few), begun))
asking_belongs law profile bytes at word (Ok effect.Ask) going =
    (refl, going.0, sealed bytes word going.0 going.1)
asking_belongs law profile bytes at word result going = search
