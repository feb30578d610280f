-- Where the end of a transcript has an act list by itself, by the extended profile, its replies are
-- those of the whole: what is read there with less known of levels is what is read with more.
use Rattle.mdb_late_start.proofs.Words.{arith, ap, refl, sym, ◌∙◌, ◌≡◌, ◌≢◌, ◌++◌, ◌⊎◌, ◌+◌, ◌%◌, inl, inr, ℕ, Bool, true, false, nat_lt, ◌||◌, sum, List, [], ◌∷◌, length, Option, Some, None, if◌then◌else◌, append_assoc, same_from_push, Event, Word, Peripheral, Command, First, Second, Reply, Setups, IsReplyTo, reply_bytes, Format, Or, Open, Levels, Beginning, PowerOn, Joined, Scope, IsReply, Say, reply_words, HasActList, IsReadAs, format_by, format_for, situation_of, IsExtended, OpenAgrees, levels_before, no_levels, profile_of, joined_with, IsNothingOr, IsLessKnown, MayBeReadAlone, TellsLevelsOfFront, front_and_last, Profile, Base, Extended, said_by, AnswerMayCome, ArePieces, AreSpaced, Asked, IsActList, IsReplyFront, Piece, ReplyFits, ReplyTail, Whole, events_of, last_of, levels_of, position_of, Position, IsReadAlone, first_stays, heard, inside, peripheral_push, say_last, say_length}
use Rattle.mdb_msgs.specs.declared.command.Command.TheVariants.{Reader}
use Rattle.mdb_msgs.specs.declared.reading.Ids.TheVariants.{ByNext, Full}
use Rattle.mdb_msgs.specs.declared.reading.Reading.{Reading}
use Rattle.mdb_bus.specs.declared.act.Act.TheVariants as acts
use Rattle.mdb_bus.specs.ExtendedFormats.{format_at, long, short, IsFirst, untold_format}
use Rattle.mdb_msgs.specs.Readings.{is_extended}
use Rattle.mdb_bus.specs.shared.Grammar.{OpenIsAFront}
use Rattle.mdb_bus.specs.shared.Step.{Step}
use Rattle.mdb_bus.specs.shared.Step as step
use Rattle.mdb_bus.specs.shared.Leads.{Leads}
use Rattle.mdb_late_start.proofs.Cutting.{AllFitAlone, ComesAlone, Cutting, FitsAlone, all_foreign, alone, anew_still, foreign_position, rows_begin}
use Rattle.mdb_late_start.proofs.ToldCuts.{by_profile, fits_later, known_by, less_later}
use Rattle.mdb_bus.proofs.Backward.{backward}

-- what mdb_bus says of act lists
pub record LinkLaws : Type 0 where
  pub opens : (scope : Scope) → OpenIsAFront scope
  pub one : (scope : Scope) (rows : List Event) (one other : List Piece)
      → IsActList scope one rows → IsActList scope other rows → one ≡ other
  pub fronts : (scope : Scope) (rows more : List Event) → HasActList scope (rows ++ more)
      → HasActList scope rows
  pub agrees : OpenAgrees

-- ---- formats where less is known

-- What is read in the format with less known: it is open where the other is of a reader's reply, or
-- the same, or it has a second reading for what has a fault in the only one of the other.
abbrev pub IsLess : Format → Format → Type 0
IsLess less more =
    ((less ≡ Open) × IsExtended more)
    ⊎ ((less ≡ more)
    ⊎ ((first second : Reading) × (less ≡ Or first second) × (more ≡ Or first first)))

-- what is told in one reading alone is told in it and a second one
told_so : (command : Command) (first second : Reading) (told : Reply)
    → IsFirst (first ∷ first ∷ []) command told → IsFirst (first ∷ second ∷ []) command told
told_so command first second told (inl is) = inl is
told_so command first second told (inr (bad, inl is)) = inl is
told_so command first second told (inr (bad, inr none)) = absurd none.1

-- a low level tells a format where less is known, too
if_low : (test : Bool) (low more : Format) → IsExtended more
    → IsLess (if test then low else Open) (if test then low else more)
if_low true low more extended = inr (inl refl)
if_low false low more extended = inl (refl, extended)

-- the format by the levels of both: whether that of the controller and that of the reader are below
-- 2, and one of them below 3
abbrev by_both : Bool → Bool → Bool → Format
by_both low told_low near =
    if told_low then Or (short ByNext) (short ByNext)
    else (if low then Or (short ByNext) (long ByNext)
    else (let ids = if near then ByNext else Full in Or (long ids) (short ids)))

-- each format of a reader's reply is one of it
both_extended : (low told_low near : Bool) → IsExtended (by_both low told_low near)
both_extended low true near = (refl, refl)
both_extended true false near = (refl, refl)
both_extended false false true = (refl, refl)
both_extended false false false = (refl, refl)

if_extended : (low : Bool) (second : Reading) (untold : Format)
    → is_extended second ≡ true → IsExtended untold
    → IsExtended (if low then Or (short ByNext) second else untold)
if_extended true second untold is extended = (refl, is)
if_extended false second untold is extended = extended

untold_extended : (begins : Beginning) → IsExtended (untold_format begins)
untold_extended (PowerOn profile) = (refl, refl)
untold_extended (Joined setups profile) = tt

-- less is known where the level of the controller is
asked_less : (low told_low near : Bool)
    → IsLess (if low then Or (short ByNext) (long ByNext) else Open) (by_both low told_low near)
asked_less true true near = inr (inr (short ByNext, long ByNext, refl, refl))
asked_less true false near = inr (inl refl)
asked_less false told_low near = inl (refl, both_extended false told_low near)

module _ (untold : Format) (extended : IsExtended untold) where
  at_extended : (asked told : Option ℕ) → IsExtended (format_at untold asked told)
  at_extended (Some asked) (Some told) =
      both_extended (nat_lt asked 2) (nat_lt told 2) (nat_lt asked 3 || nat_lt told 3)
  at_extended (Some asked) None = if_extended (nat_lt asked 2) (long ByNext) untold refl extended
  at_extended None (Some told) = if_extended (nat_lt told 2) (short ByNext) untold refl extended
  at_extended None None = extended

  format_less : (asked told more_asked more_told : Option ℕ)
      → IsNothingOr asked more_asked → IsNothingOr told more_told
      → IsLess (format_at Open asked told) (format_at untold more_asked more_told)
  format_less (Some asked) (Some told) more_asked more_told one other =
      rw (one, other) (inr (inl refl))
  format_less (Some asked) None more_asked (Some told) one other =
      rw one (asked_less (nat_lt asked 2) (nat_lt told 2) (nat_lt asked 3 || nat_lt told 3))
  format_less (Some asked) None more_asked None one other =
      rw one (if_low (nat_lt asked 2) (Or (short ByNext) (long ByNext)) untold extended)
  format_less None (Some told) (Some asked) more_told one other =
      rw other (if_low (nat_lt told 2) (Or (short ByNext) (short ByNext)) _
      (both_extended (nat_lt asked 2) false (nat_lt asked 3 || nat_lt told 3)))
  format_less None (Some told) None more_told one other =
      rw other (if_low (nat_lt told 2) (Or (short ByNext) (short ByNext)) untold extended)
  format_less None None more_asked more_told one other =
      inl (refl, at_extended more_asked more_told)

-- that of a command's reply
pub format_alone : (begins : Beginning) (setups : Setups) → profile_of begins ≡ Extended
    → (command : Command) (less more : Levels) → IsLessKnown less more
    → IsLess (format_for (Joined setups (profile_of begins)) less command)
    (format_for begins more command)
format_alone begins setups extended command less more known = rw extended (by_command command)
  where
    by_command : (command : Command) → IsLess (format_by Extended Open less command)
        (format_by Extended (untold_format begins) more command)
    by_command (Reader First command) = format_less (untold_format begins) (untold_extended begins)
        less.first.asked less.first.told more.first.asked more.first.told known.first.asked
        known.first.told
    by_command (Reader Second command) = format_less (untold_format begins) (untold_extended begins)
        less.second.asked less.second.told more.second.asked more.second.told known.second.asked
        known.second.told
    by_command command = inr (inl refl)

-- what is read with more known is read with less, where some reply of these bytes is
read_alone : OpenAgrees → (less more : Format) → IsLess less more → (command : Command)
    (reply other : Reply) → IsReplyTo command reply → IsReplyTo command other
    → reply_bytes reply ≡ reply_bytes other → IsReadAs more command reply
    → IsReadAs less command other → IsReadAs less command reply
read_alone agrees less more known command reply other answers also same is there = elim known [
  | inl is_open ↦ rw (agrees more command reply other is_open.1 is (rw is_open.0 at there) answers
      also same) there
  | inr (inl alike) ↦ rw alike is
  | inr (inr (first, second, two, one)) ↦
      let read : IsReadAs (Or first first) command reply = rw one at is in
      rw two (read.0, told_so command first second read.0 read.1, read.2, read.3, read.4)
]

-- ---- the reply of an act list of the end

-- a reply to a command that has these bytes, and fits after pieces
record Found (scope : Scope) (pieces : List Piece) (command : Command) (reply : Reply)
    : Type 0 where
  other : Reply
  is : IsReply command other
  same : reply_bytes reply ≡ reply_bytes other
  fits : ReplyFits scope.begins
      (levels_of (profile_of scope.begins) (levels_before scope) pieces) command other

-- a reply has these events, and may come where the bus is, but for what it says of levels
pub record MayReply (profile : Profile) (position : Position) (from : Option Event)
    (command : Command) (reply : Reply) (events : List Event) : Type 0 where
  pub said : IsReply command reply
  pub says : Say Peripheral (reply_words reply) events
  pub spaced : AreSpaced profile events
  pub first : Event
  pub others : List Event
  pub begins : events ≡ first ∷ others
  pub comes : AnswerMayCome profile command position from first

-- so may one of a transcript, where its first event may come
pub may_reply : (scope : Scope) (pieces : List Piece) (command : Command) (reply : Reply)
    (events : List Event) (are : ArePieces scope (Whole (acts.Reply command reply) events ∷ pieces))
    (position : Position) (from : Option Event)
    → AnswerMayCome (profile_of scope.begins) command position from are.1.first
    → MayReply (profile_of scope.begins) position from command reply events
may_reply scope pieces command reply events are position from comes = record {
  said = are.0.said.0;
  says = are.0.said.1;
  spaced = are.0.spaced;
  first = are.1.first;
  others = are.1.others;
  begins = are.1.begins;
  comes = comes;
}

-- its events are some
pub some_events : {profile : Profile} {position : Position} {from : Option Event}
    {command : Command} {reply : Reply} {events : List Event}
    → MayReply profile position from command reply events → events ≢ []
some_events may none = cc (may.begins, none)

-- Rows go on with the words of a reply, up to its last one.
pub record Tail (scope : Scope) (pieces : List Piece) (command : Command) (reply : Reply)
    (front : List Event) (row : Event) : Type 0 where
  pub are : ArePieces scope (ReplyTail command (reply_bytes reply) front ∷ pieces)
  pub some : front ≢ []
  pub said : said_by row ≡ Some (Peripheral, 256 + sum (reply_bytes reply) % 256)

module _ (scope : Scope) (pieces : List Piece) (are : ArePieces scope pieces) (command : Command)
    (reply : Reply) where
  -- a reply that may come after pieces
  abbrev MayReplyHere : List Event → Type 0
  MayReplyHere = MayReply (profile_of scope.begins) (position_of scope pieces)
      (last_of (events_of pieces)) command reply

  pub reply_tail : (front : List Event) (row : Event) → MayReplyHere (front ++ row ∷ [])
      → Tail scope pieces command reply front row
  reply_tail front row may =
      let bytes = reply_bytes reply in
      let ended = rw (peripheral_push bytes (sum bytes % 256)) at may.says in
      let last = say_last Peripheral (bytes ++ (256 + sum bytes % 256) ∷ []) front row ended in
      let same = same_from_push bytes last.0 (256 + sum bytes % 256) last.1 last.2 in
      let some : front ≢ [] = λ none. omega (
        arith,
        may.said.content.at_least,
        ap length same.0,
        say_length Peripheral last.0 front last.3,
        ap length none,
      ) in
      let gaps = inside (profile_of scope.begins) (events_of pieces) front row some may.spaced in
      let kept = first_stays front row may.first may.others some may.begins in
      let begun : IsReplyFront command bytes = record {
        allowed = rw may.said.answers.form refl;
        some = may.said.content.at_least;
        few = may.said.content.at_most;
        in_range = may.said.content.in_range;
      } in
      record {
        are = (
          record { said = (begun, rw same.0 last.3); spaced = gaps.0 },
          record {
            first = may.first;
            others = kept.0;
            begins = kept.1;
            comes = may.comes;
            levels = tt;
          },
          are,
        );
        some = some;
        said = rw same.1 last.4;
      }

  -- the marked word of a peripheral ends a reply
  found : (front : List Event) (row : Event) (next : Step)
      → said_by row ≡ Some (Peripheral, 256 + sum (reply_bytes reply) % 256)
      → Leads (situation_of scope (ReplyTail command (reply_bytes reply) front ∷ pieces)) row next
      → Found scope pieces command reply
  found front row next said leads =
      let is = heard row Peripheral (256 + sum (reply_bytes reply) % 256) said in
      ended is.0 next (rw is.1 at leads)
    where
      ended : (at : ℕ) (next : Step)
          → Leads (situation_of scope (ReplyTail command (reply_bytes reply) front ∷ pieces))
          (Word at Peripheral (256 + sum (reply_bytes reply) % 256)) next
          → Found scope pieces command reply
      ended at (step.ReplyByte byte) leads = absurd (omega (arith, leads.1))
      ended at (step.Reply other) leads =
          record { other = other; is = leads.1; same = leads.2; fits = leads.3 }
      ended at next leads = absurd leads

  -- so where rows go on with the words of a reply to their end, and have an act list, some reply of
  -- these bytes fits
  found_there : LinkLaws → (events : List Event) → MayReplyHere events
      → HasActList scope (events_of pieces ++ events) → Found scope pieces command reply
  found_there laws events may has =
      let split = front_and_last events (some_events may) in
      let tail = reply_tail split.0 split.1 (rw split.2 at may) in
      let here : List Piece = ReplyTail command (reply_bytes reply) split.0 ∷ pieces in
      let rows : List Event = events_of pieces ++ split.0 in
      let back = backward scope (laws.opens scope) has.0 rows split.1 has.1.in_order (has.1.whole
      ∙ ap (λ es. events_of pieces ++ es) split.2
      ∙ sym (append_assoc (events_of pieces) split.0 (split.1 ∷ []))) in
      let before : back.before ≡ here = laws.one scope rows back.before here
      (record { in_order = back.in_order; whole = back.rows_before })
      (record { in_order = tail.are; whole = refl }) in
      found split.0 split.1 back.next tail.said (rw before at back.leads)

-- ---- the pieces of the end

module _ (scope : Scope) (setups : Setups) where
  -- the recording that begins with the end, and what is known of levels after its pieces
  abbrev new : Scope
  new = joined_with setups scope

  abbrev profile : Profile
  profile = profile_of scope.begins

  abbrev levels_here : List Piece → Levels
  levels_here = levels_of profile (levels_before new)

  abbrev levels_there : List Piece → Levels
  levels_there = levels_of profile (levels_before scope)

  -- by the base profile all fit
  pub fit_by_base : (front end : List Event) → profile ≡ Base → AllFitAlone scope setups front end
  fit_by_base front end base middle more piece pieces all cut are comes =
      fits_later scope setups base no_levels cut.words cut.before (tt, tt) cut.later piece
      (rw cut.order at are.1.levels)

  module _ (front end : List Event) (tells : TellsLevelsOfFront scope setups front end)
      (middle : List Event) (command : Command) (pieces : List Piece)
      (cut : Cutting scope setups front middle pieces) where
    abbrev here : List Piece
    here = alone cut.later cut.words

    -- less is known in a reply in the end than in the whole
    pub known_in_reply : (others : List Event) → end ≡ middle ++ others
        → position_of new here ≡ Asked command
        → IsLessKnown (levels_here here) (levels_there pieces)
    known_in_reply others all at =
        let parts = all ∙ ap (λ es. es ++ others) (sym cut.whole ∙ rows_begin cut.later cut.words)
        ∙ append_assoc cut.words (events_of cut.later) others in
        let some : cut.later ≢ [] = λ none. cc (foreign_position new cut.words [] refl, at) in
        rw cut.order (less_later profile IsLessKnown (known_by profile) (levels_before new)
        (levels_before scope) cut.later cut.words cut.before
        (tells cut.words (events_of cut.later ++ others) cut.before parts
        (all_foreign cut.words cut.foreign)
        (anew_still (events_of cut.later) others (cut.anew some))
        (record { in_order = cut.in_front; whole = cut.rows })))

    -- so by the extended profile a reply fits where its rows have an act list
    pub reply_fits_there : LinkLaws → profile ≡ Extended → (more : List Event) (reply : Reply)
        (events : List Event) → end ≡ (middle ++ events) ++ more
        → (are : ArePieces scope (Whole (acts.Reply command reply) events ∷ pieces))
        → ComesAlone scope setups here (Whole (acts.Reply command reply) events) are.1.first
        → HasActList new (middle ++ events)
        → FitsAlone scope setups here (Whole (acts.Reply command reply) events)
    reply_fits_there laws extended more reply events all are comes has =
        let less = levels_here here in
        let after = levels_there pieces in
        let it = found_there new here cut.stand command reply laws events
        (may_reply scope pieces command reply events are (position_of new here)
        (last_of (events_of here)) comes) (rw cut.whole has) in
        let known = known_in_reply (events ++ more) (all ∙ append_assoc middle events more)
        comes.0 in (
          read_alone laws.agrees (format_for new.begins less command)
              (format_for scope.begins after command)
              (format_alone scope.begins setups extended command less after known) command reply
              it.other are.0.said.0.answers it.is.answers it.same are.1.levels.0 it.fits.0,
          rw extended tt,
        )

  -- and all pieces fit where the end has one
  fit_alone : LinkLaws → (front end : List Event) → profile ≡ Extended
      → IsReadAlone scope setups front end → AllFitAlone scope setups front end
  fit_alone laws front end extended read middle more (Whole (acts.Reply command reply) events)
      pieces all cut are comes =
      reply_fits_there front end read.tells middle command pieces cut laws extended more reply
      events all are comes (laws.fronts new (middle ++ events) more (rw all at read.act_list))
  fit_alone laws front end extended read middle more piece pieces all cut are comes = are.1.levels

  -- so pieces of a transcript fit in an end that may be read by itself
  pub all_fit : LinkLaws → (front end : List Event) → MayBeReadAlone scope setups front end
      → AllFitAlone scope setups front end
  all_fit laws front end (inl base) = fit_by_base front end base
  all_fit laws front end (inr read) = elim (by_profile profile) [
    | inl base ↦ fit_by_base front end base
    | inr extended ↦ fit_alone laws front end extended read
  ]
