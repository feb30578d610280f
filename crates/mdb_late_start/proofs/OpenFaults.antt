-- Where the end of a transcript has no act list by itself, by the extended profile, its first fault
-- on the link is that a reply is left out: one that open doesn't read.
use Rattle.mdb_late_start.proofs.Words.{ap, refl, sym, subst, ◌∙◌, ◌≡◌, ◌≢◌, ◌++◌, ◌⊎◌, inl, inr, ℕ, Bool, true, false, List, [], ◌∷◌, Some, append_assoc, append-nil, same_from_push, Event, Word, Peripheral, Command, Reply, Setups, IsReplyTo, reply_bytes, Rule, Format, Or, Levels, Scope, HasActList, HasFault, IsReadAs, format_for, IsLinkFault, situation_of, OpenLeavesOut, levels_before, profile_of, IsLessKnown, TellsLevelsOfFront, SplitsAt, joined_with, front_and_last, last_push, Profile, Blame, Extended, ArePieces, IsActList, Piece, ReplyFits, ReplyTail, Whole, events_of, last_of, levels_of, position_of, RowBreaks, asked_device, blame_of, fault_of}
use Rattle.mdb_msgs.specs.declared.fault.MsgFault.{MsgFault}
use Rattle.mdb_msgs.specs.declared.fault.MsgFault.TheVariants.{Message, Profile as Left, Answer}
use Rattle.mdb_bus.specs.declared.act.Act.TheVariants as acts
use Rattle.mdb_bus.specs.declared.fault.Rule.TheVariants as rule
use Rattle.mdb_late_start.proofs.Cutting.{AllFitAlone, ComesAlone, Cutting, alone, anew_still, splits}
use Rattle.mdb_late_start.proofs.ToldCuts.{by_profile}
use Rattle.mdb_late_start.proofs.OpenEnds.{LinkLaws, fit_by_base, format_alone, known_in_reply, reply_fits_there, reply_tail, IsLess, may_reply, some_events}
use Rattle.mdb_bus.specs.ExtendedHaste.{counted_in, haste_of}

-- a fault of a reply that was read with more known is one there too, but that it is left out
fault_as : OpenLeavesOut → (less more : Format) → IsLess less more → (command : Command)
    (reply : Reply) (fault : MsgFault) → fault ≢ Left → IsReplyTo command reply
    → IsReadAs more command reply → HasFault less command (reply_bytes reply) fault
    → HasFault more command (reply_bytes reply) fault
fault_as leaves less more known command reply fault other answers is bad = elim known [
  | inl is_open ↦ absurd (other (leaves more command reply fault is_open.1 is answers
      (rw is_open.0 at bad)))
  | inr (inl alike) ↦ rw alike at bad
  | inr (inr (first, second, two, one)) ↦
      let both : HasFault (Or first second) command (reply_bytes reply) fault = rw two at bad in
      rw one (both.0, fault, both.0)
]

-- the last row is that of events which aren't none
last_alike : (one other events : List Event) → events ≢ []
    → last_of (one ++ events) ≡ last_of (other ++ events)
last_alike one other events some =
    let split = front_and_last events some in
    let ends : (before : List Event) → last_of (before ++ events) ≡ Some split.1 =
    λ before. ap (λ es. last_of (before ++ es)) split.2
    ∙ ap last_of (sym (append_assoc before split.0 (split.1 ∷ [])))
    ∙ last_push (before ++ split.0) split.1 in
    ends one ∙ sym (ends other)

-- the last element of a list that isn't empty is that of one with others before it
ends_so : (rows all more : List Event) (row : Event) → more ≢ []
    → rows ++ row ∷ [] ≡ all ++ more → (rest : List Event) × (rows ≡ all ++ rest)
ends_so rows all more row some is =
    let split = front_and_last more some in
    let joined = is ∙ ap (λ es. all ++ es) split.2
    ∙ sym (append_assoc all split.0 (split.1 ∷ [])) in
    (split.0, (same_from_push rows (all ++ split.0) row split.1 joined).0)

-- a rule is Profile, or another
is_profile : (broken : Rule) → (broken ≡ rule.Profile) ⊎ (broken ≢ rule.Profile)
is_profile rule.Profile = inl refl
is_profile broken = inr (λ is. cc is)

-- haste excuses nothing that isn't followed
still_left_out : (haste : Bool) (row : Event) (blamed : Blame)
    → (counted_in haste row (record { rule = rule.Profile; blame = blamed })).rule ≡ rule.Profile
still_left_out true (Word at Peripheral word) blamed = refl
still_left_out true row blamed = refl
still_left_out false row blamed = refl

module _ (scope : Scope) (setups : Setups) where
  -- the recording that begins with the end
  abbrev new : Scope
  new = joined_with setups scope

  abbrev profile : Profile
  profile = profile_of scope.begins

  -- what is told of the front counts for the first rows of an end
  pub first_rows : (front end more : List Event)
      → TellsLevelsOfFront scope setups front (end ++ more)
      → TellsLevelsOfFront scope setups front end
  first_rows front end more tells words rest before parts foreign anew list =
      tells words (rest ++ more) before
      (ap (λ rows. rows ++ more) parts ∙ append_assoc words rest more) foreign
      (anew_still rest more anew) list

  -- what mdb_bus says of faults
  module _ (laws : LinkLaws) (left_out : OpenLeavesOut)
      (no_list : (scope : Scope) (pieces : List Piece) (row : Event) (broken : Rule)
      → ArePieces scope pieces → RowBreaks (situation_of scope pieces) row broken
      → HasActList scope (events_of pieces ++ row ∷ []) → ⊥) where
    -- a row that breaks a rule but Profile, where it ends the bytes of a reply, breaks it there
    breaks_there : profile ≡ Extended → (here there : List Piece) (command : Command)
        (reply : Reply) (front : List Event) (row : Event) → front ≢ [] → IsReplyTo command reply
        → IsLessKnown (levels_of profile (levels_before new) here)
        (levels_of profile (levels_before scope) there)
        → ReplyFits scope.begins (levels_of profile (levels_before scope) there) command reply
        → (broken : Rule) → broken ≢ rule.Profile
        → RowBreaks (situation_of new (ReplyTail command (reply_bytes reply) front ∷ here)) row
        broken
        → RowBreaks (situation_of scope (ReplyTail command (reply_bytes reply) front ∷ there)) row
        broken
    breaks_there extended here there command reply front row some answers known fits broken other
        breaks =
        by_rule broken row other (rw last at breaks)
      where
        bytes : List ℕ
        bytes = reply_bytes reply

        less : Levels
        less = levels_of profile (levels_before new) here

        more : Levels
        more = levels_of profile (levels_before scope) there

        last : last_of (events_of here ++ front) ≡ last_of (events_of there ++ front)
        last = last_alike (events_of here) (events_of there) front some

        fault_too : (fault : MsgFault) → fault ≢ Left
            → HasFault (format_for new.begins less command) command bytes fault
            → HasFault (format_for scope.begins more command) command bytes fault
        fault_too fault not_left bad = fault_as left_out (format_for new.begins less command)
            (format_for scope.begins more command)
            (format_alone scope.begins setups extended command less more known) command reply fault
            not_left answers fits.0 bad

        by_rule : (broken : Rule) (row : Event) → broken ≢ rule.Profile
            → RowBreaks (record (situation_of new (ReplyTail command bytes front ∷ here)) {
              last = last_of (events_of there ++ front);
            }) row broken
            → RowBreaks (situation_of scope (ReplyTail command bytes front ∷ there)) row broken
        by_rule rule.Sum (Word at Peripheral word) other breaks = breaks
        by_rule rule.Sum row other breaks = absurd breaks
        by_rule rule.Answer (Word at Peripheral word) other breaks =
            (breaks.0, fault_too Answer (λ is. cc is) breaks.1)
        by_rule rule.Message (Word at Peripheral word) other breaks =
            (breaks.0, fault_too Message (λ is. cc is) breaks.1)
        by_rule rule.Profile row other breaks = absurd (other refl)
        by_rule broken row other breaks = breaks

    -- rows and one more that breaks another rule than Profile
    module _ (extended : profile ≡ Extended) (front rows : List Event) (row : Event)
        (tells : TellsLevelsOfFront scope setups front (rows ++ row ∷ [])) (here : List Piece)
        (list : IsActList new here rows) (broken : Rule) (other : broken ≢ rule.Profile)
        (breaks : RowBreaks (situation_of new here) row broken) where
      -- no reply ends with them
      no_reply_ends : (middle : List Event) (command : Command) (reply : Reply)
          (events : List Event) (pieces : List Piece) → rows ++ row ∷ [] ≡ middle ++ events
          → (cut : Cutting scope setups front middle pieces)
          → (are : ArePieces scope (Whole (acts.Reply command reply) events ∷ pieces))
          → ComesAlone scope setups (alone cut.later cut.words)
          (Whole (acts.Reply command reply) events) are.1.first → ⊥
      no_reply_ends middle command reply events pieces all cut are comes =
          let mine : List Piece = alone cut.later cut.words in
          let may = may_reply scope pieces command reply events are in
          let may_here = may (position_of new mine) (last_of (events_of mine)) comes in
          let may_there = may (position_of scope pieces) (last_of (events_of pieces))
          are.1.comes in
          let split = front_and_last events (some_events may_there) in
          let here_tail = reply_tail new mine cut.stand command reply split.0 split.1
          (rw split.2 at may_here) in
          let there_tail = reply_tail scope pieces are.2 command reply split.0 split.1
          (rw split.2 at may_there) in
          let same = same_from_push rows (middle ++ split.0) row split.1
          (all ∙ ap (λ es. middle ++ es) split.2
          ∙ sym (append_assoc middle split.0 (split.1 ∷ []))) in
          let tail : List Piece = ReplyTail command (reply_bytes reply) split.0 ∷ mine in
          let there : List Piece = ReplyTail command (reply_bytes reply) split.0 ∷ pieces in
          let is : here ≡ tail = laws.one new rows here tail list (record {
            in_order = here_tail.are;
            whole = ap (λ es. es ++ split.0) cut.whole ∙ sym same.0;
          }) in
          let breaks_it = breaks_there extended mine pieces command reply split.0 row here_tail.some
          are.0.said.0.answers (known_in_reply scope setups front (rows ++ row ∷ []) tells
          middle command pieces cut events all comes.0) are.1.levels broken other
          (rw is at breaks) in
          let has : HasActList scope (events_of there ++ split.1 ∷ []) = (
            Whole (acts.Reply command reply) events ∷ pieces,
            record {
              in_order = are;
              whole = ap (λ es. events_of pieces ++ es) split.2
                  ∙ sym (append_assoc (events_of pieces) split.0 (split.1 ∷ []));
            },
          ) in
          no_list scope there row broken there_tail.are breaks_it
          (subst (λ r. HasActList scope (events_of there ++ r ∷ [])) (sym same.1) has)

      -- so all pieces fit in them
      fit_but : AllFitAlone scope setups front (rows ++ row ∷ [])
      fit_but middle (next ∷ more) (Whole (acts.Reply command reply) events) pieces all cut are
          comes =
          let rest = ends_so rows (middle ++ events) (next ∷ more) row (λ none. cc none) all in
          let its : HasActList new rows = (here, list) in
          reply_fits_there scope setups front (rows ++ row ∷ []) tells middle command pieces cut
          laws extended (next ∷ more) reply events all are comes
          (laws.fronts new (middle ++ events) rest.0 (rw rest.1 at its))
      fit_but middle [] (Whole (acts.Reply command reply) events) pieces all cut are comes =
          absurd (no_reply_ends middle command reply events pieces
          (all ∙ append-nil (middle ++ events)) cut are comes)
      fit_but middle more piece pieces all cut are comes = are.1.levels

    -- so the first rule that is broken in an end is Profile
    only_left_out : (front rows : List Event) (row : Event)
        → HasActList scope (front ++ (rows ++ row ∷ []))
        → TellsLevelsOfFront scope setups front (rows ++ row ∷ []) → (here : List Piece)
        → IsActList new here rows → (broken : Rule)
        → RowBreaks (situation_of new here) row broken → broken ≡ rule.Profile
    only_left_out front rows row has tells here list broken breaks = elim (is_profile broken) [
      | inl is ↦ is
      | inr other ↦ absurd (goes_on (splits scope setups front (rows ++ row ∷ []) has.0
          (elim (by_profile profile) [
            | inl base ↦ fit_by_base scope setups front (rows ++ row ∷ []) base
            | inr extended ↦ fit_but extended front rows row tells here list broken other breaks
          ]) has.1))
    ]
      where
        goes_on : SplitsAt scope setups front (rows ++ row ∷ []) has.0 → ⊥
        goes_on it = no_list new here row broken list.in_order breaks
            (rw list.whole (_, it.act_list))

    -- and so is the rule of its fault, in rows that go on
    pub left_out_alone : (front rows more : List Event) (row : Event) (pieces : List Piece)
        (broken : Rule) (blamed : Blame) → HasActList scope (front ++ (rows ++ row ∷ more))
        → TellsLevelsOfFront scope setups front (rows ++ row ∷ more) → IsActList new pieces rows
        → IsLinkFault new pieces row broken blamed → broken ≡ rule.Profile
    left_out_alone front rows more row pieces broken blamed has tells list fault =
        let now : List Event = rows ++ row ∷ [] in
        let all : rows ++ row ∷ more ≡ now ++ more = sym (append_assoc rows (row ∷ []) more) in
        let whole : front ++ (rows ++ row ∷ more) ≡ (front ++ now) ++ more =
        ap (λ es. front ++ es) all ∙ sym (append_assoc front now more) in
        let first : fault.first ≡ rule.Profile = only_left_out front rows row
        (laws.fronts scope (front ++ now) more (rw whole at has))
        (first_rows front now more (rw all at tells)) pieces list fault.first
        fault.rule.breaks in
        fault.counts ∙ ap (λ r. (fault_of new pieces row r).rule) first
        ∙ still_left_out (haste_of new pieces) row
        (blame_of (position_of new pieces) (asked_device pieces) row rule.Profile)
