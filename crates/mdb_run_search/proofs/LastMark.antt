-- The last mark of a run that stands at its last row: the act that this row ends is one on which it
-- may stand.
use Rattle.mdb_run_search.proofs.Words.{arith, sym, ap, ◌∙◌, ◌≡◌, ℕ, List, [], ◌∷◌, ◌++◌, All, length, length-append, Some, same_from_push, ReaderCommand, ReaderUnit, Reply, Act, Beginning, Profile, Scope, profile_of, ArePieces, Piece, Whole, acts_of, events_of, piece_events, Choice, CanStand, MayBeRead, StateByProfile, Mark, AllFollow, Choices, Follows, choice_by, marks_at, marks_of, MayStandOnNewest, AllSums, States, Sums, All-nil, base_state, by_profile, extended_state, machine_in, MayStandOn, append-nil, Bill, Changer, Reader, Base, Extended}
use Rattle.mdb_msgs.specs.declared.command.Command.TheVariants as commands
use Rattle.mdb_bus.specs.declared.act.Act.TheVariants as acts
use Rattle.mdb_machine.specs.declared.choice.Choice.TheVariants as choices
use Rattle.mdb_cashless.specs.declared.by_profile.state.StateByProfile.TheVariants as variants
use Rattle.mdb_cashless.specs.ExtendedReader as extended
use Rattle.mdb_cashless.specs.Reader as base
use Rattle.mdb_cashless.specs.ReaderMessages.{parts_of}
use Rattle.mdb_run_search.specs.declared.mark.Mark.TheVariants as marks
use Rattle.mdb_cashless.proofs.Sales.{own_of_unit}
use Rattle.mdb_follow.proofs.ByProfile.{own_way}
use Rattle.mdb_run_search.proofs.MarkedRuns.{IsBefore, all_before, all_within, none_at}

-- a mark that is past all others is that of the choice that is added
choice-told : (old ms : List (ℕ × Mark)) (row : ℕ) (choice : Choice) (mark : Mark)
    → All (IsBefore row) old → old ++ marks_at row choice ≡ ms ++ (row, mark) ∷ []
    → choice ≡ choice_by (Some mark)
choice-told old ms row choices.Plain mark before same =
    absurd (none_at row mark old ms before (sym (append-nil old) ∙ same))
choice-told old ms row choice mark before same =
    ap (λ (m : ℕ × Mark). choice_by (Some m.1)) (same_from_push old ms _ (row, mark) same).1

-- The act that a way ends with is read as is chosen of it.

-- the machine of a profile reads a reply of a reader so
abbrev Reads : Profile → Choice → Reply → Type 0
Reads Base choice reply = MayBeRead choice (parts_of reply)
Reads Extended choice reply = extended.CanBeRead choice reply

-- a mark that tells how a reader's reply is read may stand on it
reader-stands : (profile : Profile) (mark : Mark) (unit : ReaderUnit) (command : ReaderCommand)
    (reply : Reply)
    → CanStand (acts.Reply (commands.Reader unit command) reply) (choice_by (Some mark))
    → Reads profile (choice_by (Some mark)) reply
    → MayStandOn profile mark (acts.Reply (commands.Reader unit command) reply)
reader-stands profile marks.Lost unit command reply can read = absurd can
reader-stands Base marks.Restart unit command reply can read = read
reader-stands Extended marks.Restart unit command reply can read = read
reader-stands Base marks.Again unit command reply can read = absurd read
reader-stands Extended marks.Again unit command reply can read = can

module _ (begins : Beginning) (so_far : List Act) where
  abbrev Replied : ReaderUnit → ReaderCommand → Reply → List Act
  Replied unit command reply = acts.Reply (commands.Reader unit command) reply ∷ so_far

  reads : (profile : Profile) (unit : ReaderUnit) (command : ReaderCommand) (reply : Reply)
      (chosen : Choices (Replied unit command reply))
      (state : StateByProfile) (sums : Sums)
      → Follows (by_profile profile
      (machine_in base_state (variants.Base base.power_on) (base.machine unit begins))
      (machine_in extended_state (variants.Extended extended.power_on)
      (extended.machine unit begins))) (Replied unit command reply) chosen state sums
      → Reads profile chosen.choice reply
  reads Base unit command reply chosen state sums way =
      (rw (own_of_unit unit command)
      at (own_way base_state (variants.Base base.power_on) (base.machine unit begins)
      (Replied unit command reply) chosen state sums way).2.step.step).has_news.read
  reads Extended unit command reply chosen state sums way =
      (rw (own_of_unit unit command)
      at (own_way extended_state (variants.Extended extended.power_on)
      (extended.machine unit begins) (Replied unit command reply) chosen state sums
      way).2.step).may_be_read

  -- so a mark of what is chosen of the last act may stand on it
  may-stand : (act : Act) (chosen : Choices (act ∷ so_far)) (states : States) (sums : AllSums)
      (mark : Mark) → chosen.choice ≡ choice_by (Some mark) → CanStand act (choice_by (Some mark))
      → AllFollow begins (act ∷ so_far) chosen states sums
      → MayStandOn (profile_of begins) mark act
  may-stand (acts.Ack command) chosen states sums marks.Lost is can ways = tt
  may-stand (acts.VmcAck command reply) chosen states sums marks.Lost is can ways = tt
  may-stand (acts.Reply (commands.Changer c) reply) chosen states sums marks.Restart is can ways =
      rw is at (ways Changer).step.step.has_news.read
  may-stand (acts.Reply (commands.Bill c) reply) chosen states sums marks.Restart is can ways =
      rw is at (ways Bill).step.step.has_news.read
  may-stand (acts.Reply (commands.Reader unit c) reply) chosen states sums mark is can ways =
      let device = Reader unit in
      reader-stands (profile_of begins) mark unit c reply can
      (rw is at (reads (profile_of begins) unit c reply chosen (states device) (sums device)
      (ways device)))
  may-stand _ chosen states sums marks.Again is can ways = absurd cc
  may-stand _ chosen states sums _ is can ways = absurd can

-- the last mark of ways, where it stands at the last row
pub last-stands : (begins : Beginning) (scope : Scope) (pieces : List Piece)
    (chosen : Choices (acts_of pieces)) (states : States) (sums : AllSums)
    (ms : List (ℕ × Mark)) (row : ℕ) (mark : Mark) → ArePieces scope pieces
    → AllFollow begins (acts_of pieces) chosen states sums
    → marks_of pieces chosen ≡ ms ++ (row, mark) ∷ [] → row ≡ length (events_of pieces)
    → MayStandOnNewest (profile_of begins) mark pieces
last-stands begins scope [] chosen states sums ms row mark are ways same at =
    absurd (none_at row mark [] ms (All-nil _) same)
last-stands begins scope (Whole act events ∷ pieces) chosen states sums ms row mark are ways same
    at =
    let is = choice-told (marks_of pieces chosen.before) ms (length (events_of pieces ++ events))
    chosen.choice mark (all_before scope act events pieces chosen.before are) (rw at at same) in
    may-stand begins (acts_of pieces) act chosen states sums mark is (rw is at chosen.stands) ways
last-stands begins scope (tail ∷ pieces) chosen states sums ms row mark are ways same at =
    let some = ap length are.1.begins in
    let rows = length-append (events_of pieces) (piece_events tail) in
    absurd (none_at row mark (marks_of pieces chosen) ms (λ k d inside.
    let is = all_within scope pieces chosen are.2 k d inside in omega (arith, is, rows, some, at))
    same)
