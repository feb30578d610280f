-- Marks: what a run chooses of its acts where that isn't plain, each with the number of the row
-- that ends the act (this profile). Lists of pieces stand newest first, and lists of marks oldest
-- first.
use Rattle.std.specs.Prelude.{◌≡◌, ℕ, ◌<◌, ◌≤◌, true, List, [], ◌∷◌, ◌++◌, length, All, Option, Some, None, if◌then◌else◌}
use Rattle.mdb_words.specs.declared.event.Event.{Event}
use Rattle.mdb_msgs.specs.declared.command.Command.{Command}
use Rattle.mdb_msgs.specs.declared.command.Command.TheVariants as commands
use Rattle.mdb_msgs.specs.declared.command.Device.{Device}
use Rattle.mdb_msgs.specs.declared.reply.Reply.{Reply}
use Rattle.mdb_bus.specs.declared.act.Act.{Act}
use Rattle.mdb_bus.specs.declared.act.Act.TheVariants as acts
use Rattle.mdb_bus.specs.declared.scope.Profile.{Profile}
use Rattle.mdb_bus.specs.declared.scope.Profile.TheVariants.{Base, Extended}
use Rattle.mdb_bus.specs.declared.scope.Scope.{Scope}
use Rattle.mdb_bus.specs.Acts.{IsAck}
use Rattle.mdb_bus.specs.ActLists.{Piece, Whole, acts_of, events_of}
use Rattle.mdb_bus.specs.LeavingOut.{has_part}
use Rattle.mdb_machine.specs.declared.choice.Choice.{Choice}
use Rattle.mdb_machine.specs.declared.choice.Choice.TheVariants as choices
use Rattle.mdb_cash.specs.BillMessages as bill
use Rattle.mdb_cash.specs.ChangerMessages as changer
use Rattle.mdb_machine.specs.Choices.{approves}
use Rattle.mdb_machine.specs.Kept.{MayBeRead}
use Rattle.mdb_cashless.specs.ReaderMessages as reader
use Rattle.mdb_run_search.specs.declared.mark.Mark.{Mark}
use Rattle.mdb_run_search.specs.declared.mark.Mark.TheVariants as marks
use Rattle.mdb_follow.specs.Choosing.{Choices, choices_of}
use Rattle.mdb_follow.specs.Runs.{AllSums, Run}

-- the choice that a mark tells of; without a mark it is the plain one
abbrev pub choice_by : Option Mark → Choice
choice_by None = choices.Plain
choice_by (Some marks.Lost) = choices.Lost
choice_by (Some marks.Restart) = choices.Restart
choice_by (Some marks.Again) = choices.Again

-- the marks of a choice, at the row that ends its act: one, or none
abbrev pub marks_at : ℕ → Choice → List (ℕ × Mark)
marks_at row choices.Plain = []
marks_at row choices.Lost = (row, marks.Lost) ∷ []
marks_at row choices.Restart = (row, marks.Restart) ∷ []
marks_at row choices.Again = (row, marks.Again) ∷ []

-- the marks of what is chosen of the acts of pieces
abbrev pub marks_of : (pieces : List Piece) → Choices (acts_of pieces) → List (ℕ × Mark)
marks_of [] chosen = []
marks_of (Whole act events ∷ pieces) chosen =
    marks_of pieces chosen.before
    ++ marks_at (length (events_of pieces ++ events)) chosen.choice
marks_of (piece ∷ pieces) chosen = marks_of pieces chosen

-- those of the acts in which a device has a part
abbrev pub own_marks : Device → (pieces : List Piece) → Choices (acts_of pieces)
    → List (ℕ × Mark)
own_marks device [] chosen = []
own_marks device (Whole act events ∷ pieces) chosen =
    own_marks device pieces chosen.before
    ++ (if has_part device act then marks_at (length (events_of pieces ++ events)) chosen.choice
    else [])
own_marks device (piece ∷ pieces) chosen = own_marks device pieces chosen

-- the rows of marks rise: each stands before those of all that follow it
abbrev pub Rise : List (ℕ × Mark) → Type 0
Rise [] = Unit {0}
Rise (mark ∷ marks) = All (λ later. mark.0 < later.0) marks × Rise marks

-- a mark stands at one of so many rows, which are counted from 1
abbrev pub StandsWithin : ℕ → ℕ × Mark → Type 0
StandsWithin count mark = (1 ≤ mark.0) × (mark.0 ≤ count)

-- what a run chooses of each act
abbrev pub choices_in : {scope : Scope} {events : List Event} {sums : AllSums}
    (run : Run scope events sums) → Choices (acts_of run.pieces)
choices_in {scope = scope} {sums = sums} run =
    choices_of scope.begins run.loss run.pieces run.states sums run.way

-- A run of rows that has these marks, with what the accounts come to in it.
pub record MarkedRun (scope : Scope) (events : List Event) (marks : List (ℕ × Mark))
    (sums : AllSums) : Type 0 where
  pub run : Run scope events sums
  pub are : marks_of run.pieces (choices_in run) ≡ marks

-- a reply can be read as telling of a restart, by its messages alone
abbrev pub MayTellOfRestart : Command → Reply → Type 0
MayTellOfRestart (commands.Changer command) reply =
    MayBeRead choices.Restart (changer.parts_of reply)
MayTellOfRestart (commands.Bill command) reply = MayBeRead choices.Restart (bill.parts_of reply)
MayTellOfRestart (commands.Reader unit command) reply =
    MayBeRead choices.Restart (reader.parts_of reply)

-- A mark may stand on an act: that an ACK was lost on one, and a restart on a reply that can be
-- read
-- so. By the extended profile alone, that an approval was told again, on a reply that approves a
-- sale.
abbrev pub MayStandOn : Profile → Mark → Act → Type 0
MayStandOn profile marks.Lost act = IsAck act
MayStandOn profile marks.Restart (acts.Reply command reply) = MayTellOfRestart command reply
MayStandOn profile marks.Restart act = ⊥
MayStandOn Base marks.Again act = ⊥
MayStandOn Extended marks.Again act = approves act ≡ true

-- marks with one more, at a row, if there is one
abbrev pub with_mark : ℕ → Option Mark → List (ℕ × Mark) → List (ℕ × Mark)
with_mark row None marks = marks
with_mark row (Some mark) marks = marks ++ (row, mark) ∷ []
