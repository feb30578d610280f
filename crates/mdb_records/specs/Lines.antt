-- What a reader of lines has left, and what it does with the record that comes next.
use Rattle.std.specs.Prelude.{◌≡◌, ◌-◌, Bool, true, false, ℕ, List, [], ◌∷◌, take, drop, ⊤, ◌⊎◌}
use Rattle.std.specs.Prelude.{Option, Some, None, IfSome, IsSome, option_map}
use Rattle.std.specs.Io.KnownBytes.{Keeps, prepend_known}
use Rattle.csv.specs.Machine.{line_feed, next_record}
use Rattle.csv.specs.Reading.{default_config, strip_bom}
use Rattle.csv.specs.declared.parser.State.TheVariants.{StartRecord}
use Rattle.mdb_records.specs.Mark.{given_of}
use Rattle.mdb_records.specs.declared.limited.Limited.{Limited}
use Rattle.mdb_records.specs.declared.lines.Lines.{Lines}
use Rattle.mdb_records.specs.declared.lines.Step.{Step}
use Rattle.mdb_records.specs.declared.lines.Step.TheVariants as step

-- the bytes that a limited reader has left, by those of the reader that it limits
abbrev pub limited_remaining : {R : Type 0} → (R → Option (List ℕ)) → Limited R → Option (List ℕ)
limited_remaining remaining limited = given_of (remaining limited.inner) limited.left limited.held

-- its reader failed, or its text was seen to go on past the limit
abbrev pub HasFailed : {R : Type 0} → Limited R → Type 0
HasFailed source = IsSome source.held ⊎ IsSome source.failed

-- the end of the line that was taken last: before it csv looks for no byte order mark, and alone it
-- is no record
abbrev pub end_of_last : Bool → List ℕ
end_of_last true = line_feed ∷ []
end_of_last false = []

-- the bytes that were read and not yet taken
abbrev pub unread : {R : Type 0} → Lines R → List ℕ
unread lines = take (lines.filled - lines.at) (drop lines.at lines.buffer)

-- the line that was taken last, and what was read after it
abbrev pub line : {R : Type 0} → Lines R → List ℕ
line lines = take (lines.filled - lines.start) (drop lines.start lines.buffer)

-- the bytes that a reader of lines has left, by those of the reader underneath
abbrev pub lines_remaining : {R : Type 0} → (R → Option (List ℕ)) → Lines R → Option (List ℕ)
lines_remaining remaining lines =
    prepend_known (end_of_last lines.begun)
    (prepend_known (unread lines) (limited_remaining remaining lines.source))

-- the same, as csv reads them
abbrev pub lines_given : {R : Type 0} → (R → Option (List ℕ)) → Lines R → Option (List ℕ)
lines_given remaining lines = option_map strip_bom (lines_remaining remaining lines)

-- the next record that csv reads from what was given before has these fields, and ends with its
-- line, whose end stands before what is given after
abbrev pub TakesLine : Option (List ℕ) → Option (List ℕ) → List (List ℕ) → Type 0
TakesLine None after fields = ⊤
TakesLine (Some before) None fields = ⊥
TakesLine (Some before) (Some after) fields = (rest : List ℕ) × (after ≡ line_feed ∷ rest)
    × (next_record default_config StartRecord [] [] before ≡ Some (fields, StartRecord, rest))

-- a record was taken, or all is as it was
abbrev pub Steps : Step → Option (List ℕ) → Option (List ℕ) → List (List ℕ) → Type 0
Steps step.Record before after fields = TakesLine before after fields
Steps step.Unended before after fields = Keeps before after
Steps step.Other before after fields = Keeps before after

-- a record was taken, or there is none, or all is as it was
abbrev pub Tells : Option Bool → Option (List ℕ) → Option (List ℕ) → List (List ℕ) → Type 0
Tells (Some true) before after fields = TakesLine before after fields
Tells (Some false) before after fields =
    IfSome before (λ given. next_record default_config StartRecord [] [] given ≡ None)
Tells None before after fields = Keeps before after
