-- A controller in haste, by the extended profile: it begins a block while an answer, or a repeat,
-- may still come, also of a device that isn't followed. That may come all the same. What it then
-- collides with is the controller's fault (this profile).
use Rattle.std.specs.Prelude.{ℕ, ◌+◌, nat_eq, nat_lt, Bool, true, false, ◌&&◌, ◌||◌, List, [], ◌∷◌, Option, Some, None, if◌then◌else◌}
use Rattle.mdb_words.specs.declared.event.Event.{Event}
use Rattle.mdb_words.specs.declared.event.Event.TheVariants.{Word, Break}
use Rattle.mdb_words.specs.declared.limits.TheConstants.{NEW_BLOCK_GAP_MIN}
use Rattle.mdb_words.specs.declared.word.Line.TheVariants.{Controller, Peripheral}
use Rattle.mdb_words.specs.Event.{start_of, end_of}
use Rattle.mdb_words.specs.Answer.{answer_word}
use Rattle.mdb_words.specs.declared.answer.Answer.TheVariants.{Ret}
use Rattle.mdb_bus.specs.declared.fault.Blame.TheVariants as blame
use Rattle.mdb_bus.specs.declared.fault.LinkFault.{LinkFault}
use Rattle.mdb_bus.specs.declared.fault.Rule.{Rule}
use Rattle.mdb_bus.specs.declared.fault.Rule.TheVariants as rule
use Rattle.mdb_bus.specs.declared.scope.Profile.{Profile}
use Rattle.mdb_bus.specs.declared.scope.Profile.TheVariants.{Base, Extended}
use Rattle.mdb_bus.specs.declared.scope.Scope.{Scope}
use Rattle.mdb_bus.specs.ActLists.{Piece, events_of}
use Rattle.mdb_bus.specs.Scopes.{profile_of}

-- the gap from the row before, if there is one, is less than so long
abbrev pub is_before : ℕ → Option Event → Event → Bool
is_before least None to = false
is_before least (Some from) to = nat_lt (start_of to) (end_of from + least)

-- Whether an answer may still come after a row, whoever is asked: to a block of the controller,
-- which its marked word begins, or to RET. A peripheral's word or a break ends that.
abbrev pub awaited_after : Event → Bool → Bool
awaited_after (Word at Controller word) before =
    if nat_lt word 256 then before || nat_eq word (answer_word Controller Ret) else true
awaited_after row before = false

-- Whether the controller is in haste after a row: a block may come before its time, which is while
-- an answer may still come; a break ends haste; any other row leaves it.
abbrev pub haste_after : Bool → Option Event → Event → Bool → Bool
haste_after awaited from (Word at Controller word) before =
    if nat_lt word 256 then before
    else awaited && is_before NEW_BLOCK_GAP_MIN from (Word at Controller word)
haste_after awaited from (Word at Peripheral word) before = before
haste_after awaited from (Break at length) before = false

-- both after rows, the oldest first
abbrev pub awaited_from : Bool → List Event → Bool
awaited_from before [] = before
awaited_from before (row ∷ rows) = awaited_from (awaited_after row before) rows

abbrev pub haste_from : Bool → Option Event → Bool → List Event → Bool
haste_from awaited from before [] = before
haste_from awaited from before (row ∷ rows) =
    haste_from (awaited_after row awaited) (Some row) (haste_after awaited from row before) rows

-- and after pieces
abbrev pub is_awaited : List Piece → Bool
is_awaited pieces = awaited_from false (events_of pieces)

abbrev pub is_in_haste : List Piece → Bool
is_in_haste pieces = haste_from false None false (events_of pieces)

-- the base profile knows no haste: there such a block breaks a rule
abbrev pub haste_by : Profile → Bool → Bool
haste_by Base haste = false
haste_by Extended haste = haste

abbrev pub haste_of : Scope → List Piece → Bool
haste_of scope pieces = haste_by (profile_of scope.begins) (is_in_haste pieces)

-- Whether haste excuses a row that breaks a rule: a peripheral's, but not for its order nor for
-- what isn't followed; and one of the controller that finds a peripheral's block left open.
abbrev pub is_excused : Event → Rule → Bool
is_excused (Word at Peripheral word) rule.Order = false
is_excused (Word at Peripheral word) rule.Profile = false
is_excused (Word at Peripheral word) broken = true
is_excused (Word at Controller word) rule.Spacing = true
is_excused row broken = false

-- the fault that counts for a fault of a row: in haste that the controller was early
abbrev pub counted_in : Bool → Event → LinkFault → LinkFault
counted_in haste row fault =
    if haste && is_excused row fault.rule then
    record { rule = rule.Early; blame = blame.Controller }
    else fault
