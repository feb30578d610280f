-- The end of a recording that can be read by itself (this profile). By the extended profile feature
-- levels tell how a reader's reply is read, and an end may not show them. Lists of pieces are
-- written newest first, lists of events oldest first.
use Rattle.std.specs.Prelude.{◌≡◌, ◌⊎◌, ℕ, List, ◌++◌, All, Result, Ok, Err}
use Rattle.mdb_words.specs.declared.event.Event.{Event}
use Rattle.mdb_msgs.specs.declared.setups.Setups.{Setups}
use Rattle.mdb_bus.specs.declared.fault.Rule.TheVariants as rule
use Rattle.mdb_bus.specs.declared.levels.Levels.{Levels}
use Rattle.mdb_bus.specs.declared.levels.ReaderLevels.{ReaderLevels}
use Rattle.mdb_bus.specs.declared.scope.Profile.TheVariants.{Base}
use Rattle.mdb_bus.specs.declared.scope.Scope.{Scope}
use Rattle.mdb_bus.specs.Acts.{IsForeignWord}
use Rattle.mdb_bus.specs.ActLists.{IsActList, Piece, levels_of}
use Rattle.mdb_bus.specs.Pieces.{HasActList}
use Rattle.mdb_bus.specs.Scopes.{levels_before, profile_of}
use Rattle.mdb_text.specs.declared.outcome.Outcome.{Outcome}
use Rattle.mdb_text.specs.declared.outcome.Outcome.TheVariants.{Yes, No}
use Rattle.mdb_verdict.specs.declared.fault.RunFault.{RunFault}
use Rattle.mdb_verdict.specs.Rows.{AreRows}
use Rattle.mdb_late_start.specs.Cuts.{BeginAnew, joined_with}
use Rattle.mdb_late_start.specs.MidSession.{IsNothingOr}

-- of a reader's levels is known nothing, or the same
pub record IsLessOfReader (one other : ReaderLevels) : Type 0 where
  pub asked : IsNothingOr one.asked other.asked
  pub told : IsNothingOr one.told other.told

pub record IsLessKnown (one other : Levels) : Type 0 where
  pub first : IsLessOfReader one.first other.first
  pub second : IsLessOfReader one.second other.second

-- Setup data tell of levels what is known in front of an end, or nothing. What stands in the end
-- before it begins anew (`words`) belongs to what began in front.
abbrev pub TellsLevelsOfFront : Scope → Setups → List Event → List Event → Type 0
TellsLevelsOfFront scope setups front end =
    (words rest : List Event) (before : List Piece) → end ≡ words ++ rest
    → All IsForeignWord words → BeginAnew rest → IsActList scope before (front ++ words)
    → IsLessKnown (levels_before (joined_with setups scope))
    (levels_of (profile_of scope.begins) (levels_before scope) before)

-- An end has an act list by itself, and what is told of levels was known in front of it.
pub record IsReadAlone (scope : Scope) (setups : Setups) (front end : List Event) : Type 0 where
  pub act_list : HasActList (joined_with setups scope) end
  pub tells : TellsLevelsOfFront scope setups front end

-- An end may be read by itself: by the base profile each, and else one that is read alone.
abbrev pub MayBeReadAlone : Scope → Setups → List Event → List Event → Type 0
MayBeReadAlone scope setups front end =
    (profile_of scope.begins ≡ Base) ⊎ IsReadAlone scope setups front end

-- Setup data tell so of the rows of records.
abbrev pub TellsRecordsOfFront : Scope → Setups → List (List (List ℕ)) → List (List (List ℕ))
    → Type 0
TellsRecordsOfFront scope setups front end =
    (rows ends : List Event) → AreRows front rows → AreRows end ends
    → TellsLevelsOfFront scope setups rows ends

-- an answer is a yes, or a no whose rule is Profile, by which nobody did anything wrong
abbrev pub IsYesOrByProfile : Result Outcome RunFault → Type 0
IsYesOrByProfile (Ok (Yes report)) = Unit {0}
IsYesOrByProfile (Ok (No offence)) = offence.rule ≡ rule.Profile
IsYesOrByProfile (Err fault) = ⊥
