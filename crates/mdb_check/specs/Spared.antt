-- Which no rests on the base profile's times alone (this profile): the row breaks one of the limits
-- that the extended profile counts as remarks, and as far as the link goes nothing else is wrong
-- with it. No machine is asked, and what a reply says is read as by the base profile. So the
-- extended profile may still refuse the row, for another reason than its time.
use Rattle.std.specs.Prelude.{◌≡◌, ⊤, ℕ, Bool, true, false, ◌+◌, ◌-◌, nat_le, List, [], ◌∷◌, ◌++◌, Option, Some, None, IfSome, IsSome, if◌then◌else◌}
use Rattle.std.specs.Option.{IfNone}
use Rattle.mdb_words.specs.declared.event.Event.{Event}
use Rattle.mdb_words.specs.declared.event.Event.TheVariants.{Word, Break}
use Rattle.mdb_words.specs.declared.word.Line.TheVariants.{Controller, Peripheral}
use Rattle.mdb_words.specs.declared.limits.TheConstants.{WORD_GAP_MIN}
use Rattle.mdb_words.specs.Event.{start_of, end_of}
use Rattle.mdb_bus.specs.declared.fault.Rule.{Rule}
use Rattle.mdb_bus.specs.declared.fault.Rule.TheVariants as rules
use Rattle.mdb_bus.specs.declared.scope.Profile.TheVariants.{Base, Extended}
use Rattle.mdb_bus.specs.declared.scope.Scope.{Scope}
use Rattle.mdb_bus.specs.ActLists.{last_of}
use Rattle.mdb_bus.specs.Scopes.{profile_of}
use Rattle.mdb_bus.specs.Times.{break_least, rest_after}
use Rattle.mdb_bus.specs.Pieces.{HasActList}
use Rattle.mdb_check.specs.declared.beside.Spared.{Spared}

-- the row before the last
abbrev pub before_last : List Event → Option Event
before_last [] = None
before_last (event ∷ []) = None
before_last (event ∷ next ∷ []) = Some event
before_last (event ∷ next ∷ other ∷ events) = before_last (next ∷ other ∷ events)

-- Whether the second of two rows, after which an answer is due, is RET: a word of the controller
-- right after one of a peripheral. A command has two words or more.
abbrev pub is_ret : Option Event → Option Event → Bool
is_ret (Some (Word from Peripheral said)) (Some (Word at Controller word)) = true
is_ret earlier last = false

-- How long a row takes that breaks a rule, where the extended profile has no limit against it: a
-- break that is too short lasts so long, and any other row comes so long after the row before it.
abbrev pub time_of : Rule → Option Event → Event → Option ℕ
time_of rules.Break from (Break at length) =
    if nat_le (break_least Extended) length then Some length else None
time_of broken None row = None
time_of broken (Some from) row =
    if nat_le (end_of from + rest_after (Some from)) (start_of row)
    then Some (start_of row - end_of from) else None

-- when a row starts, or before that, as soon as any word may come
abbrev pub soonest : Event → Event → ℕ
soonest from row =
    if nat_le (end_of from + WORD_GAP_MIN) (start_of row) then end_of from + WORD_GAP_MIN
    else start_of row

-- the same word then
abbrev pub sooner : Option Event → Event → Event
sooner (Some from) (Word at line word) = Word (soonest from (Word at line word)) line word
sooner from row = row

-- A row after these that breaks a rule of time could be at another time: a word that is early could
-- begin a recording, a word that is late could come sooner, and a break may be longer everywhere.
abbrev pub CouldBe : Scope → List Event → Event → Rule → Type 0
CouldBe scope rows row rules.Early = HasActList scope (row ∷ [])
CouldBe scope rows row rules.Late = HasActList scope (rows ++ sooner (last_of rows) row ∷ [])
CouldBe scope rows row rules.Spacing = HasActList scope (rows ++ sooner (last_of rows) row ∷ [])
CouldBe scope rows row rules.Break = ⊤
CouldBe scope rows row broken = ⊥

-- How long a row takes that breaks a rule after these rows, and whether it comes after RET, where
-- the extended profile's times spare it. None where they don't, and by the extended profile itself.
pub record IsSpared (scope : Scope) (rows : List Event) (row : Event) (broken : Rule)
    (spared : Option Spared) : Type 0 where
  pub some : IfSome spared (λ it. (profile_of scope.begins ≡ Base)
      × (time_of broken (last_of rows) row ≡ Some it.micros) × CouldBe scope rows row broken
      × (it.after_ret ≡ is_ret (before_last rows) (last_of rows)))
  pub none : IfNone spared (profile_of scope.begins ≡ Base
      → IsSome (time_of broken (last_of rows) row) → CouldBe scope rows row broken → ⊥)
