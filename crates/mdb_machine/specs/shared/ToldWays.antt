-- What acts tell, and what none of them tells. This serves laws of recordings that begin in
-- mid-session.
use Rattle.std.specs.Prelude.{◌≡◌, ◌≢◌, Bool, true, false, not, ◌&&◌, List, [], ◌∷◌, Option, Some, None, option_map, refl, unwrap_or}
use Rattle.std.specs.List.{AllByRecursion}
use Rattle.std.proofs.Common.{ap, ◌∙◌}
use Rattle.mdb_msgs.specs.declared.setups.Setups.{Setups}
use Rattle.mdb_bus.specs.declared.act.Act.{Act}
use Rattle.mdb_bus.specs.declared.scope.Beginning.TheVariants.{Joined}
use Rattle.mdb_bus.specs.declared.scope.Profile.{Profile}
use Rattle.mdb_machine.specs.Known.{Allows, AllowsKept, known_by}
use Rattle.mdb_machine.specs.Past.{last_told, or_else, unless_empty}

-- what no act tells isn't told, and what isn't told is told by no act
pub none_told : {X : Type 0} (P : Act → Type 0) (tells : Act → Option X)
    → ((act : Act) → P act → tells act ≡ None) → (so_far : List Act) → AllByRecursion P so_far
    → last_told tells so_far ≡ None
none_told P tells is [] all = refl
none_told P tells is (act ∷ so_far) all =
    ap (λ o. or_else o (last_told tells so_far)) (is act all.0) ∙ none_told P tells is so_far all.1

neither : {X : Type 0} (one other : Option X) → or_else one other ≡ None
    → (one ≡ None) × (other ≡ None)
neither (Some x) other none = absurd cc
neither None other none = (refl, none)

pub told_by_none : {X : Type 0} (P : Act → Type 0) (tells : Act → Option X)
    → ((act : Act) → tells act ≡ None → P act) → (so_far : List Act)
    → last_told tells so_far ≡ None → AllByRecursion P so_far
told_by_none P tells is [] none = tt
told_by_none P tells is (act ∷ so_far) none =
    let both = neither (tells act) (last_told tells so_far) none in
    (is act both.0, told_by_none P tells is so_far both.1)

pub empty_unless : {X : Type 0} (list : List X) → unless_empty list ≡ None → list ≡ []
empty_unless [] none = refl
empty_unless (x ∷ list) none = absurd cc

-- a list that is told has messages
some_in : {X : Type 0} (list other : List X) → unless_empty list ≡ Some other → other ≢ []
some_in [] other is empty = absurd cc
some_in (x ∷ list) [] is empty = absurd cc
some_in (x ∷ list) (y ∷ other) is empty = absurd cc

pub list_told : {X : Type 0} (lists : Act → List X) (so_far : List Act) (list : List X)
    → last_told (λ act. unless_empty (lists act)) so_far ≡ Some list → list ≢ []
list_told lists [] list is empty = absurd cc
list_told {X = X} lists (act ∷ so_far) list is empty =
    either (unless_empty (lists act)) refl is (λ found. list_told lists so_far list found empty)
  where
    either : (o : Option (List X)) → unless_empty (lists act) ≡ o
        → or_else o (last_told (λ a. unless_empty (lists a)) so_far) ≡ Some list
        → (last_told (λ a. unless_empty (lists a)) so_far ≡ Some list → ⊥) → ⊥
    either (Some other) same found rest = some_in (lists act) list (same ∙ found) empty
    either None same found rest = rest found

pub not_not : (a b : Bool) → (a && not (not b)) ≡ (a && b)
not_not a true = refl
not_not a false = refl

-- what may be is what was told, if something was
pub allows_if : {X : Type 0} (setups : Setups) (profile : Profile) (none : X) (told : Option X)
    (x : X)
    → ((told ≡ None → ⊥) → x ≡ unwrap_or told none)
    → Allows (known_by (Joined setups profile) none told) x
allows_if setups profile none None x is = tt
allows_if setups profile none (Some y) x is = is (λ same. absurd cc)

pub as_allowed : {X : Type 0} (setups : Setups) (profile : Profile) (none : X) (told : Option X)
    (x : X)
    → Allows (known_by (Joined setups profile) none told) x → (told ≡ None → ⊥)
    → x ≡ unwrap_or told none
as_allowed setups profile none None x allows known = absurd (known refl)
as_allowed setups profile none (Some y) x allows known = allows

pub allows_told : {X : Type 0} (setups : Setups) (profile : Profile) (told : Option X)
    → Allows (known_by (Joined setups profile) None (option_map (λ (x : X). Some x) told)) told
allows_told setups profile None = tt
allows_told setups profile (Some x) = refl

pub asked_so : {X : Type 0} (setups : Setups) (profile : Profile) (told asked : Option X)
    → Allows (known_by (Joined setups profile) None (option_map (λ (x : X). Some x) told)) asked
    → (told ≡ None → ⊥) → asked ≡ told
asked_so setups profile None asked allows known = absurd (known refl)
asked_so setups profile (Some x) asked allows known = allows

pub keeps_if : {M : Type 0} (setups : Setups) (profile : Profile) (holds : Bool)
    (told : Option (List M)) (kept : List M) → (told ≡ None → kept ≢ [])
    → ((told ≡ None → ⊥) → kept ≡ unwrap_or told [])
    → AllowsKept (known_by (Joined setups profile) [] told) holds kept
keeps_if setups profile holds None kept some is = λ held. some refl
keeps_if setups profile holds (Some list) kept some is = is (λ same. absurd cc)

pub kept_so : {M : Type 0} (setups : Setups) (profile : Profile) (holds : Bool)
    (told : Option (List M)) (kept : List M)
    → AllowsKept (known_by (Joined setups profile) [] told) holds kept → (told ≡ None → ⊥)
    → kept ≡ unwrap_or told []
kept_so setups profile holds None kept allows known = absurd (known refl)
kept_so setups profile holds (Some list) kept allows known = allows

-- a last kept list that may be: what was told, and where nothing was, some list
pub kept_told : {M : Type 0} → M → (setups : Setups) (profile : Profile) (holds : Bool)
    (told : Option (List M))
    → (kept : List M) × AllowsKept (known_by (Joined setups profile) [] told) holds kept
    × ((told ≡ None → ⊥) → kept ≡ unwrap_or told [])
kept_told some setups profile holds None =
    (some ∷ [], λ held empty. absurd cc, λ told. absurd (told refl))
kept_told some setups profile holds (Some list) = (list, refl, λ told. refl)
