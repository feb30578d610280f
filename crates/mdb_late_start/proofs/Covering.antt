-- What is known of a device that keeps messages, in the end of a recording by itself and in the
-- whole of it: what the end knows, the whole knows too, and a type that is enabled in the whole
-- is enabled in the end. Lists of acts stand newest first.
use Rattle.mdb_late_start.proofs.Words.{common_steps, arith, ◌≡◌, ℕ, ◌<◌, Bool, true, false, not, ◌&&◌, ◌||◌, List, [], ◌∷◌, ◌++◌, Option, Some, None, refl, ap, sym, ◌∙◌, option_map, list_any, append-nil, Command, Setups, Act, Beginning, PowerOn, Joined, profile_of, Part, has_reset, kept_of, Known, Is, known_before, last_list, last_told, or_else, unless_empty, IsNothingOr, first_of_three, Tables, known_by, acts_from, effect_by, known_past, powers_on, runs_on}
use Rattle.std.specs.Prelude.{ltb}
use Rattle.std.proofs.Math.Bool.{or-true}
use Rattle.std.proofs.lemmas.Bool.{lt-ltb}
use Rattle.std.proofs.lemmas.List.Folds.{list_any-append}
use Rattle.mdb_machine.specs.declared.past.Effect.{Effect}
use Rattle.mdb_machine.specs.Enabled.{disables, enabled_of, enables, known_enabled}
use Rattle.mdb_machine.specs.Keeper.{KnownFacts, asked_by, effect_of, known_of, parts_by}
use Rattle.mdb_machine.specs.Known.{Unknown}

-- what one knows, the other knows too
abbrev pub Covers : {X : Type 0} → Known X → Known X → Type 0
Covers (Is x) whole = whole ≡ Is x
Covers Unknown whole = Unit {0}

-- what the last act tells that tells something, in the end or else in front of it
pub told_over : {X : Type 0} (tells : Act → Option X) (later front : List Act)
    → last_told tells (later ++ front) ≡ or_else (last_told tells later) (last_told tells front)
told_over tells [] front = refl
told_over tells (act ∷ later) front =
    ap (or_else (tells act)) (told_over tells later front)
    ∙ first_of_three (tells act) (last_told tells later) (last_told tells front)

-- what was asked last counts as something told
pub asked_over : {X : Type 0} (first second : Option X)
    → option_map (λ (x : X). Some x) (or_else first second)
    ≡ or_else (option_map (λ (x : X). Some x) first) (option_map (λ (x : X). Some x) second)
asked_over (Some x) second = refl
asked_over None second = refl

-- what is told last in the end is told last in the whole
pub covers_over : {X : Type 0} (begins : Beginning) (setups : Setups) (none : X)
    (first second whole : Option X) → whole ≡ or_else first second
    → Covers (known_by (Joined setups (profile_of begins)) none first) (known_by begins none whole)
covers_over begins setups none (Some x) second whole is = rw is
covers_over begins setups none None second whole is = tt

-- after a boundary in the end, the acts from the last boundary on are those of the end
from_end : (powers : Act → Bool) (later front : List Act) → list_any powers later ≡ true
    → acts_from powers (later ++ front) ≡ acts_from powers later
from_end powers [] front some = absurd cc
from_end powers (act ∷ later) front some =
    grind (arith, common_steps, from_end powers later front)

-- after a boundary in the end, the device of the whole runs on no longer
runs_no_more : (begins : Beginning) (ends : Act → Bool) (later front : List Act)
    → list_any ends later ≡ true → runs_on begins ends (later ++ front) ≡ false
runs_no_more (PowerOn profile) ends later front some = refl
runs_no_more (Joined setups profile) ends later front some =
    ap not (list_any-append ends later front ∙ ap (λ b. b || list_any ends front) some)

-- whether a type is enabled in the end, from whether it is in the whole: `any` is whether there is
-- a boundary in the end
end_enables : (any whole end runs full : Bool) → (any ≡ true → whole ≡ end)
    → (any ≡ true → runs ≡ false) → full ≡ true → (whole || (runs && full)) ≡ true
    → (end || (not any && full)) ≡ true
end_enables false whole end runs full same stops ones is = rw ones (or-true end)
end_enables true whole end runs full same stops ones is = rw (same refl, stops refl) at is

-- whether a reset message is owed in the whole, from whether it is in the end
end_owes : (any whole end runs : Bool) → (any ≡ true → whole ≡ end) → (any ≡ true → runs ≡ false)
    → (not end && not (not any)) ≡ true → (not whole && not runs) ≡ true
end_owes false whole true runs same stops is = absurd cc
end_owes false whole false runs same stops is = absurd cc
end_owes true whole end runs same stops is = rw (same refl, stops refl) is

-- a type that is enabled in the whole is enabled in the end
enabled_end : (begins : Beginning) (setups : Setups) (effect : Command → Effect)
    (later front : List Act) (kind : ℕ) → kind < 16
    → known_enabled begins effect (later ++ front) kind ≡ true
    → known_enabled (Joined setups (profile_of begins)) effect later kind ≡ true
enabled_end begins setups effect later front kind few =
    let profile = profile_of begins in
    let ends = disables profile effect in
    end_enables (list_any ends later) (enabled_of profile effect (later ++ front) kind)
    (enabled_of profile effect later kind) (runs_on begins ends (later ++ front)) (ltb kind 16)
    (λ some. ap (list_any (λ act. enables kind (effect_by effect act)))
    (from_end ends later front some))
    (runs_no_more begins ends later front) (lt-ltb kind 16 few)

-- where a reset message is owed in the end, it is in the whole
pub owed_end : {M : Type 0} (begins : Beginning) (setups : Setups) (effect : Command → Effect)
    (parts : Act → List (Part M)) (later front : List Act)
    → (known_past (Joined setups (profile_of begins)) effect parts later).reset_owed ≡ true
    → (known_past begins effect parts (later ++ front)).reset_owed ≡ true
owed_end begins setups effect parts later front =
    let powers = powers_on effect in
    end_owes (list_any powers later)
    (list_any (λ act. has_reset (parts act)) (acts_from powers (later ++ front)))
    (list_any (λ act. has_reset (parts act)) (acts_from powers later))
    (runs_on begins powers (later ++ front))
    (λ some. ap (list_any (λ act. has_reset (parts act))) (from_end powers later front some))
    (runs_no_more begins powers later front)

-- what of a setup table is told in the end, or known in front of it
setup_end : {X : Type 0} (told elsewhere here : Option X) (setup : X) → IsNothingOr elsewhere here
    → or_else told elsewhere ≡ Some setup → or_else told here ≡ Some setup
setup_end (Some told) elsewhere here setup are is = is
setup_end None (Some known) here setup are is = are ∙ is
setup_end None None here setup are is = absurd cc

-- What is known in the end (`end`), by what is in the whole: what was asked and told last is known
-- in the whole too, where it is in the end; what the end says of types and of the reset message
-- lets a device do what it may in the whole.
pub record IsKnownInEnd {Setup Asked M : Type 0} (whole end : KnownFacts Setup Asked M)
    : Type 0 where
  pub asked : Covers end.last_asked whole.last_asked
  pub kept : Covers end.past.last_kept whole.past.last_kept
  pub owed : end.past.reset_owed ≡ true → whole.past.reset_owed ≡ true
  pub enabled : (kind : ℕ) → kind < 16 → whole.enabled kind ≡ true → end.enabled kind ≡ true

-- so it is with what is known of the end of a recording
pub known_in_end : {Own Setup Asked M : Type 0} (tables : Tables Own Setup Asked M)
    (begins : Beginning) (setups : Setups) (later front : List Act)
    → IsKnownInEnd (known_of tables begins (later ++ front))
    (known_of tables (Joined setups (profile_of begins)) later)
known_in_end {Asked = Asked} tables begins setups later front = record {
  asked = covers_over begins setups None
      (option_map (λ (a : Asked). Some a) (last_told (asked_by tables) later))
      (option_map (λ (a : Asked). Some a) (last_told (asked_by tables) front)) _
      (ap (option_map (λ (a : Asked). Some a)) (told_over (asked_by tables) later front)
      ∙ asked_over (last_told (asked_by tables) later) (last_told (asked_by tables) front));
  kept = covers_over begins setups [] (last_list (parts_by tables) later)
      (last_list (parts_by tables) front) _
      (told_over (λ act. unless_empty (kept_of (parts_by tables act))) later front);
  owed = owed_end begins setups (effect_of tables) (parts_by tables) later front;
  enabled = enabled_end begins setups (effect_of tables) later front;
}

-- where nothing stands in front, the end is the whole
pub all_later : (later front : List Act) → front ≡ [] → later ≡ later ++ front
all_later later front empty = sym (ap (λ acts. later ++ acts) empty ∙ append-nil later)

-- what is told last of a kind, or known from elsewhere
module _ {X : Type 0} (tells : Act → Option X) (elsewhere : Setups → Option X)
    (begins : Beginning) (setups : Setups) (later front : List Act) where
  abbrev end : Option X
  end = or_else (last_told tells later) (elsewhere setups)

  abbrev whole : Option X
  whole = or_else (last_told tells (later ++ front)) (known_before elsewhere begins)

  -- What the end knows the whole knows, where what was told from elsewhere is what was known in
  -- front of the end.
  pub known_over : (x : X)
      → IsNothingOr (elsewhere setups)
      (or_else (last_told tells front) (known_before elsewhere begins))
      → end ≡ Some x → whole ≡ Some x
  known_over x are is =
      ap (λ o. or_else o (known_before elsewhere begins)) (told_over tells later front)
      ∙ sym (first_of_three (last_told tells later) (last_told tells front)
      (known_before elsewhere begins))
      ∙ setup_end (last_told tells later) (elsewhere setups) _ x are is

  -- a recording from power-on knows the same as one in mid-session of which nothing was told
  pub same_over : begins ≡ PowerOn (profile_of begins) → front ≡ [] → elsewhere setups ≡ None
      → end ≡ whole
  same_over power_on empty none =
      ap (or_else (last_told tells later)) (none ∙ sym (ap (known_before elsewhere) power_on))
      ∙ ap (λ acts. or_else (last_told tells acts) (known_before elsewhere begins))
      (all_later later front empty)
