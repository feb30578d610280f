-- That what is known of what counts goes on act by act, and that a command of no effect has none
-- whatever is replied. This proves laws of the trait `Pair` and of machines.
use Rattle.std.specs.Prelude.{◌≡◌, Bool, true, false, not, ◌&&◌, ◌||◌, List, [], ◌∷◌, refl}
use Rattle.std.specs.Prelude.{Option, None, Some, if◌then◌else◌, ltb}
use Rattle.std.proofs.Common.{ap, sym, ◌∙◌}
use Rattle.std.proofs.Math.Path.{fun_ext}
use Rattle.std.specs.List.{list_any}
use Rattle.mdb_msgs.specs.declared.command.Command.{Command}
use Rattle.mdb_msgs.specs.declared.reply.Reply.{Reply}
use Rattle.mdb_bus.specs.declared.act.Act.{Act}
use Rattle.mdb_bus.specs.declared.act.Act.TheVariants as acts
use Rattle.mdb_bus.specs.Scopes.{profile_of}
use Rattle.mdb_machine.specs.declared.kept.Part.{Part}
use Rattle.mdb_machine.specs.declared.past.Effect.{Effect}
use Rattle.mdb_machine.specs.declared.past.Effect.TheVariants as effects
use Rattle.mdb_machine.specs.Enabled.{disables, enables, known_enabled}
use Rattle.mdb_machine.specs.KeeperValues.{enabled_with}
use Rattle.mdb_machine.specs.Kept.{has_reset, kept_of}
use Rattle.mdb_bus.specs.declared.scope.Beginning.{Beginning}
use Rattle.mdb_bus.specs.declared.scope.Beginning.TheVariants.{PowerOn, Joined}
use Rattle.mdb_machine.specs.Known.{known_by}
use Rattle.mdb_machine.specs.Past.{KnownPast, PastFacts, known_past, last_list, runs_on, acts_from, effect_by, effect_taken, or_else, powers_on, tells_out_of_sequence, unless_empty}
use Rattle.mdb_machine.specs.PastValues.{known_past_with}
use Rattle.mdb_machine.specs.KnownMore.{known_more}

-- what counts is the same where its fields are
pub same_past : {M : Type 0} {one other : PastFacts M} → one.reset_owed ≡ other.reset_owed
    → one.last_kept ≡ other.last_kept → one ≡ other
same_past {M} {one} {other} reset_owed kept =
    let same : record one { last_kept = one.last_kept }
    ≡ record other { last_kept = other.last_kept } = cc (reset_owed, kept) in
    same

-- a command of no effect is none that its device takes, whether it says so or not
pub answered_still : (effect_of : Command → Effect) (command : Command) (reply : Reply)
    → effect_of command ≡ effects.Other
    → effect_by effect_of (acts.Reply command reply) ≡ effects.Other
answered_still effect_of command reply none = either (tells_out_of_sequence reply)
  where
    either : (refused : Bool)
        → effect_taken effect_of (if refused then None else Some command) ≡ effects.Other
    either true = refl
    either false = none

-- what is known is the same where its fields are
pub same_known_past : {M : Type 0} {one other : KnownPast M} → one.reset_owed ≡ other.reset_owed
    → one.last_kept ≡ other.last_kept → one ≡ other
same_known_past {M} {one} {other} reset_owed kept =
    let same : record one { last_kept = one.last_kept }
    ≡ record other { last_kept = other.last_kept } = cc (reset_owed, kept) in
    same

-- a device runs on no longer once an act ends this
runs_less : (begins : Beginning) (ends : Act → Bool) (act : Act) (acts : List Act)
    → runs_on begins ends (act ∷ acts) ≡ (if ends act then false else runs_on begins ends acts)
runs_less (PowerOn profile) ends act acts =
    elim (ends act) as (λ b. false ≡ (if b then false else false)) [
      | true ↦ refl
      | false ↦ refl
    ]
runs_less (Joined setups profile) ends act acts =
    elim (ends act) as (λ b. not (b || list_any ends acts)
    ≡ (if b then false else not (list_any ends acts))) [
      | true ↦ refl
      | false ↦ refl
    ]

any_running : (p : Act → Bool) (act : Act) (rest : List Act) (b runs full : Bool)
    → (p act || (if b then false else (list_any p rest || (runs && full))))
    ≡ (list_any p (act ∷ (if b then [] else rest)) || ((if b then false else runs) && full))
any_running p act rest true runs full =
    elim (p act) as (λ x. (x || false) ≡ ((x || list_any p []) || (false && full))) [
      | true ↦ refl
      | false ↦ refl
    ]
any_running p act rest false runs full =
    elim (p act) as (λ x. (x || (list_any p rest || (runs && full)))
    ≡ ((x || list_any p rest) || (runs && full))) [
      | true ↦ refl
      | false ↦ refl
    ]

none_running : (p : Act → Bool) (act : Act) (rest : List Act) (b runs : Bool)
    → (not (p act) && (b || (not (list_any p rest) && not runs)))
    ≡ (not (list_any p (act ∷ (if b then [] else rest))) && not (if b then false else runs))
none_running p act rest true runs =
    elim (p act) as (λ x. (not x && (true || (not (list_any p rest) && not runs)))
    ≡ (not (x || list_any p []) && not false)) [
      | true ↦ refl
      | false ↦ refl
    ]
none_running p act rest false runs =
    elim (p act) as (λ x. (not x && (false || (not (list_any p rest) && not runs)))
    ≡ (not (x || list_any p rest) && not runs)) [
      | true ↦ refl
      | false ↦ refl
    ]

pub known_by_more : {X : Type 0} (begins : Beginning) (none : X) (first second : Option X)
    → known_more first (known_by begins none second) ≡ known_by begins none (or_else first second)
known_by_more begins none (Some x) second = refl
known_by_more begins none None second = refl

-- which types are enabled after one act more, from which were before it
pub known_enabled_more : (begins : Beginning) (effect_of : Command → Effect) (act : Act)
    (acts : List Act)
    → enabled_with (profile_of begins) effect_of act (known_enabled begins effect_of acts)
    ≡ known_enabled begins effect_of (act ∷ acts)
known_enabled_more begins effect_of act acts =
    let ends = disables (profile_of begins) effect_of in
    let rest = acts_from ends acts in
    let less = sym (runs_less begins ends act acts) in
    fun_ext (λ kind. any_running (λ a. enables kind (effect_by effect_of a)) act rest (ends act)
    (runs_on begins ends acts) (ltb kind 16)
    ∙ ap (λ r. list_any (λ a. enables kind (effect_by effect_of a))
    (act ∷ (if ends act then [] else rest)) || (r && ltb kind 16)) less)

-- what is known of what counts after one act more, from what was known before it
pub known_past_more : {M : Type 0} (begins : Beginning) (effect_of : Command → Effect)
    (parts_by : Act → List (Part M)) (act : Act) (acts : List Act)
    → known_past_with effect_of parts_by act (known_past begins effect_of parts_by acts)
    ≡ known_past begins effect_of parts_by (act ∷ acts)
known_past_more begins effect_of parts_by act acts =
    let powers = powers_on effect_of in
    let rest = acts_from powers acts in
    let less = sym (runs_less begins powers act acts) in
    same_known_past
    (none_running (λ a. has_reset (parts_by a)) act rest (powers act) (runs_on begins powers acts)
    ∙ ap (λ r. not (list_any (λ a. has_reset (parts_by a))
    (act ∷ (if powers act then [] else rest))) && not r) less)
    (known_by_more begins [] (unless_empty (kept_of (parts_by act))) (last_list parts_by acts))
