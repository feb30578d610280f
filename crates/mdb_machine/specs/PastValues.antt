-- What counts of the acts so far, act by act: of no act, and after one act more; and what of it a
-- value of `Past` stands for. The public functions of `Past` say by this what they do.
use Rattle.std.specs.Prelude.{ℕ, Bool, true, false, not, ◌&&◌, ◌||◌, List, [], unwrap_or, ◌≡◌, if◌then◌else◌}
use Rattle.mdb_msgs.specs.declared.command.Command.{Command}
use Rattle.mdb_bus.specs.declared.act.Act.{Act}
use Rattle.mdb_bus.specs.declared.scope.Beginning.{Beginning}
use Rattle.mdb_bus.specs.declared.scope.Beginning.TheVariants.{PowerOn, Joined}
use Rattle.mdb_machine.specs.declared.kept.Part.{Part}
use Rattle.mdb_machine.specs.declared.past.Effect.{Effect}
use Rattle.mdb_machine.specs.declared.past.Past.{Past}
use Rattle.mdb_machine.specs.Kept.{has_reset, kept_of, keeps_early}
use Rattle.mdb_machine.specs.Known.{Known, Unknown, Is}
use Rattle.mdb_machine.specs.Past.{KnownPast, PastFacts, powers_on, unless_empty, tells_out_of_sequence}
use Rattle.mdb_msgs.specs.declared.reply.Reply.{Reply}
use Rattle.mdb_machine.specs.declared.past.Effect.TheVariants as effects
use Rattle.mdb_machine.specs.KnownMore.{known_more}

-- what counts of no act
abbrev pub no_past : {M : Type 0} → PastFacts M
no_past = record { reset_owed = true; last_kept = [] }

-- what is known of no act of a device that runs on: its last kept list isn't, and is irrelevant
abbrev pub running_past : {M : Type 0} → PastFacts M
running_past = record { reset_owed = false; last_kept = [] }

-- and of no act, where a recording begins so
abbrev pub first_past : {M : Type 0} → Beginning → PastFacts M
first_past (PowerOn profile) = no_past
first_past (Joined setups profile) = running_past

-- what is kept
abbrev pub past_in : {M : Type 0} {CAP : ℕ} → Past M CAP → PastFacts M
past_in past = record { reset_owed = past.reset_owed; last_kept = past.last_kept.items }

-- what counts after one act more, which puts the device into its power-on state or doesn't, and
-- which tells messages or doesn't
abbrev pub past_after : {M : Type 0} → Bool → List (Part M) → PastFacts M → PastFacts M
past_after powers parts past =
    record {
      reset_owed = not (has_reset parts) && (powers || past.reset_owed);
      last_kept = unwrap_or (unless_empty (kept_of parts)) past.last_kept;
    }

-- what counts after one act more
abbrev pub past_with : {M : Type 0} → (Command → Effect) → (Act → List (Part M)) → Act
    → PastFacts M → PastFacts M
past_with effect_of parts_by act past =
    past_after (powers_on effect_of act) (parts_by act) past

-- whether all is known of no act
abbrev pub from_power_on : Beginning → Bool
from_power_on (PowerOn profile) = true
from_power_on (Joined setups profile) = false

-- what is kept, if it is known
abbrev pub if_known : {X : Type 0} → Bool → X → Known X
if_known true x = Is x
if_known false x = Unknown

-- what is known of what counts, where a value has it, and the last kept list is known or isn't
abbrev pub past_known : {M : Type 0} {CAP : ℕ} → Bool → Past M CAP → KnownPast M
past_known knows past =
    record {
      reset_owed = past.reset_owed;
      last_kept = if_known knows past.last_kept.items;
    }

-- what is known after one act more, as `past_after` has what counts
abbrev pub known_past_after : {M : Type 0} → Bool → List (Part M) → KnownPast M → KnownPast M
known_past_after powers parts past =
    record {
      reset_owed = not (has_reset parts) && (powers || past.reset_owed);
      last_kept = known_more (unless_empty (kept_of parts)) past.last_kept;
    }

abbrev pub known_past_with : {M : Type 0} → (Command → Effect) → (Act → List (Part M)) → Act
    → KnownPast M → KnownPast M
known_past_with effect_of parts_by act past =
    known_past_after (powers_on effect_of act) (parts_by act) past

-- what counts of the messages of a reply
pub record IsSummary {M : Type 0} (kept : List M) (reset early : Bool)
    (parts : List (Part M)) : Type 0 where
  pub kept_is : kept ≡ kept_of parts
  pub reset_is : reset ≡ has_reset parts
  pub early_is : early ≡ keeps_early parts

-- what a command is to its device where an answer tells whether it is taken
abbrev pub effect_answered : Effect → Reply → Effect
effect_answered effect reply = if tells_out_of_sequence reply then effects.Other else effect
