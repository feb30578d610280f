-- What counts of the acts so far, for every device (this profile). Lists of acts are written newest
-- first.
use Rattle.std.specs.Prelude.{◌≡◌, Bool, true, false, not, ◌&&◌, List, [], ◌∷◌, Option, Some, None, if◌then◌else◌, unwrap_or}
use Rattle.std.specs.List.{list_any}
use Rattle.mdb_msgs.specs.declared.command.Command.{Command}
use Rattle.mdb_msgs.specs.declared.reply.Reply.{Reply}
use Rattle.mdb_msgs.specs.declared.reply.Reply.TheVariants as replies
use Rattle.mdb_msgs.specs.declared.reply.reader.ReaderMsg.{ReaderMsg}
use Rattle.mdb_msgs.specs.declared.reply.reader.ReaderMsg.TheVariants as messages
use Rattle.mdb_bus.specs.declared.act.Act.{Act}
use Rattle.mdb_bus.specs.declared.act.Act.TheVariants as acts
use Rattle.mdb_bus.specs.declared.scope.Beginning.{Beginning}
use Rattle.mdb_bus.specs.declared.scope.Beginning.TheVariants.{PowerOn, Joined}
use Rattle.mdb_machine.specs.declared.kept.Part.{Part}
use Rattle.mdb_machine.specs.declared.past.Effect.{Effect}
use Rattle.mdb_machine.specs.declared.past.Effect.TheVariants as effects
use Rattle.mdb_machine.specs.Kept.{has_reset, kept_of}
use Rattle.mdb_machine.specs.Known.{AllowsKept, Known, known_by}

-- whether a message is a reader's 0B, with a status or without one: the command came out of
-- sequence
abbrev pub is_out_of_sequence : ReaderMsg → Bool
is_out_of_sequence messages.OutOfSequence = true
is_out_of_sequence (messages.OutOfSequenceIn status) = true
is_out_of_sequence _ = false

-- whether a reply says so
abbrev pub tells_out_of_sequence : Reply → Bool
tells_out_of_sequence (replies.Reader list) = list_any is_out_of_sequence list.messages
tells_out_of_sequence _ = false

-- The command that a device takes by an act: it answers by ACK, or by data in which no reader says
-- that the command is out of sequence. NAK and silence take nothing.
abbrev pub taken_by : Act → Option Command
taken_by (acts.Ack command) = Some command
taken_by (acts.Reply command reply) =
    if tells_out_of_sequence reply then None else Some command
taken_by _ = None

-- what the first tells, or where it tells nothing the second
abbrev pub or_else : {X : Type 0} → Option X → Option X → Option X
or_else (Some x) other = Some x
or_else None other = other

-- what the last act tells that tells something of a kind
abbrev pub last_told : {X : Type 0} → (Act → Option X) → List Act → Option X
last_told tells [] = None
last_told tells (act ∷ acts) = or_else (tells act) (last_told tells acts)

-- the last act that passes a test, and the acts after it; all acts where none passes
abbrev pub acts_from : (Act → Bool) → List Act → List Act
acts_from passes [] = []
acts_from passes (act ∷ acts) = act ∷ (if passes act then [] else acts_from passes acts)

-- what a command is, if there is one
abbrev pub effect_taken : {Own : Type 0} → (Own → Effect) → Option Own → Effect
effect_taken effect_of (Some command) = effect_of command
effect_taken effect_of None = effects.Other

-- what the command is that a device takes by an act; `effect_of` says what each command is to it
abbrev pub effect_by : (Command → Effect) → Act → Effect
effect_by effect_of act = effect_taken effect_of (taken_by act)

-- whether a command puts its device into its power-on state
abbrev pub resets : Effect → Bool
resets effects.Reset = true
resets _ = false

-- whether an act puts a device into its power-on state: a break, or a RESET that it takes
abbrev pub powers_on : (Command → Effect) → Act → Bool
powers_on effect_of (acts.Break length) = true
powers_on effect_of act = resets (effect_by effect_of act)

-- a list, if it isn't empty
abbrev pub unless_empty : {X : Type 0} → List X → Option (List X)
unless_empty [] = None
unless_empty (x ∷ xs) = Some (x ∷ xs)

-- What counts of the acts so far for a device that keeps messages. Breaks and RESETs leave the kept
-- list.
pub record PastFacts (M : Type 0) : Type 0 where
  -- a reset message is owed where no reply has had one since the last break, or the last RESET that
  -- the device took
  pub reset_owed : Bool
  -- the last kept list that wasn't empty; empty where there was none
  pub last_kept : List M

-- what counts of acts; `parts_by` says which messages of the device an act tells
abbrev pub past_of : {M : Type 0} → (Command → Effect) → (Act → List (Part M)) → List Act
    → PastFacts M
past_of effect_of parts_by acts =
    record {
      reset_owed = not (list_any (λ act. has_reset (parts_by act))
          (acts_from (powers_on effect_of) acts));
      last_kept = unwrap_or (last_told (λ act. unless_empty (kept_of (parts_by act))) acts) [];
    }

-- the last kept list that acts tell, if they tell one that isn't empty
abbrev pub last_list : {M : Type 0} → (Act → List (Part M)) → List Act → Option (List M)
last_list parts_by acts = last_told (λ act. unless_empty (kept_of (parts_by act))) acts

-- What is known of what counts, where a recording may begin in mid-session.
pub record KnownPast (M : Type 0) : Type 0 where
  pub reset_owed : Bool
  pub last_kept : Known (List M)

-- whether a device runs on as it did before a recording in mid-session: no act that passes a test
-- has ended this since
abbrev pub runs_on : Beginning → (Act → Bool) → List Act → Bool
runs_on (PowerOn profile) ends acts = false
runs_on (Joined setups profile) ends acts = not (list_any ends acts)

-- While the device runs on, no reset message is owed. Its last kept list is known once it has told
-- one.
abbrev pub known_past : {M : Type 0} → Beginning → (Command → Effect) → (Act → List (Part M))
    → List Act → KnownPast M
known_past begins effect_of parts_by acts =
    record {
      reset_owed = (past_of effect_of parts_by acts).reset_owed
          && not (runs_on begins (powers_on effect_of) acts);
      last_kept = known_by begins [] (last_list parts_by acts);
    }

-- what may count, where this is known and the device holds messages or holds none
pub record AllowsPast {M : Type 0} (known : KnownPast M) (holds : Bool) (past : PastFacts M)
    : Type 0 where
  pub reset_owed : past.reset_owed ≡ known.reset_owed
  pub last_kept : AllowsKept known.last_kept holds past.last_kept
