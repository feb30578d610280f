-- How the code keeps the facts of a device that keeps messages. `facts_in` says what a value of
-- facts stands for; the rest serves private functions.
use Rattle.std.specs.Prelude.{ℕ, Bool, true, false, ◌==◌, ◌&&◌, ◌||◌, [], Some, if◌then◌else◌, option_and_then, option_map, List}
use Rattle.std.specs.Int.{bit_at}
use Rattle.std.specs.Option.{is_none}
use Rattle.mdb_msgs.specs.declared.command.Command.{Command}
use Rattle.mdb_msgs.specs.declared.reply.Reply.{Reply}
use Rattle.mdb_bus.specs.declared.act.Act.{Act}
use Rattle.mdb_bus.specs.declared.act.Act.TheVariants as acts
use Rattle.mdb_bus.specs.declared.scope.Profile.{Profile}
use Rattle.mdb_machine.specs.declared.past.Effect.{Effect}
use Rattle.mdb_machine.specs.declared.keeper.KeeperFacts.{KeeperFacts}
use Rattle.mdb_machine.specs.declared.keeper.KeeperKnown.{KeeperKnown}
use Rattle.mdb_machine.specs.Enabled.{enables, ends_types, enabled_of}
use Rattle.mdb_machine.specs.Keeper.{Facts, KnownFacts, Tables, asked_by, effect_of, parts_by, setup_by}
use Rattle.mdb_machine.specs.Past.{effect_by, or_else, powers_on, resets, last_told, past_of}
use Rattle.mdb_machine.specs.PastValues.{effect_answered, if_known, known_past_with, past_after, past_in, past_known, past_with}
use Rattle.mdb_machine.specs.KnownMore.{known_more}

-- the facts that are kept
abbrev pub facts_in : {K Own Setup Asked M Message : Type 0}
    → KeeperFacts K Own Setup Asked M Message → Facts Setup Asked M
facts_in facts =
    record {
      setup = facts.setup;
      last_asked = facts.last_asked;
      enabled = λ kind. bit_at facts.enabled kind == 1;
      past = past_in facts.past;
    }

-- the types that are enabled after one act more, which puts the device into its power-on state or
-- doesn't, and by which it takes a command or doesn't
abbrev pub enabled_after : Profile → Bool → Effect → (ℕ → Bool) → ℕ → Bool
enabled_after profile powers effect enabled kind =
    enables kind effect || (if powers && ends_types profile then false else enabled kind)

-- and after one act more
abbrev pub enabled_with : Profile → (Command → Effect) → Act → (ℕ → Bool) → ℕ → Bool
enabled_with profile effect_of act =
    enabled_after profile (powers_on effect_of act) (effect_by effect_of act)

-- the facts after a command that the device takes
abbrev pub facts_taken : {Setup Asked M : Type 0} → Profile → Effect → Facts Setup Asked M
    → Facts Setup Asked M
facts_taken profile effect facts =
    record facts {
      enabled = enabled_after profile (resets effect) effect facts.enabled;
      past = past_after (resets effect) [] facts.past;
    }

-- the facts after one act more
abbrev pub facts_with : {Own Setup Asked M : Type 0} → Tables Own Setup Asked M → Profile → Act
    → Facts Setup Asked M → Facts Setup Asked M
facts_with tables profile act facts =
    record {
      setup = or_else (setup_by tables act) facts.setup;
      last_asked = or_else (asked_by tables act) facts.last_asked;
      enabled = enabled_with profile (effect_of tables) act facts.enabled;
      past = past_with (effect_of tables) (parts_by tables) act facts.past;
    }

-- the facts after a reply of the device to its command
abbrev pub facts_told : {Own Setup Asked M : Type 0} → Tables Own Setup Asked M → Profile → Own
    → Reply → Facts Setup Asked M → Facts Setup Asked M
facts_told tables profile command reply facts =
    let effect = effect_answered (tables.effect_of command) reply in
    record {
      setup = or_else (tables.setup_of reply) facts.setup;
      last_asked = facts.last_asked;
      enabled = enabled_after profile (resets effect) effect facts.enabled;
      past = past_after (resets effect) (tables.parts_of reply) facts.past;
    }

-- what is known of the facts
abbrev pub known_in : {K Own Setup Asked M Message : Type 0}
    → KeeperKnown K Own Setup Asked M Message → KnownFacts Setup Asked M
known_in known =
    record {
      setup = known.facts.setup;
      last_asked = if_known known.knows_asked known.facts.last_asked;
      profile = known.profile;
      enabled = λ kind. bit_at known.facts.enabled kind == 1;
      past = past_known known.knows_kept known.facts.past;
    }

-- what is known after one act more
abbrev pub known_with : {Own Setup Asked M : Type 0} → Tables Own Setup Asked M → Act
    → KnownFacts Setup Asked M → KnownFacts Setup Asked M
known_with tables act known =
    record {
      setup = or_else (setup_by tables act) known.setup;
      last_asked = known_more (option_map (λ asked. Some asked) (asked_by tables act))
          known.last_asked;
      profile = known.profile;
      enabled = enabled_with known.profile (effect_of tables) act known.enabled;
      past = known_past_with (effect_of tables) (parts_by tables) act known.past;
    }

-- Whether what is known settles an act: an ask of what counts, where it is known what was asked
-- last, and a reply, where the last kept list is known. All other acts it settles.
abbrev pub settled : {Own Setup Asked M : Type 0} → Tables Own Setup Asked M → Bool → Bool → Act
    → Bool
settled tables knows_asked knows_kept (acts.Ask command) =
    knows_asked || is_none (option_and_then tables.asked_of (tables.own command))
settled tables knows_asked knows_kept (acts.Reply command reply) =
    knows_kept || is_none (tables.own command)
settled tables knows_asked knows_kept act = true

-- the facts after acts
abbrev pub facts_of : {Own Setup Asked M : Type 0} → Tables Own Setup Asked M → Profile → List Act
    → Facts Setup Asked M
facts_of tables profile acts =
    record {
      setup = last_told (setup_by tables) acts;
      last_asked = last_told (asked_by tables) acts;
      enabled = enabled_of profile (effect_of tables) acts;
      past = past_of (effect_of tables) (parts_by tables) acts;
    }
