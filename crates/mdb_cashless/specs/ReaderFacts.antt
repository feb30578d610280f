-- What is known of a reader after a list of acts, the newest first (this profile).
use Rattle.std.specs.Prelude.{◌≡◌, ℕ, Bool, List, [], Option, Some, None, option_map, unwrap_or, if◌then◌else◌, map, ◌||◌}
use Rattle.mdb_msgs.specs.declared.command.Command.{Command}
use Rattle.mdb_msgs.specs.declared.command.ReaderCommand.{ReaderCommand}
use Rattle.mdb_msgs.specs.declared.command.ReaderCommand.TheVariants as reader
use Rattle.mdb_msgs.specs.declared.command.ReaderUnit.{ReaderUnit}
use Rattle.mdb_msgs.specs.declared.reply.reader.ReaderMsg.{ReaderMsg}
use Rattle.mdb_bus.specs.declared.act.Act.{Act}
use Rattle.mdb_bus.specs.declared.act.Act.TheVariants as acts
use Rattle.mdb_bus.specs.declared.scope.Beginning.{Beginning}
use Rattle.mdb_machine.specs.declared.kept.Part.{Part}
use Rattle.mdb_machine.specs.declared.past.Effect.{Effect}
use Rattle.mdb_machine.specs.declared.past.Effect.TheVariants as effects
use Rattle.mdb_machine.specs.Known.{Allows, Known, known_before, known_by}
use Rattle.mdb_machine.specs.Past.{AllowsPast, KnownPast, PastFacts, known_past, last_told, or_else, powers_on, taken_by}
use Rattle.mdb_msgs.specs.Setups.{config_known}
use Rattle.mdb_msgs.specs.declared.setups.ReaderConfig.{ReaderConfig}
use Rattle.mdb_cashless.specs.declared.reader.messages.ReaderActivity.{ReaderActivity}
use Rattle.mdb_cashless.specs.declared.reader.transaction.Transaction.{Transaction}
use Rattle.mdb_cashless.specs.ReaderMessages.{amount_in, begin_session, config_in, last_said, messages_of, part_of}
use Rattle.mdb_cashless.specs.Transactions.{transaction_of}
use Rattle.mdb_cashless.specs.Units.{own}

-- the messages of a reply, if it is this reader's
abbrev pub own_messages : ReaderUnit → Command → List ReaderMsg → List ReaderMsg
own_messages unit command messages =
    elim (own unit command) [ Some c ↦ messages | None ↦ [] ]

-- the messages that the reader tells by an act, heard or not
abbrev pub messages_by : ReaderUnit → Act → List ReaderMsg
messages_by unit (acts.Reply command reply) = own_messages unit command (messages_of reply)
messages_by unit act = []

-- the last config message and the last amount of a message 05 that the reader tells by an act
abbrev pub config_by : ReaderUnit → Act → Option ReaderConfig
config_by unit act = last_said config_in (messages_by unit act)

abbrev pub amount_by : ReaderUnit → Act → Option ℕ
amount_by unit act = last_said amount_in (messages_by unit act)

-- what they are to the reader that keeps some of them
abbrev pub parts_by : ReaderUnit → Act → List (Part ReaderActivity)
parts_by unit act = map part_of (messages_by unit act)

-- What a command is to the reader that takes it: its RESET, or nothing that counts for what it
-- keeps.
abbrev pub effect_of_own : Option ReaderCommand → Effect
effect_of_own (Some reader.Reset) = effects.Reset
effect_of_own command = effects.Other

abbrev pub effect_of : ReaderUnit → Command → Effect
effect_of unit command = effect_of_own (own unit command)

-- what a command is to this reader, if there is one
abbrev pub own_of : ReaderUnit → Option Command → Option ReaderCommand
own_of unit None = None
own_of unit (Some command) = own unit command

-- the transaction command to this reader that a command is
abbrev pub own_transaction : Option ReaderCommand → Option Transaction
own_transaction None = None
own_transaction (Some command) = transaction_of command

-- the transaction command that the controller sends by an act, and that the reader takes by it
abbrev pub asked_by : ReaderUnit → Act → Option Transaction
asked_by unit (acts.Ask command) = own_transaction (own unit command)
asked_by unit act = None

abbrev pub transaction_taken_by : ReaderUnit → Act → Option Transaction
transaction_taken_by unit act = own_transaction (own_of unit (taken_by act))

-- Whether there is no last transaction after an act: after a break, a RESET that the reader
-- takes, and a reply that begins a session, even if that reply takes a transaction command.
abbrev pub ends_transactions : ReaderUnit → Act → Bool
ends_transactions unit act =
    powers_on (effect_of unit) act || begin_session (messages_by unit act)

-- The facts. Breaks and RESETs leave the config message, the last transaction command sent, and the
-- amount.
pub record Facts : Type 0 where
  -- the last config message, of the last reply that has one
  pub config : Option ReaderConfig
  -- the last transaction command that the controller sent
  pub asked : Option Transaction
  -- the last transaction that the reader took; none after what ends them (`ends_transactions`)
  pub taken : Option Transaction
  -- the amount of the last message 05, of the last reply that has one; 0 where there was none
  pub amount : ℕ
  -- the reset message, and the last kept list
  pub past : PastFacts ReaderActivity

-- What an act tells of the last transaction that the reader took, if it tells something of it: that
-- there is none, or which one it is.
abbrev pub taken_told : ReaderUnit → Act → Option (Option Transaction)
taken_told unit act =
    if ends_transactions unit act then Some None
    else option_map (λ transaction. Some transaction) (transaction_taken_by unit act)

-- What is known of the last transaction that the reader took: in a recording that begins in
-- mid-session nothing, until an act tells something of it.
abbrev pub known_taken : Beginning → ReaderUnit → List Act → Known (Option Transaction)
known_taken begins unit acts = known_by begins None (last_told (taken_told unit) acts)

-- What is known of the facts, where a recording may begin in mid-session.
pub record KnownFacts : Type 0 where
  pub config : Option ReaderConfig
  pub asked : Known (Option Transaction)
  pub taken : Known (Option Transaction)
  -- none, where there was no message 05
  pub amount : Option ℕ
  pub past : KnownPast ReaderActivity

-- what is known of them after acts: the config message may be known from elsewhere
abbrev pub known_of : Beginning → ReaderUnit → List Act → KnownFacts
known_of begins unit acts =
    record {
      config = or_else (last_told (config_by unit) acts)
          (known_before (λ setups. config_known setups unit) begins);
      asked = known_by begins None
          (option_map (λ transaction. Some transaction) (last_told (asked_by unit) acts));
      taken = known_taken begins unit acts;
      amount = last_told (amount_by unit) acts;
      past = known_past begins (effect_of unit) (parts_by unit) acts;
    }

-- Facts that may be, where this is known and the reader holds messages or holds none. An amount
-- that isn't known counts as 0.
pub record AllowsFacts (known : KnownFacts) (holds : Bool) (facts : Facts) : Type 0 where
  pub config : facts.config ≡ known.config
  pub asked : Allows known.asked facts.asked
  pub taken : Allows known.taken facts.taken
  pub amount : facts.amount ≡ unwrap_or known.amount 0
  pub past : AllowsPast known.past holds facts.past
