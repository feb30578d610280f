-- How the code keeps a reader's facts, and what is known of them. `known_in` says what a value of
-- what is known stands for; the rest serves private functions.
use Rattle.std.specs.Prelude.{Bool, true, false, ◌&&◌, ◌||◌, not, ℕ, List, Some, None, option_map, unwrap_or, if◌then◌else◌, map, Option, [], ◌∷◌}
use Rattle.std.specs.Option.{is_none}
use Rattle.mdb_msgs.specs.declared.command.ReaderCommand.{ReaderCommand}
use Rattle.mdb_msgs.specs.declared.command.ReaderCommand.TheVariants as reader
use Rattle.mdb_msgs.specs.declared.command.ReaderUnit.{ReaderUnit}
use Rattle.mdb_msgs.specs.declared.reply.Reply.{Reply}
use Rattle.mdb_msgs.specs.declared.reply.reader.ReaderMsg.{ReaderMsg}
use Rattle.mdb_msgs.specs.declared.setups.ReaderConfig.{ReaderConfig}
use Rattle.mdb_bus.specs.declared.act.Act.{Act}
use Rattle.mdb_bus.specs.declared.act.Act.TheVariants as acts
use Rattle.mdb_machine.specs.PastValues.{if_known, known_past_with, past_after, past_in, past_known, past_with}
use Rattle.mdb_machine.specs.KnownMore.{known_more}
use Rattle.mdb_machine.specs.Past.{PastFacts, or_else, resets, tells_out_of_sequence, last_told, past_of}
use Rattle.mdb_cashless.specs.declared.reader.facts.ReaderFacts.{ReaderFacts}
use Rattle.mdb_cashless.specs.declared.reader.known.ReaderKnown.{ReaderKnown}
use Rattle.mdb_cashless.specs.declared.reader.messages.ReaderActivity.{ReaderActivity}
use Rattle.mdb_cashless.specs.declared.reader.transaction.Transaction.{Transaction}
use Rattle.mdb_cashless.specs.Reader.{drops}
use Rattle.mdb_cashless.specs.ReaderFacts.{Facts, KnownFacts, amount_by, asked_by, config_by, effect_of, effect_of_own, ends_transactions, own_transaction, parts_by, taken_told, transaction_taken_by}
use Rattle.mdb_cashless.specs.ReaderMessages.{amount_in, begin_session, config_in, last_said, messages_of, part_of}
use Rattle.mdb_cashless.specs.Transactions.{transaction_of}
use Rattle.mdb_cashless.specs.Units.{own}

-- the facts that are kept: an amount that wasn't told counts as 0
abbrev pub facts_in : ReaderFacts → Facts
facts_in facts =
    record {
      config = facts.config;
      asked = facts.asked;
      taken = facts.taken;
      amount = unwrap_or facts.amount 0;
      past = past_in facts.past;
    }

-- what is known of the facts
abbrev pub known_in : ReaderKnown → KnownFacts
known_in known =
    record {
      config = known.facts.config;
      asked = if_known known.knows_asked known.facts.asked;
      taken = if_known known.knows_taken known.facts.taken;
      amount = known.facts.amount;
      past = past_known known.knows_kept known.facts.past;
    }

-- what is known after one act more
abbrev pub known_with : ReaderUnit → Act → KnownFacts → KnownFacts
known_with unit act known =
    record {
      config = or_else (config_by unit act) known.config;
      asked = known_more (option_map (λ transaction. Some transaction) (asked_by unit act))
          known.asked;
      taken = known_more (taken_told unit act) known.taken;
      amount = or_else (amount_by unit act) known.amount;
      past = known_past_with (effect_of unit) (parts_by unit) act known.past;
    }

-- Whether what is known settles an act: an ask of a transaction command, where the last one that
-- was asked is known, an ACK to one, where the last one that the reader took is, and a reply, where
-- the last kept list is too. All other acts it settles.
abbrev pub settled : ReaderUnit → ReaderKnown → Act → Bool
settled unit known (acts.Ask command) =
    known.knows_asked || is_none (own_transaction (own unit command))
settled unit known (acts.Ack command) =
    known.knows_taken || is_none (own_transaction (own unit command))
settled unit known (acts.Reply command reply) =
    (known.knows_taken && known.knows_kept) || is_none (own unit command)
settled unit known act = true

-- the facts as acts tell them: there may be no amount yet
pub record ToldFacts : Type 0 where
  pub config : Option ReaderConfig
  pub asked : Option Transaction
  pub taken : Option Transaction
  pub amount : Option ℕ
  pub past : PastFacts ReaderActivity

abbrev pub told_in : ReaderFacts → ToldFacts
told_in facts =
    record {
      config = facts.config;
      asked = facts.asked;
      taken = facts.taken;
      amount = facts.amount;
      past = past_in facts.past;
    }

-- they after one act more
abbrev pub told_with : ReaderUnit → Act → ToldFacts → ToldFacts
told_with unit act facts =
    record {
      config = or_else (config_by unit act) facts.config;
      asked = or_else (asked_by unit act) facts.asked;
      taken = if ends_transactions unit act then None
          else or_else (transaction_taken_by unit act) facts.taken;
      amount = or_else (amount_by unit act) facts.amount;
      past = past_with (effect_of unit) (parts_by unit) act facts.past;
    }

-- the last transaction after a command that is taken
abbrev pub last_after : ReaderCommand → Option Transaction → Option Transaction
last_after reader.Reset last = None
last_after command last = or_else (transaction_of command) last

-- the facts after a command that is taken, if one is
abbrev pub taken : Option ReaderCommand → ToldFacts → ToldFacts
taken None facts = facts
taken (Some command) facts =
    record facts {
      taken = last_after command facts.taken;
      past = past_after (resets (effect_of_own (Some command))) [] facts.past;
    }

-- the facts after a break
abbrev pub powered : ToldFacts → ToldFacts
powered facts = record facts { taken = None; past = past_after true [] facts.past }

-- the facts after the messages of a reply
abbrev pub told : List ReaderMsg → ToldFacts → ToldFacts
told messages facts =
    record facts {
      config = or_else (last_said config_in messages) facts.config;
      taken = if begin_session messages then None else facts.taken;
      amount = or_else (last_said amount_in messages) facts.amount;
      past = past_after false (map part_of messages) facts.past;
    }

-- whether the controller's view may change after a command that it sends
abbrev pub changes_view : ReaderCommand → Bool
changes_view reader.Reset = true
changes_view command = elim (transaction_of command) [ Some transaction ↦ true | None ↦ false ]

-- whether a reply to a command tells something of the last transaction that the reader took
abbrev pub tells_taken : ReaderCommand → Reply → Bool
tells_taken command reply = begin_session (messages_of reply)
    || (not (tells_out_of_sequence reply) && drops command)

-- the last transaction that the reader took
abbrev pub last_taken : ReaderUnit → List Act → Option Transaction
last_taken unit [] = None
last_taken unit (act ∷ acts) =
    if ends_transactions unit act then None
    else or_else (transaction_taken_by unit act) (last_taken unit acts)

-- the facts after acts
abbrev pub facts_of : ReaderUnit → List Act → Facts
facts_of unit acts =
    record {
      config = last_told (config_by unit) acts;
      asked = last_told (asked_by unit) acts;
      taken = last_taken unit acts;
      amount = unwrap_or (last_told (amount_by unit) acts) 0;
      past = past_of (effect_of unit) (parts_by unit) acts;
    }
