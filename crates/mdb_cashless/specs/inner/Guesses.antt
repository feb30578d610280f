-- Facts with guesses of what may not be known. This serves private functions.
use Rattle.std.specs.Prelude.{Bool, List, Option, unwrap_or}
use Rattle.mdb_msgs.specs.declared.command.ReaderCommand.{ReaderCommand}
use Rattle.mdb_msgs.specs.declared.reply.Reply.{Reply}
use Rattle.mdb_machine.specs.declared.choice.Choice.{Choice}
use Rattle.mdb_machine.specs.declared.gains.Gains.{Gains}
use Rattle.mdb_machine.specs.Known.{AllowsKept, Known}
use Rattle.mdb_cashless.specs.declared.reader.messages.ReaderActivity.{ReaderActivity}
use Rattle.mdb_cashless.specs.declared.reader.state.ReaderState.{ReaderState}
use Rattle.mdb_cashless.specs.declared.reader.transaction.Transaction.{Transaction}
use Rattle.mdb_cashless.specs.declared.reader.transaction.Transaction.TheVariants.{Request}
use Rattle.mdb_cashless.specs.Reader.{ReplyStep}
use Rattle.mdb_cashless.specs.ReaderFacts.{AllowsFacts, Facts, KnownFacts}

-- facts with another last kept list
abbrev pub keeping : Facts → List ReaderActivity → Facts
keeping facts kept = record facts { past = record facts.past { last_kept = kept } }

-- The guess that a command is again the last transaction that was asked or taken. Where it is no
-- transaction command, the guess is a VEND REQUEST, which a message 05 needs.
abbrev pub again : Option Transaction → Transaction
again its = unwrap_or its (Request 0 0)

-- something holds of some facts that may be
abbrev pub OfSome : KnownFacts → Bool → (Facts → Type 0) → Type 0
OfSome known holds Holds = (facts : Facts) × AllowsFacts known holds facts × Holds facts

-- a reply is a step with some last kept list that may be, where this is known of it
abbrev pub IsReplyKeeping : Facts → Known (List ReaderActivity) → ReaderCommand → Reply → Choice
    → ReaderState → ReaderState → Gains → Type 0
IsReplyKeeping facts known command reply choice before after gains =
    (last : List ReaderActivity) × AllowsKept known before.holds last
    × ReplyStep (keeping facts last) command reply choice before after gains
