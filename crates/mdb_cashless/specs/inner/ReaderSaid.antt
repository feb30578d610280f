-- What the code finds in a reader's messages: it serves private functions.
use Rattle.std.specs.Prelude.{◌≡◌, Bool, List, map}
use Rattle.std.specs.List.{list_any}
use Rattle.std.specs.Option.{is_some}
use Rattle.mdb_msgs.specs.declared.reply.reader.ReaderMsg.{ReaderMsg}
use Rattle.mdb_machine.specs.Kept.{kept_by}
use Rattle.mdb_machine.specs.PastValues.{IsSummary}
use Rattle.mdb_machine.specs.Past.{is_out_of_sequence}
use Rattle.mdb_cashless.specs.declared.reader.messages.Said.{Said}
use Rattle.mdb_cashless.specs.ReaderMessages.{amount_in, begin_session, config_in, last_said, part_of}

-- whether the reader keeps one of some messages
abbrev pub keeps_some : List ReaderMsg → Bool
keeps_some messages = list_any (λ message. is_some (kept_by (part_of message))) messages

-- what messages say is this
pub record IsSaid (said : Said) (messages : List ReaderMsg) : Type 0 where
  pub summary_is : IsSummary said.summary.kept.items said.summary.reset said.summary.early
      (map part_of messages)
  pub config_is : said.config ≡ last_said config_in messages
  pub amount_is : said.amount ≡ last_said amount_in messages
  pub begins_is : said.begins ≡ begin_session messages
  pub refused_is : said.refused ≡ list_any is_out_of_sequence messages
