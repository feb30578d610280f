-- The lines that `show` writes of a transcript, as JSON: each is an object, whose members stand in
-- the order of their names (this profile).
use Rattle.std.specs.Prelude.{◌/◌, ◌%◌, ℕ, true, List, [], ◌∷◌, codes}
use Rattle.std.specs.Fmt.{digit_glyph}
use Rattle.serde_json.specs.Data.{Data, Members, number, string, object, member, no_members, unsigned}
use Rattle.serde_json.specs.Written.{compact_text}
use Rattle.mdb_words.specs.Block.{block_of}
use Rattle.mdb_msgs.specs.declared.command.Command.{Command}
use Rattle.mdb_msgs.specs.Commands.{command_bytes, device_of}
use Rattle.mdb_msgs.specs.Devices.{device_word}
use Rattle.mdb_msgs.specs.Replies.{reply_bytes}
use Rattle.mdb_bus.specs.declared.act.Act.{Act}
use Rattle.mdb_bus.specs.declared.act.Act.TheVariants as acts
use Rattle.mdb_bus.specs.declared.fault.LinkFault.{LinkFault}
use Rattle.mdb_bus.specs.FaultWords.{blame_word, rule_word}
use Rattle.mdb_show.specs.Lines.{LineForm}
use Rattle.mdb_show.specs.ShowText.{bytes_text}
use Rattle.mdb_text.specs.Text.{line}

-- the bytes of a block, each as two hexadecimal digits, one blank apart
abbrev pub hex_text : List ℕ → List ℕ
hex_text [] = []
hex_text (byte ∷ bytes) =
    digit_glyph true (byte / 16) ∷ digit_glyph true (byte % 16) ∷ bytes_text bytes

-- what was done, before its other members
abbrev pub deed_data : List ℕ → Members → Data
deed_data word members = object (member (codes "act") (string word) members)

-- the first row and the last
abbrev pub rows_members : ℕ → ℕ → Members → Members
rows_members first last members = member (codes "first") (number (unsigned first))
    (member (codes "last") (number (unsigned last)) members)

-- whose command it was, and the rows
abbrev pub device_members : Command → ℕ → ℕ → Members
device_members command first last =
    member (codes "device") (string (device_word (device_of command)))
    (rows_members first last no_members)

-- the bytes of a block with its sum, whose command it was, and the rows
abbrev pub block_members : List ℕ → Command → ℕ → ℕ → Members
block_members content command first last =
    member (codes "bytes") (string (hex_text (block_of content)))
    (device_members command first last)

-- what was done on the bus, with its first row and its last
abbrev pub act_data : ℕ → ℕ → Act → Data
act_data first last (acts.Ask command) =
    deed_data (codes "ask") (block_members (command_bytes command) command first last)
act_data first last (acts.Ack command) =
    deed_data (codes "ack") (device_members command first last)
act_data first last (acts.Nak command) =
    deed_data (codes "nak") (device_members command first last)
act_data first last (acts.Reply command reply) =
    deed_data (codes "reply") (block_members (reply_bytes reply) command first last)
act_data first last (acts.VmcAck command reply) =
    deed_data (codes "vmc-ack") (device_members command first last)
act_data first last (acts.VmcNak command reply) =
    deed_data (codes "vmc-nak") (device_members command first last)
act_data first last (acts.VmcRet command reply) =
    deed_data (codes "vmc-ret") (device_members command first last)
act_data first last (acts.Repeat command reply) =
    deed_data (codes "repeat") (block_members (reply_bytes reply) command first last)
act_data first last acts.Foreign = deed_data (codes "foreign") (rows_members first last no_members)
act_data first last (acts.Break length) = deed_data (codes "break")
    (rows_members first last (member (codes "length") (number (unsigned length)) no_members))

-- a tail that was cut
abbrev pub cut_data : ℕ → ℕ → Data
cut_data first last = deed_data (codes "cut") (rows_members first last no_members)

-- a row that cannot be
abbrev pub fault_data : ℕ → LinkFault → Data
fault_data row fault = deed_data (codes "fault")
    (member (codes "blame") (string (blame_word fault.blame))
    (member (codes "row") (number (unsigned row))
    (member (codes "rule") (string (rule_word fault.rule)) no_members)))

-- the lines of `show` as JSON
abbrev pub json_lines : LineForm
json_lines = record {
  act = λ first last act. line (compact_text (act_data first last act));
  cut = λ first last. line (compact_text (cut_data first last));
  fault = λ row fault. line (compact_text (fault_data row fault));
}
