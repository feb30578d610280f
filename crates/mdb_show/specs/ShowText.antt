-- The lines that `show` writes of a transcript, as text: one for each act, each tail and the fault
-- (this profile).
use Rattle.std.specs.Prelude.{◌/◌, ◌%◌, ℕ, true, List, [], ◌∷◌, ◌++◌, codes}
use Rattle.std.specs.Fmt.{decimal, digit_glyph}
use Rattle.mdb_words.specs.Block.{block_of}
use Rattle.mdb_msgs.specs.declared.command.Command.{Command}
use Rattle.mdb_msgs.specs.Commands.{command_bytes, device_of}
use Rattle.mdb_msgs.specs.Devices.{device_word}
use Rattle.mdb_msgs.specs.Replies.{reply_bytes}
use Rattle.mdb_bus.specs.declared.act.Act.{Act}
use Rattle.mdb_bus.specs.declared.act.Act.TheVariants as acts
use Rattle.mdb_bus.specs.declared.fault.LinkFault.{LinkFault}
use Rattle.mdb_bus.specs.FaultWords.{blame_word, rule_word}
use Rattle.mdb_bus.specs.ActLists.{Piece}
use Rattle.mdb_show.specs.Lines.{LineForm, lines_of}
use Rattle.mdb_text.specs.Text.{line}

-- the bytes of a block, each as a space and two hexadecimal digits
abbrev pub bytes_text : List ℕ → List ℕ
bytes_text [] = []
bytes_text (byte ∷ bytes) =
    32 ∷ digit_glyph true (byte / 16) ∷ digit_glyph true (byte % 16) ∷ bytes_text bytes

-- the word of an act, and the device of its command
abbrev pub deed_text : List ℕ → Command → List ℕ
deed_text deed command = deed ++ device_word (device_of command)

-- what was done on the bus; blocks stand with their sums
abbrev pub act_text : Act → List ℕ
act_text (acts.Ask command) =
    deed_text (codes "ask ") command ++ bytes_text (block_of (command_bytes command))
act_text (acts.Ack command) = deed_text (codes "ack ") command
act_text (acts.Nak command) = deed_text (codes "nak ") command
act_text (acts.Reply command reply) =
    deed_text (codes "reply ") command ++ bytes_text (block_of (reply_bytes reply))
act_text (acts.VmcAck command reply) = deed_text (codes "vmc-ack ") command
act_text (acts.VmcNak command reply) = deed_text (codes "vmc-nak ") command
act_text (acts.VmcRet command reply) = deed_text (codes "vmc-ret ") command
act_text (acts.Repeat command reply) =
    deed_text (codes "repeat ") command ++ bytes_text (block_of (reply_bytes reply))
act_text acts.Foreign = codes "foreign"
act_text (acts.Break length) = codes "break " ++ decimal length

-- the rows that a line tells of, from the first to the last
abbrev pub rows_text : ℕ → ℕ → List ℕ
rows_text first last = decimal first ++ codes "-" ++ decimal last ++ codes " "

-- the line that tells of them, with these words after them
abbrev pub rows_line : ℕ → ℕ → List ℕ → List ℕ
rows_line first last words = line (rows_text first last ++ words)

-- the line of a row that cannot be
abbrev pub fault_line : ℕ → LinkFault → List ℕ
fault_line row fault =
    line (codes "fault " ++ decimal row ++ codes " " ++ rule_word fault.rule ++ codes " "
    ++ blame_word fault.blame)

-- the lines of `show`
abbrev pub text_lines : LineForm
text_lines = record {
  act = λ first last act. rows_line first last (act_text act);
  cut = λ first last. rows_line first last (codes "cut");
  fault = fault_line;
}

-- the lines of pieces, the oldest first
abbrev pub show_text : List Piece → List ℕ
show_text = lines_of text_lines
