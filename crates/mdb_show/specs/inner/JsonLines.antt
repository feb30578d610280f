-- The lines of `show` as JSON, by the bytes that are put one after the other. This file serves
-- private functions and proofs: no public clause cites it.
use Rattle.std.specs.Prelude.{ℕ, List, ◌++◌, codes}
use Rattle.std.specs.Fmt.{decimal}
use Rattle.json.specs.Print.{quoted}
use Rattle.mdb_words.specs.Block.{block_of}
use Rattle.mdb_msgs.specs.declared.command.Command.{Command}
use Rattle.mdb_msgs.specs.Commands.{command_bytes, device_of}
use Rattle.mdb_msgs.specs.Devices.{device_word}
use Rattle.mdb_msgs.specs.Replies.{reply_bytes}
use Rattle.mdb_bus.specs.declared.act.Act.{Act}
use Rattle.mdb_bus.specs.declared.act.Act.TheVariants as acts
use Rattle.mdb_bus.specs.declared.fault.Blame.{Blame}
use Rattle.mdb_bus.specs.declared.fault.LinkFault.{LinkFault}
use Rattle.mdb_bus.specs.declared.fault.Rule.{Rule}
use Rattle.mdb_bus.specs.FaultWords.{blame_word, rule_word}
use Rattle.mdb_show.specs.ShowJson.{hex_text}

-- an object with its first member
abbrev pub head_json : List ℕ → List ℕ
head_json word = codes "{\"act\":\"" ++ word ++ codes "\""

-- the device of a command
abbrev pub device_json : Command → List ℕ
device_json command = codes ",\"device\":\"" ++ device_word (device_of command) ++ codes "\""

-- the bytes of a block
abbrev pub bytes_json : List ℕ → List ℕ
bytes_json bytes = codes ",\"bytes\":" ++ quoted (hex_text bytes)

-- the first row and the last
abbrev pub rows_json : ℕ → ℕ → List ℕ
rows_json first last = codes ",\"first\":" ++ decimal first ++ codes ",\"last\":" ++ decimal last

-- what somebody did, to whose command, without the end of the object
abbrev pub deed_json : List ℕ → Command → ℕ → ℕ → List ℕ
deed_json word command first last = head_json word ++ device_json command ++ rows_json first last

-- the same with the bytes of a block
abbrev pub block_json : List ℕ → List ℕ → Command → ℕ → ℕ → List ℕ
block_json word bytes command first last =
    head_json word ++ bytes_json bytes ++ device_json command ++ rows_json first last

-- what has no device
abbrev pub rows_only_json : List ℕ → ℕ → ℕ → List ℕ
rows_only_json word first last = head_json word ++ rows_json first last

-- an act
abbrev pub act_json : ℕ → ℕ → Act → List ℕ
act_json first last (acts.Ask command) =
    block_json (codes "ask") (block_of (command_bytes command)) command first last
act_json first last (acts.Ack command) = deed_json (codes "ack") command first last
act_json first last (acts.Nak command) = deed_json (codes "nak") command first last
act_json first last (acts.Reply command reply) =
    block_json (codes "reply") (block_of (reply_bytes reply)) command first last
act_json first last (acts.VmcAck command reply) = deed_json (codes "vmc-ack") command first last
act_json first last (acts.VmcNak command reply) = deed_json (codes "vmc-nak") command first last
act_json first last (acts.VmcRet command reply) = deed_json (codes "vmc-ret") command first last
act_json first last (acts.Repeat command reply) =
    block_json (codes "repeat") (block_of (reply_bytes reply)) command first last
act_json first last acts.Foreign = rows_only_json (codes "foreign") first last
act_json first last (acts.Break length) =
    rows_only_json (codes "break") first last ++ codes ",\"length\":" ++ decimal length

-- who is to blame
abbrev pub blame_json : Blame → List ℕ
blame_json whom = codes ",\"blame\":\"" ++ blame_word whom ++ codes "\""

-- the rule that is broken
abbrev pub rule_json : Rule → List ℕ
rule_json broken = codes ",\"rule\":\"" ++ rule_word broken ++ codes "\""

-- a row that cannot be
abbrev pub fault_json : ℕ → LinkFault → List ℕ
fault_json row fault = head_json (codes "fault") ++ blame_json fault.blame ++ codes ",\"row\":"
    ++ decimal row ++ rule_json fault.rule
