-- The bytes that are put for a line are those of its object.
use Rattle.mdb_show.proofs.Words.{arith, refl, ap, ap₂, sym, subst, ◌∙◌, ◌≡◌, ◌+◌, ◌/◌, ◌%◌, ◌<◌, ℕ, suc, Bool, true, false, List, [], ◌∷◌, ◌++◌, append_assoc, get_or, nat_lt, Result, Ok, Err, OnOk, codes, decimal, digit_glyph, Act, Blame, LinkFault, Rule, act_data, block_members, cut_data, deed_data, device_members, fault_data, hex_text, json_lines, rows_members, bytes_text, act_json, blame_json, block_json, bytes_json, deed_json, device_json, fault_json, head_json, rows_json, rows_only_json, rule_json}
use Rattle.std.proofs.lemmas.Bool.{ltb-true, ltb-false}
use Rattle.json.specs.Print.{escape, escape_byte}
use Rattle.json.proofs.OnLiterals.{json_on_literals}
use Rattle.json.proofs.Printed.Strings.{escape_byte_plain}
use Rattle.serde_json.specs.Data.{Members, number, string, member, no_members, unsigned}
use Rattle.serde_json.specs.Written.{compact_text, members_text}
use Rattle.mdb_words.specs.Block.{block_of}
use Rattle.mdb_msgs.specs.declared.command.Command.{Command}
use Rattle.mdb_msgs.specs.declared.command.Device.{Device}
use Rattle.mdb_msgs.specs.declared.command.Device.TheVariants.{Reader}
use Rattle.mdb_msgs.specs.declared.command.ReaderUnit.TheVariants.{First}
use Rattle.mdb_msgs.specs.Commands.{command_bytes, device_of}
use Rattle.mdb_msgs.specs.Devices.{device_word}
use Rattle.mdb_msgs.specs.Replies.{reply_bytes}
use Rattle.mdb_bus.specs.declared.act.Act.TheVariants as acts
use Rattle.mdb_bus.specs.declared.fault.Blame.TheVariants as blame
use Rattle.mdb_bus.specs.declared.fault.Rule.TheVariants as rule
use Rattle.mdb_bus.specs.FaultWords.{blame_word, rule_word}
use Rattle.mdb_text.specs.Text.{line}

-- a word in which nothing needs an escape
abbrev pub IsPlain : List ℕ → Type 0
IsPlain word = escape word ≡ word

device_plain : (device : Device) → IsPlain (device_word device)
unfolding json_on_literals
device_plain (Reader First) = refl
device_plain device = refl

blame_plain : (whom : Blame) → IsPlain (blame_word whom)
unfolding json_on_literals
blame_plain blame.Controller = refl
blame_plain whom = refl

rule_plain : (broken : Rule) → IsPlain (rule_word broken)
unfolding json_on_literals
rule_plain rule.Order = refl
rule_plain broken = refl

-- so are the digits of bytes
glyph_plain : (digit : ℕ) → digit < 16
    → escape_byte (digit_glyph true digit) ≡ digit_glyph true digit ∷ []
glyph_plain digit small = by (nat_lt digit 10) refl
  where
    plain : (glyph : ℕ) → digit_glyph true digit ≡ glyph → 47 < glyph → glyph < 71
        → escape_byte (digit_glyph true digit) ≡ digit_glyph true digit ∷ []
    plain glyph is above below =
        subst (λ x. escape_byte x ≡ x ∷ []) (sym is) (escape_byte_plain glyph
        (λ e. omega (arith, e, above)) (λ e. omega (arith, e, below)) (omega (arith, above)))

    by : (b : Bool) → nat_lt digit 10 ≡ b
        → escape_byte (digit_glyph true digit) ≡ digit_glyph true digit ∷ []
    by true is = plain (48 + digit) (cc) (omega arith) (omega (arith, ltb-true digit 10 is))
    by false is =
        plain (55 + digit) (cc) (omega (arith, ltb-false digit 10 is)) (omega (arith, small))

one_more : (byte : ℕ) (text : List ℕ) → escape_byte byte ≡ byte ∷ [] → IsPlain text
    → IsPlain (byte ∷ text)
one_more byte text one rest = ap₂ (λ (a b : List ℕ). a ++ b) one rest

two_digits : (byte : ℕ) (text : List ℕ) → byte < 256 → IsPlain text
    → IsPlain (digit_glyph true (byte / 16) ∷ digit_glyph true (byte % 16) ∷ text)
two_digits byte text small rest =
    one_more (digit_glyph true (byte / 16)) _ (glyph_plain (byte / 16) (omega (arith, small)))
    (one_more (digit_glyph true (byte % 16)) text (glyph_plain (byte % 16) (omega arith)) rest)

bytes_plain : (bytes : List ℕ) → ((i : ℕ) → get_or bytes i 0 < 256) → IsPlain (bytes_text bytes)
bytes_plain [] small = refl
bytes_plain (byte ∷ bytes) small =
    one_more 32 _
    (escape_byte_plain 32 (λ e. omega (arith, e)) (λ e. omega (arith, e)) (omega arith))
    (two_digits byte (bytes_text bytes) (small 0) (bytes_plain bytes (λ i. small (suc i))))

hex_plain : (bytes : List ℕ) → ((i : ℕ) → get_or bytes i 0 < 256) → IsPlain (hex_text bytes)
hex_plain [] small = refl
hex_plain (byte ∷ bytes) small =
    two_digits byte (bytes_text bytes) (small 0) (bytes_plain bytes (λ i. small (suc i)))

pub hex_member : (bytes : List ℕ) → ((i : ℕ) → get_or bytes i 0 < 256)
    → bytes_json bytes ≡ (codes ",\"bytes\":\"" ++ hex_text bytes) ++ codes "\""
unfolding json_on_literals
hex_member bytes small =
    ap (λ t. (codes ",\"bytes\":\"" ++ t) ++ codes "\"") (hex_plain bytes small)

-- lists in other brackets
group_3 : (a b c : List ℕ) → a ++ (b ++ c) ≡ (a ++ b) ++ c
group_3 a b c = simp append_assoc

group_4 : (a b c d : List ℕ) → a ++ (b ++ (c ++ d)) ≡ ((a ++ b) ++ c) ++ d
group_4 a b c d = simp append_assoc

group_5 : (a b c d e : List ℕ) → a ++ (b ++ (c ++ (d ++ e))) ≡ (((a ++ b) ++ c) ++ d) ++ e
group_5 a b c d e = simp append_assoc

group_6 : (a b c d e f : List ℕ)
    → a ++ (b ++ (c ++ (d ++ (e ++ f)))) ≡ ((((a ++ b) ++ c) ++ d) ++ e) ++ f
group_6 a b c d e f = simp append_assoc

-- the members, one after the other
head_is : (word : List ℕ) (members : Members) → IsPlain word
    → compact_text (deed_data word members) ≡ head_json word ++ members_text true members
unfolding json_on_literals
head_is word members plain =
    ap (λ w. ((codes "{\"act\":\"" ++ w) ++ codes "\"") ++ members_text true members) plain

device_is : (command : Command) (members : Members)
    → members_text true (member (codes "device") (string (device_word (device_of command))) members)
    ≡ device_json command ++ members_text true members
unfolding json_on_literals
device_is command members =
    ap (λ w. ((codes ",\"device\":\"" ++ w) ++ codes "\"") ++ members_text true members)
    (device_plain (device_of command))

blame_is : (whom : Blame) (members : Members)
    → members_text true (member (codes "blame") (string (blame_word whom)) members)
    ≡ blame_json whom ++ members_text true members
unfolding json_on_literals
blame_is whom members =
    ap (λ w. ((codes ",\"blame\":\"" ++ w) ++ codes "\"") ++ members_text true members)
    (blame_plain whom)

rule_is : (broken : Rule) (members : Members)
    → members_text true (member (codes "rule") (string (rule_word broken)) members)
    ≡ rule_json broken ++ members_text true members
unfolding json_on_literals
rule_is broken members =
    ap (λ w. ((codes ",\"rule\":\"" ++ w) ++ codes "\"") ++ members_text true members)
    (rule_plain broken)

bytes_are : (bytes : List ℕ) (members : Members)
    → members_text true (member (codes "bytes") (string (hex_text bytes)) members)
    ≡ bytes_json bytes ++ members_text true members
unfolding json_on_literals
bytes_are bytes _ = refl

rows_are : (first last : ℕ) (members : Members)
    → members_text true (rows_members first last members)
    ≡ rows_json first last ++ members_text true members
unfolding json_on_literals
rows_are first last members =
    group_5 (codes ",\"first\":") (decimal first) (codes ",\"last\":") (decimal last)
    (members_text true members)

row_is : (row : ℕ) (members : Members)
    → members_text true (member (codes "row") (number (unsigned row)) members)
    ≡ codes ",\"row\":" ++ (decimal row ++ members_text true members)
unfolding json_on_literals
row_is row _ = refl

length_is : (length : ℕ)
    → members_text true (member (codes "length") (number (unsigned length)) no_members)
    ≡ codes ",\"length\":" ++ (decimal length ++ codes "}")
unfolding json_on_literals
length_is length = refl

-- the same with the end of the object
deed_is : (word : List ℕ) (command : Command) (first last : ℕ) → IsPlain word
    → compact_text (deed_data word (device_members command first last))
    ≡ deed_json word command first last ++ codes "}"
deed_is word command first last plain =
    rw (
      head_is word (device_members command first last) plain,
      device_is command (rows_members first last no_members),
      rows_are first last no_members,
    )
    (group_4 (head_json word) (device_json command) (rows_json first last) (codes "}"))

block_is : (word content : List ℕ) (command : Command) (first last : ℕ) → IsPlain word
    → compact_text (deed_data word (block_members content command first last))
    ≡ block_json word (block_of content) command first last ++ codes "}"
block_is word content command first last plain =
    rw (
      head_is word (block_members content command first last) plain,
      bytes_are (block_of content) (device_members command first last),
      device_is command (rows_members first last no_members),
      rows_are first last no_members,
    )
    (group_5 (head_json word) (bytes_json (block_of content)) (device_json command)
    (rows_json first last) (codes "}"))

rows_only_is : (word : List ℕ) (first last : ℕ) → IsPlain word
    → compact_text (deed_data word (rows_members first last no_members))
    ≡ rows_only_json word first last ++ codes "}"
rows_only_is word first last plain =
    rw (head_is word (rows_members first last no_members) plain, rows_are first last no_members)
    (group_3 (head_json word) (rows_json first last) (codes "}"))

break_is : (word : List ℕ) (first last length : ℕ) → IsPlain word
    → compact_text (deed_data word
    (rows_members first last (member (codes "length") (number (unsigned length)) no_members)))
    ≡ (rows_only_json word first last ++ codes ",\"length\":" ++ decimal length) ++ codes "}"
break_is word first last length plain =
    let more : Members = member (codes "length") (number (unsigned length)) no_members in
    rw (
      head_is word (rows_members first last more) plain,
      rows_are first last more,
      length_is length,
    )
    (group_5 (head_json word) (rows_json first last) (codes ",\"length\":") (decimal length)
    (codes "}"))

act_is : (first last : ℕ) (act : Act)
    → compact_text (act_data first last act) ≡ act_json first last act ++ codes "}"
unfolding json_on_literals
act_is first last (acts.Ask command) =
    block_is (codes "ask") (command_bytes command) command first last refl
act_is first last (acts.Ack command) = deed_is (codes "ack") command first last refl
act_is first last (acts.Nak command) = deed_is (codes "nak") command first last refl
act_is first last (acts.Reply command reply) =
    block_is (codes "reply") (reply_bytes reply) command first last refl
act_is first last (acts.VmcAck command reply) = deed_is (codes "vmc-ack") command first last refl
act_is first last (acts.VmcNak command reply) = deed_is (codes "vmc-nak") command first last refl
act_is first last (acts.VmcRet command reply) = deed_is (codes "vmc-ret") command first last refl
act_is first last (acts.Repeat command reply) =
    block_is (codes "repeat") (reply_bytes reply) command first last refl
act_is first last acts.Foreign = rows_only_is (codes "foreign") first last refl
act_is first last (acts.Break length) = break_is (codes "break") first last length refl

cut_is : (first last : ℕ)
    → compact_text (cut_data first last) ≡ rows_only_json (codes "cut") first last ++ codes "}"
unfolding json_on_literals
cut_is first last = rows_only_is (codes "cut") first last refl

faulty_is : (word : List ℕ) (row : ℕ) (fault : LinkFault) → IsPlain word
    → compact_text (deed_data word (member (codes "blame") (string (blame_word fault.blame))
    (member (codes "row") (number (unsigned row))
    (member (codes "rule") (string (rule_word fault.rule)) no_members))))
    ≡ (head_json word ++ blame_json fault.blame ++ codes ",\"row\":" ++ decimal row
    ++ rule_json fault.rule) ++ codes "}"
faulty_is word row fault plain =
    let rule : Members = member (codes "rule") (string (rule_word fault.rule)) no_members in
    let row_rule : Members = member (codes "row") (number (unsigned row)) rule in
    rw (
      head_is word (member (codes "blame") (string (blame_word fault.blame)) row_rule) plain,
      blame_is fault.blame row_rule,
      row_is row rule,
      rule_is fault.rule no_members,
    )
    (group_6 (head_json word) (blame_json fault.blame) (codes ",\"row\":") (decimal row)
    (rule_json fault.rule) (codes "}"))

fault_is : (row : ℕ) (fault : LinkFault)
    → compact_text (fault_data row fault) ≡ fault_json row fault ++ codes "}"
unfolding json_on_literals
fault_is row fault = faulty_is (codes "fault") row fault refl

-- with the end of the line
ended : (object words : List ℕ) → object ≡ words ++ codes "}" → words ++ codes "}\n" ≡ line object
ended object words is = sym (append_assoc words (codes "}") (codes "\n")) ∙ ap line (sym is)

pub act_line : (first last : ℕ) (act : Act)
    → act_json first last act ++ codes "}\n" ≡ json_lines.act first last act
act_line first last act =
    ended (compact_text (act_data first last act)) (act_json first last act) (act_is first last act)

pub cut_line : (first last : ℕ)
    → rows_only_json (codes "cut") first last ++ codes "}\n" ≡ json_lines.cut first last
cut_line first last =
    ended (compact_text (cut_data first last)) (rows_only_json (codes "cut") first last)
    (cut_is first last)

pub fault_line : (row : ℕ) (fault : LinkFault)
    → fault_json row fault ++ codes "}\n" ≡ json_lines.fault row fault
fault_line row fault =
    ended (compact_text (fault_data row fault)) (fault_json row fault) (fault_is row fault)

-- what was put, by other words for it
pub put_as : {T E : Type 0} (answer : Result T E) (new old text same : List ℕ) → text ≡ same
    → OnOk answer (new ≡ old ++ text) → OnOk answer (new ≡ old ++ same)
put_as (Ok done) new old text same is put = rw is at put
put_as (Err e) new old text same is put = tt

-- what was put after something else
pub then_put : (new between old first more : List ℕ) → between ≡ old ++ first
    → new ≡ between ++ more → new ≡ old ++ (first ++ more)
then_put new between old first more before put = rw (put, before) (append_assoc old first more)

pub put_last : {T E : Type 0} (answer : Result T E) (new between old first more : List ℕ)
    → between ≡ old ++ first → OnOk answer (new ≡ between ++ more)
    → OnOk answer (new ≡ old ++ (first ++ more))
put_last (Ok done) new between old first more before put =
    then_put new between old first more before put
put_last (Err e) new between old first more before put = tt
