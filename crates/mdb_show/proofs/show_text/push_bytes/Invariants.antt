-- The text of the bytes so far is there.
use Rattle.mdb_show.proofs.Words.{◌≡◌, ◌++◌, take, bytes_text}
use Rattle.mdb_show.proofs.show_text.push_bytes.Given as goal

abbrev pub invariant-loop-byte : goal.invariant-loop-byte
invariant-loop-byte l = l.text.items ≡ l.fn.text.items ++ bytes_text (take l.byte-index l.bytes)
