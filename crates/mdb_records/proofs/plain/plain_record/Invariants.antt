-- The fields found so far are csv's, and each round comes nearer to the end of the text.
use Rattle.mdb_records.proofs.Words.{parted, ◌≤◌, ◌-◌, All, length, AreWithin}
use Rattle.mdb_records.proofs.PartFacts.{next_start}
use Rattle.mdb_records.proofs.PlainFacts.{ReadsOnAt, IsOwn, part}
use Rattle.mdb_records.proofs.plain.plain_record.Given as goal

-- csv reads the fields so far, and the bytes after them up to this place mean themselves alone
abbrev pub invariant-bytes : goal.invariant-bytes
invariant-bytes l = (next_start 0 l.ends.items ≤ l.end) × (l.end ≤ length l.text)
    × All IsOwn (part l.text (next_start 0 l.ends.items) l.end)
    × ReadsOnAt l.text (next_start 0 l.ends.items) (parted 0 l.ends.items l.text)
    × AreWithin l.ends.items l.end

abbrev pub decreases-bytes : goal.decreases-bytes
decreases-bytes l = length l.text - l.end
