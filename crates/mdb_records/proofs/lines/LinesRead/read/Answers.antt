-- The end of a taken line comes first, then what is unread, then what the source has.
use Rattle.mdb_records.proofs.Words.{◌≡◌, ◌<◌, ◌≤◌, ◌-◌, length, arith, rules, nat_tests, limited_remaining, unread}
use Rattle.mdb_records.proofs.LineFacts.{copied-front, gives-below, gives-end, gives-unread, unread-dropped}
use Rattle.mdb_records.proofs.lines.LinesRead.read.Goals as goal

pub returns-then-self-clause-bytes : goal.returns-then-self-clause-bytes
returns-then-self-clause-bytes g c =
    let some : 0 < length c.args.buf.now = grind (arith, nat_tests) in
    (rw c.if-self.true (gives-end _ c.args.buf.now some), λ none. cc)

pub returns-then-unread_count-eq0-clause-bytes : goal.returns-then-unread_count-eq0-clause-bytes
returns-then-unread_count-eq0-clause-bytes g c =
    let none : c.args.self.now.filled - c.args.self.now.at ≡ 0 =
    omega (arith, c.unread_count.ensures, c.if-unread_count-eq0.true) in
    rw (
      c.if-self.false,
      none,
      gives-below (limited_remaining g.R.Read.remaining c.args.self.now.source),
      gives-below (limited_remaining g.R.Read.remaining c.read.new.self),
    )
    c.read.ensures.bytes

pub returns-clause-bytes : goal.returns-clause-bytes
returns-clause-bytes g c =
    let lines = c.args.self.now in
    let count = c.min-count.result in
    let low : count ≤ lines.filled - lines.at =
    omega (arith, c.min-count.ensures, c.unread_count-2.ensures) in
    let long : count ≤ length c.copy_from_slice.new.self = search rules in
    let some : 0 < length c.args.buf.now = grind (arith, nat_tests) in
    let left : 0 < lines.filled - lines.at =
    omega (arith, c.unread_count.ensures, c.if-unread_count-eq0.false) in (
      rw (
        c.if-self.false,
        ← unread-dropped lines.at lines.filled count lines.buffer low,
        copied-front lines.at lines.filled count lines.buffer c.copy_from_slice.new.self _ low long
            c.copy_from_slice.ensures.after,
      )
          (gives-unread (unread lines) count (limited_remaining g.R.Read.remaining lines.source)),
      λ none _. absurd (omega (arith, c.min-count.ensures, c.unread_count-2.ensures)),
    )
