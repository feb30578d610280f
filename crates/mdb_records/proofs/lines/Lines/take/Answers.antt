-- A line that is taken leaves the front of what is unread, and its fields end within it.
use Rattle.mdb_records.proofs.Words.{◌≡◌, ◌≤◌, ◌-◌, false, arith, drop, length-take, Ok, ap, limited_remaining, unread, BeginsLow}
use Rattle.mdb_records.proofs.LineFacts.{takes-line, unread-dropped}
use Rattle.mdb_records.proofs.PartFacts.{within-more}
use Rattle.mdb_records.proofs.lines.Lines.take.Goals as goal
use Rattle.mdb_records.proofs.lines.Lines.take.Goals.{else-not-self-via-then-not-self+else-begins_high, else-not-self-via-else-not-self}

pub returns-in-Ok-Line-clause-steps : goal.returns-in-Ok-Line-clause-steps
returns-in-Ok-Line-clause-steps g c =
    let lines = c.args.self.now in
    let low : lines.begun ≡ false → BeginsLow (unread lines) = λ e. elim c.else-not-self.branch [
      | else-not-self-via-then-not-self+else-begins_high w ↦
          w.begins_high.ensures w.if-begins_high.false
      | else-not-self-via-else-not-self w ↦ cc (e, w.if-not-self.false)
    ] in
    let front = rw c.in-Ok-Line.field-0-is at c.in-Ok-Line.ensures.front in
    let size = length-take (lines.filled - lines.at) (drop lines.at lines.buffer) in
    let inside : c.in-Ok-Line.count ≤ lines.filled - lines.at = omega (arith, front.0, size) in
    rw (← unread-dropped lines.at lines.filled c.in-Ok-Line.count lines.buffer inside)
    (takes-line lines.begun (unread lines) c.in-Ok-Line.count _
    (limited_remaining g.R.Read.remaining lines.source) low front)

pub returns-in-Ok-Line-clause-within : goal.returns-in-Ok-Line-clause-within
returns-in-Ok-Line-clause-within g c =
    let front = rw c.in-Ok-Line.field-0-is at c.in-Ok-Line.ensures.front in
    within-more _ c.in-Ok-Line.count _ (c.in-Ok-Line.ensures.within c.in-Ok-Line.count
    (ap Ok c.in-Ok-Line.field-0-is)) front.0
