-- What is read stands after what was unread, so the text that is given stays the same.
use Rattle.mdb_records.proofs.Words.{◌≡◌, ◌+◌, ◌-◌, take, arith, limited_remaining, unread}
use borrow.Rule.Slice.PartMut.{post_of}
use Rattle.mdb_records.proofs.LineFacts.{filled-keeps, filled-unread}
use Rattle.mdb_records.proofs.lines.Lines.fill.Goals as goal

pub returns-in-Ok-clause-keeps : goal.returns-in-Ok-clause-keeps
returns-in-Ok-clause-keeps g c =
    let m = c.move_to_front.new.self in
    let e = c.move_to_front.ensures in
    let size : m.filled - m.at ≡ m.filled = omega (arith, e.at) in
    let front : take m.filled m.buffer ≡ unread c.args.self.now =
    rw e.at at (rw size at e.unread) in
    let grown =
    filled-unread m.filled c.in-Ok.count m.buffer c.read.new.buf
    (post_of m.filled (8192 - m.filled) m.buffer) e.fits c.in-Ok.ensures.bound.0 in
    let more : m.filled + c.in-Ok.count - m.at ≡ m.filled + c.in-Ok.count = omega (arith, e.at) in
    rw (more, e.at, grown, front, e.begun)
    (filled-keeps c.args.self.now.begun (unread c.args.self.now) (take c.in-Ok.count c.read.new.buf)
    _ (limited_remaining g.R.Read.remaining c.read.new.self)
    (rw e.source at c.in-Ok.ensures.bytes.0))
