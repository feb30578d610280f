-- Up to the limit bytes are given. There the text ends, or a byte past it is held.
use Rattle.mdb_records.proofs.Words.{◌≡◌, ◌<◌, ℕ, length, sym, ◌∙◌, arith, length-append, length-drop, nat_tests}
use Rattle.mdb_records.proofs.limited.LimitedRead.read.Goals as goal
use Rattle.mdb_records.proofs.MarkFacts.{end-at-limit, past-limit, under-limit}

-- src/limited.rt:52:17
pub returns-then-branch-eq0-clause-bytes : goal.returns-then-branch-eq0-clause-bytes
returns-then-branch-eq0-clause-bytes g c =
    let one : length c.ask.new.buf ≡ 1 = omega arith in
    end-at-limit _ _ c.args.self.now.left c.in_ok-ask.field-0 c.args.self.now.held c.ask.new.buf
    (sym c.is_some.ensures ∙ c.if-is_some.false) c.in_ok-ask.ensures.bytes
    (length c.args.buf.now) c.if-branch-eq0.true (omega arith)

-- src/limited.rt:55:13
pub returns-then-self-eq0-clause-bytes : goal.returns-then-self-eq0-clause-bytes
returns-then-self-eq0-clause-bytes g c =
    let one : length c.ask.new.buf ≡ 1 = omega arith in
    past-limit _ _ c.args.self.now.left c.in_ok-ask.field-0 c.args.self.now.held c.ask.new.buf
    (sym c.is_some.ensures ∙ c.if-is_some.false) c.in_ok-ask.ensures.bytes c.if-self-eq0.true
    c.if-branch-eq0.false c.in_ok-ask.ensures.bound.0 one

-- src/limited.rt:42:5
pub returns-clause-bytes : goal.returns-clause-bytes
returns-clause-bytes g c =
    let some : 0 < length c.args.buf.now = grind (arith, nat_tests) in
    let size : length c.ask-2.new.buf ≡ c.min-room.result =
    omega (arith, length-append {A = ℕ}, length-drop {A = ℕ}) in
    under-limit _ _ c.args.self.now.left c.in_ok-given.given c.args.self.now.held c.ask-2.new.buf
    (sym c.is_some.ensures ∙ c.if-is_some.false) c.in_ok-given.ensures.bytes _
    c.in_ok-given.ensures.bound.0 (omega (arith, c.in_ok-given.ensures.bound.0)) (omega arith)
