-- The lines of a row are added, unless it can't be or isn't written.
use Rattle.mdb_show.proofs.Words.{is_fault, refl}
use Rattle.mdb_show.proofs.LinesSoFar as steps
use Rattle.mdb_show.proofs.showing.Lines.add.Goals as goal
use Rattle.mdb_show.proofs.showing.Lines.add.Goals.{then-ended+in_ok-add_ended, else-ended}

pub returns-in_err-add_fault-in-Err-clause-added : goal.returns-in_err-add_fault-in-Err-clause-added
returns-in_err-add_fault-in-Err-clause-added g c before earlier has =
    rw (is_fault c.from_residual.result c.from_residual.ensures.1)
    (steps.fault_refused has c.args.self.now _ c.in-Err.fault
    (c.in-Err.ensures.faults has.pieces has.stands) _ c.in_err-add_fault-in-Err.ensures.refused)

pub returns-in-Err-clause-added : goal.returns-in-Err-clause-added
returns-in-Err-clause-added g c before earlier has =
    steps.fault_added has c.args.self.now _ c.in-Err.fault
    (c.in-Err.ensures.faults has.pieces has.stands) c.in_ok-add_fault-in-Err.ensures.added

pub add_ended-requires-clause-reply : goal.add_ended-requires-clause-reply
add_ended-requires-clause-reply g c =
    steps.names c.args.self.now.bus c.feed_into.new.self c.args.event c.feed_into.new.act
    c.requires.stands c.acts_name_replies_of_their_commands.ensures
    (rw c.if-ended.true at c.in-Ok.ensures.goes_on)

pub returns-in_err-add_ended-clause-added : goal.returns-in_err-add_ended-clause-added
returns-in_err-add_ended-clause-added g c before earlier has =
    rw (is_fault c.from_residual-in_err-add_ended.result c.from_residual-in_err-add_ended.ensures.1)
    (steps.act_refused has c.args.self.now _ c.feed_into.new.act c.feed_into.ensures.scope
    ((rw c.if-ended.true at c.in-Ok.ensures.goes_on) has.pieces has.stands) _
    c.in_err-add_ended.ensures.refused)

pub returns-clause-added : goal.returns-clause-added
returns-clause-added g c before earlier has = elim c.if-ended.branch [
  | then-ended+in_ok-add_ended w ↦
      rw (w.self-is, w.writer-is, w.printer-is) (steps.act_shown has refl refl
      c.feed_into.ensures.scope
      ((rw w.if-ended.true at c.in-Ok.ensures.goes_on) has.pieces has.stands)
      w.in_ok-add_ended.ensures.added)
  | else-ended w ↦
      rw (w.self-is, w.writer-is, w.printer-is) (steps.row_shown has refl refl
      c.feed_into.ensures.scope
      ((rw w.if-ended.false at c.in-Ok.ensures.goes_on) has.pieces has.stands))
]
