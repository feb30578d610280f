-- A walk lists the acts of the lines so far, by what each line is.
use Rattle.mdb_page.proofs.Words.{arith, le_refl, length, refl}
use Rattle.mdb_page.proofs.Walks as walks
use Rattle.mdb_page.proofs.walk.walk.Goals as goal

pub loop-act-init : goal.loop-act-init
loop-act-init c = record {
  left = le_refl (length c.args.rest.now.now);
  few = omega arith;
  walks = walks.starts c.args.rest.now.now c.args.bus.now c.args.lists.now.acts.first
      c.args.acts.now c.args.lists.now.acts _ c.requires.stands c.requires.listed refl refl;
}

pub loop-act-preserved : goal.loop-act-preserved
loop-act-preserved c = record {
  left = omega (arith, c.first_line.ensures.shorter, c.loop-act.invariant.left);
  few = c.loop-act.invariant.few;
  walks = walks.goes_on_blank c.loop-act.invariant.walks (walks.blank_line_of
      c.without_return-line.result.now c.first_line.ensures.line c.without_return-line.ensures
      c.if-not-is_empty.ensures);
}

pub take-requires-clause-names : goal.take-requires-clause-names
take-requires-clause-names c =
    walks.names c.loop-act.bus c.feed_into.new.self c.in-Ok.event c.in-Ok-feed_into.ended
    c.feed_into.new.act c.loop-act.invariant.walks.pieces
    c.acts_name_replies_of_their_commands.ensures c.loop-act.invariant.walks.stands
    c.in-Ok-feed_into.ensures.goes_on

pub loop-act-preserved-in-Ok-feed_into : goal.loop-act-preserved-in-Ok-feed_into
loop-act-preserved-in-Ok-feed_into c = record {
  left = omega (arith, c.first_line.ensures.shorter, c.loop-act.invariant.left);
  few = omega (arith, c.take.ensures.last, c.if-rows-ge-ROWS_MAX.false);
  walks = walks.goes_on_row c.loop-act.invariant.walks
      (walks.line_of c.first_line.ensures.line c.without_return-line.ensures)
      c.in-Ok-feed_into.ended c.feed_into.new.act c.in-Ok.ensures.row
      c.in-Ok-feed_into.ensures.goes_on c.in-Ok-feed_into.ensures.scope c.start-at.ensures
      c.take.ensures.taken;
}

pub returns-then-rows-ge-ROWS_MAX-clause-walked : goal.returns-then-rows-ge-ROWS_MAX-clause-walked
returns-then-rows-ge-ROWS_MAX-clause-walked c =
    walks.ends_too_long c.loop-act.invariant.walks
    (walks.line_of c.first_line.ensures.line c.without_return-line.ensures)
    (walks.has_bytes c.without_return-line.result.now c.if-not-is_empty.ensures) _ refl
    (omega (arith, c.loop-act.invariant.few, c.if-rows-ge-ROWS_MAX.true)) c.cut.ensures

pub returns-in-Err-clause-walked : goal.returns-in-Err-clause-walked
returns-in-Err-clause-walked c =
    walks.ends_no_row c.loop-act.invariant.walks
    (walks.line_of c.first_line.ensures.line c.without_return-line.ensures)
    (walks.has_bytes c.without_return-line.result.now c.if-not-is_empty.ensures)
    c.line_answer.new.told c.line_answer.ensures.row c.in-Err.fault c.line_answer.result
    c.if-rows-ge-ROWS_MAX.false (c.in-Err.ensures.none, c.in-Err.ensures.unread)
    (record {
      row_fault = c.line_answer.ensures.row_fault;
      bad_row = c.line_answer.ensures.bad_row;
      unread = c.line_answer.ensures.unread;
    })
    c.cut-in-Err.ensures

pub returns-in-Err-feed_into-clause-walked : goal.returns-in-Err-feed_into-clause-walked
returns-in-Err-feed_into-clause-walked c =
    walks.ends_broken c.loop-act.invariant.walks
    (walks.line_of c.first_line.ensures.line c.without_return-line.ensures)
    (walks.has_bytes c.without_return-line.result.now c.if-not-is_empty.ensures) _ refl
    c.in-Ok.event
    c.in-Err-feed_into.field-0 c.if-rows-ge-ROWS_MAX.false c.in-Ok.ensures.row
    c.in-Err-feed_into.ensures.faults

pub returns-clause-walked : goal.returns-clause-walked
returns-clause-walked c =
    walks.ends_whole c.loop-act.invariant.walks _
    (walks.has_none c.loop-act.rest.now c.loop-act-test.ensures) refl c.loop-act.invariant.few
    c.cut-2.ensures
