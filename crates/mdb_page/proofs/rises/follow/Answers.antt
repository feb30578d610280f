-- The rows of the lines so far are followed, by what each line is.
use Rattle.mdb_page.proofs.Words.{act_of, arith, le_refl, length, offence_of}
use Rattle.mdb_follow.specs.Feeding.{HasRefused}
use Rattle.mdb_follow.proofs.Following.{by-some}
use Rattle.mdb_page.proofs.Rising as rising
use Rattle.mdb_page.proofs.Walks.{blank_line_of, has_bytes, has_none, line_of}
use Rattle.mdb_page.proofs.rises.follow.Goals as goal

pub loop-line-init : goal.loop-line-init
loop-line-init c = record {
  left = le_refl (length c.args.rest.now.now);
  within = omega (arith, c.requires.empty);
  few = omega (arith, c.requires.none);
  near = c.requires.near;
  follows = rising.starts c.args.rest.now.now c.args.follower.now c.args.rises.now
      c.args.listing.now c.requires.stands c.requires.last c.requires.none;
}

pub loop-line-preserved : goal.loop-line-preserved
loop-line-preserved c =
    let before = c.loop-line.invariant in
    record {
      left = omega (arith, before.left, c.first_line.ensures.shorter);
      within = before.within;
      few = before.few;
      near = before.near;
      follows = rising.goes_on_blank before.follows (blank_line_of
          c.without_return-line.result.now c.first_line.ensures.line c.without_return-line.ensures
          c.if-not-is_empty.ensures);
    }

pub loop-line-preserved-in-Some : goal.loop-line-preserved-in-Some
loop-line-preserved-in-Some c =
    let before = c.loop-line.invariant in
    let feeds = c.in-Some.ensures in
    record {
      left = omega (arith, before.left, c.first_line.ensures.shorter);
      within = omega (
        arith,
        feeds.taken.counted,
        c.rows-then-not-is_empty.ensures,
        c.if-rows-ge-ROWS_MAX.false,
      );
      few = omega (arith, feeds.taken.counted, before.few, c.take_row.ensures.count);
      near = c.take_row.ensures.near;
      follows = rising.goes_on_row before.follows
          (line_of c.first_line.ensures.line c.without_return-line.ensures) c.in-Ok.ensures.row
          feeds.taken.stands feeds.scope c.in-Some.ended (act_of c.feed_ending.new.self)
          (record {
            one = c.transcripts_have_one_act_list.ensures;
            split = c.ways_split.ensures;
            join = c.ways_join.ensures;
          }) feeds.act c.take_row.ensures.taken;
    }

pub returns-then-rows-ge-ROWS_MAX-clause-followed
    : goal.returns-then-rows-ge-ROWS_MAX-clause-followed
returns-then-rows-ge-ROWS_MAX-clause-followed c =
    rising.ends_too_long c.loop-line.invariant.follows
    (line_of c.first_line.ensures.line c.without_return-line.ensures) _
    (has_bytes c.without_return-line.result.now c.if-not-is_empty.ensures)
    (omega (
      arith,
      c.loop-line.invariant.within,
      c.rows-then-not-is_empty.ensures,
      c.if-rows-ge-ROWS_MAX.true,
    ))

pub returns-in-Err-clause-followed : goal.returns-in-Err-clause-followed
returns-in-Err-clause-followed c =
    rising.ends_no_row c.loop-line.invariant.follows
    (line_of c.first_line.ensures.line c.without_return-line.ensures) c.line_answer.new.told
    c.in-Err.fault c.line_answer.result
    (has_bytes c.without_return-line.result.now c.if-not-is_empty.ensures)
    (c.in-Err.ensures.none, c.in-Err.ensures.unread)
    (record {
      row_fault = c.line_answer.ensures.row_fault;
      bad_row = c.line_answer.ensures.bad_row;
      unread = c.line_answer.ensures.unread;
    })

pub returns-in-None-clause-followed : goal.returns-in-None-clause-followed
returns-in-None-clause-followed c =
    by-some (offence_of c.feed_ending.new.self)
    (HasRefused c.loop-line.follower c.feed_ending.new.self c.in-Ok.event) _
    (λ offence refused. rising.ends_broken c.loop-line.invariant.follows
    (line_of c.first_line.ensures.line c.without_return-line.ensures) c.in-Ok.ensures.row _ offence
    refused.offence) c.in-None.ensures.refused

pub returns-clause-followed : goal.returns-clause-followed
returns-clause-followed c =
    rising.ends_whole c.loop-line.invariant.follows _
    (has_none c.loop-line.rest.now c.loop-line-test.ensures)
