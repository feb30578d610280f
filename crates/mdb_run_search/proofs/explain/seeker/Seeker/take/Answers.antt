-- A seeker stands for one row more.
use Rattle.mdb_run_search.proofs.Words.{arith, refl, acts_of}
use Rattle.mdb_bus.specs.Bus.{scope_of}
use Rattle.mdb_run_search.proofs.Seeking.{seeks-on, still-paths, stuck, went-paths, within-more}
use Rattle.mdb_run_search.proofs.explain.seeker.Seeker.take.Goals as goal

pub lead-requires-clause-stands : goal.lead-requires-clause-stands
lead-requires-clause-stands c =
    let on = c.requires.reached.1 in
    (on.profile, acts_of on.pieces, λ device. (on.paths device).facts)

pub lead-requires-clause-within : goal.lead-requires-clause-within
lead-requires-clause-within c =
    within-more c.args.self.now.all (omega (arith, c.requires.room)) c.requires.reached.1.within

pub unreachable-requires : goal.unreachable-requires
unreachable-requires c =
    let on = c.requires.reached.1 in
    let scope = scope_of c.args.self.now.bus in
    stuck on.profile c.args.goal.now c.args.self.now.all c.feed_into.new.act
    (rw c.if-not-branch.true at c.in_ok-lead-in-Ok-true.ensures.none) scope
    c.feed_into.ensures.scope (c.transcripts_have_one_act_list.ensures scope) on.begins
    (rw c.in-Ok-true.field-0-test at (c.in-Ok-true.ensures.goes_on on.pieces on.on_bus)) on.whole
    on.paths c.requires.reached.2

pub returns-else-not-branch-clause-on : goal.returns-else-not-branch-clause-on
returns-else-not-branch-clause-on c events on =
    let goes = rw c.in-Ok-true.field-0-test
    at (c.in-Ok-true.ensures.goes_on on.pieces on.on_bus) in
    let all = c.args.self.now.all in
    seeks-on on goes c.feed_into.ensures.scope refl
    (went-paths on.profile c.args.goal.now all c.lead.new.self c.feed_into.new.act
    c.args.self.now.rows (rw c.if-not-branch.false at c.in_ok-lead-in-Ok-true.ensures.led) goes
    on.whole on.rows on.paths)
    (within-more c.lead.new.self (omega arith)
    ((rw c.if-not-branch.false at c.in_ok-lead-in-Ok-true.ensures.within) _ on.within))

pub returns-in-Ok-false-clause-on : goal.returns-in-Ok-false-clause-on
returns-in-Ok-false-clause-on c events on =
    let goes = rw c.in-Ok-false.field-0-test
    at (c.in-Ok-false.ensures.goes_on on.pieces on.on_bus) in
    let all = c.args.self.now.all in
    seeks-on on goes c.feed_into.ensures.scope refl
    (still-paths on.profile c.args.goal.now all goes.grown on.paths)
    (within-more all (omega arith) on.within)
