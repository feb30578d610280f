-- A replay stands for one row more, or tells the fault of that row.
use Rattle.mdb_run_search.proofs.Words.{List, ◌+◌, ℕ, Some, None, ap, arith, refl, sym, ◌∙◌, Event, GoesOn, profile_of, Mark, IsReplayFault, false≢true, untimely_of, StandsFor, is-some-weaker, times-on, scope_of}
use Rattle.mdb_follow.specs.Counted.{counted_with}
use Rattle.mdb_run_search.proofs.Replaying.{link-offence, machine-offence, mark-fault, no-mark, stands-on, stands-still}
use Rattle.mdb_run_search.proofs.Tracked.{tracks-within-weaker}
use Rattle.mdb_run_search.proofs.replay.Replay.take.Goals as goal

pub returns-then-not-may_stand_at-clause-fault : goal.returns-then-not-may_stand_at-clause-fault
returns-then-not-may_stand_at-clause-fault c events marks on =
    mark-fault c.ways_with_choices_join.ensures
    c.transcripts_have_one_act_list.ensures c.args.mark on
    (c.in-Ok.ensures.goes_on on.pieces on.on_bus) c.feed_into.ensures.scope c.profile_by.result
    (c.profile_by.ensures (profile_of (scope_of c.args.self.now).begins)
    (untimely_of (scope_of c.args.self.now) on.pieces) on.untimely)
    (λ may. false≢true (sym c.if-not-may_stand_at.true ∙ c.may_stand_at.ensures.1 may))

pub invariant_of-self-then-not-ended-clause-within
    : goal.invariant_of-self-then-not-ended-clause-within
invariant_of-self-then-not-ended-clause-within c going =
    tracks-within-weaker c.args.self.now.tracks (omega arith) (c.args.self.now.within going)

pub returns-then-not-ended-clause-reached : goal.returns-then-not-ended-clause-reached
returns-then-not-ended-clause-reached c events marks on =
    let goes : GoesOn c.feed_into.new.self on.pieces c.args.event None =
    rw c.if-not-ended.true at (c.in-Ok.ensures.goes_on on.pieces on.on_bus) in
    rw (no-mark (c.args.self.now.rows + 1) c.profile_by.result c.args.mark marks
    (rw c.if-not-ended.true at (c.may_stand_at.ensures.0 c.if-not-may_stand_at.false)))
    (stands-still on goes c.feed_into.ensures.scope refl refl refl refl
    (times-on (scope_of c.args.self.now) _ on.pieces c.args.event c.feed_into.new.self None goes
    c.args.self.now.untimely c.note_untimely.new.counts c.untimely_sender-sender.result
    c.feed_into.ensures.scope c.feed_into.ensures.scope on.untimely
    (c.untimely_sender-sender.ensures on.pieces on.on_bus) c.note_untimely.ensures))

pub returns-in-Err-clause-fault : goal.returns-in-Err-clause-fault
returns-in-Err-clause-fault c events marks on =
    rw c.offence_of.ensures (link-offence c.ways_with_choices_join.ensures on c.args.event
    c.args.mark c.in-Err.fault _ (c.in-Err.ensures.faults on.pieces on.on_bus)
    (c.in-Err.ensures.impossible on.pieces on.on_bus) refl)

pub returns-then-follow-clause-reached : goal.returns-then-follow-clause-reached
returns-then-follow-clause-reached c events marks on =
    let has = c.if-follow.ensures.followed in
    let goes : GoesOn c.feed_into.new.self on.pieces c.args.event (Some c.feed_into.new.act) =
    rw c.if-not-ended.false at (c.in-Ok.ensures.goes_on on.pieces on.on_bus) in
    let stands = stands-on c.args.mark on goes c.feed_into.ensures.scope refl refl refl refl
    c.profile_by.result
    (rw c.if-not-ended.false at (c.may_stand_at.ensures.0 c.if-not-may_stand_at.false))
    c.choice_by.ensures has
    c.note_untimely-then-follow.new.counts c.self-then-follow-1.given.1.1.1.0
    (times-on (scope_of c.args.self.now) (scope_of c.follow.new.self) on.pieces c.args.event
    c.feed_into.new.self (Some c.feed_into.new.act) goes c.args.self.now.untimely
    c.note_untimely-then-follow.new.counts c.untimely_sender-sender.result
    c.feed_into.ensures.scope (c.follow.ensures.scope ∙ c.feed_into.ensures.scope) on.untimely
    (c.untimely_sender-sender.ensures on.pieces on.on_bus)
    (c.note_untimely-then-follow.ensures
    ∙ ap (counted_with c.untimely_sender-sender.result) has.untimely)) in
    search stands

pub returns-else-follow-clause-fault : goal.returns-else-follow-clause-fault
returns-else-follow-clause-fault c =
    is-some-weaker c.follow.new.self.fault _
    (λ fault. (events : List Event) (marks : List (ℕ × Mark))
    → StandsFor c.args.self.now events marks
    → IsReplayFault (scope_of c.args.self.now) events marks c.args.event c.args.mark fault)
    (λ fault has events marks on. machine-offence c.ways_with_choices_join.ensures
    c.transcripts_have_one_act_list.ensures c.args.mark on
    (rw c.if-not-ended.false at (c.in-Ok.ensures.goes_on on.pieces on.on_bus))
    c.feed_into.ensures.scope refl refl c.profile_by.result
    (c.profile_by.ensures (profile_of (scope_of c.args.self.now).begins)
    (untimely_of (scope_of c.args.self.now) on.pieces) on.untimely)
    (rw c.if-not-ended.false at (c.may_stand_at.ensures.0 c.if-not-may_stand_at.false))
    c.choice_by.ensures has)
    c.if-follow.ensures.stopped
