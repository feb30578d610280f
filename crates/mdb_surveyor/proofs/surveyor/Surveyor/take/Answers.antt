-- A row is taken, or it halts the stretch.
use Rattle.mdb_surveyor.proofs.Words.{◌≡◌, arith, refl, ended_act, HasRefused, by-some}
use Rattle.mdb_follow.specs.Follower as follow
use Rattle.mdb_surveyor.proofs.Standing.{halted_by, taken_more}
use Rattle.mdb_surveyor.proofs.surveyor.Surveyor.take.Goals as goal

pub returns-in-Some-clause-taken : goal.returns-in-Some-clause-taken
returns-in-Some-clause-taken c scope rows ended on =
    taken_more c.transcripts_have_one_act_list.ensures c.args.self.now _ scope rows c.args.event
    ended (ended_act c.in-Some.has_ended (follow.act_of c.feed_ending.new.self)) on
    c.in-Some.ensures.taken.stands c.feed_ending.ensures.scope c.in-Some.ensures.act
    (rw c.act.ensures at c.learn_if.ensures) refl refl refl refl

pub returns-in-None-clause-halted : goal.returns-in-None-clause-halted
returns-in-None-clause-halted c scope rows ended on =
    halted_by c.transcripts_have_one_act_list.ensures c.args.self.now _ scope rows c.args.event
    ended on c.in-None.ensures.refused c.feed_ending.ensures.scope refl refl refl refl refl

pub invariant_of-self-in-None : goal.invariant_of-self-in-None
invariant_of-self-in-None c =
    let same : follow.rows_of c.feed_ending.new.self ≡ follow.rows_of c.args.self.now.follower =
    by-some (follow.offence_of c.feed_ending.new.self)
    (HasRefused c.args.self.now.follower c.feed_ending.new.self c.args.event) _
    (λ offence has. has.uncounted) c.in-None.ensures.refused in
    record {
      few = omega (arith, same, c.args.self.now.few);
      few_faults = c.args.self.now.few_faults;
      within = c.args.self.now.within;
    }
