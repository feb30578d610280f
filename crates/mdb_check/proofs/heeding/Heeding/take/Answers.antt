-- The rows are followed with a row that is taken, and without one that is refused.
use Rattle.mdb_check.proofs.Words.{ap, begun_at, option_or, refl, reported_if, ◌∙◌}
use Rattle.mdb_bus.specs.Bus.{ended_act}
use Rattle.mdb_follow.specs.Follower as follow
use Rattle.mdb_check.proofs.Following.{refused_by, taken_more}
use Rattle.mdb_check.proofs.heeding.Heeding.take.Goals as goal

pub returns-in-Some-clause-taken : goal.returns-in-Some-clause-taken
returns-in-Some-clause-taken c scope readers rows on =
    taken_more c.transcripts_have_one_act_list.ensures c.args.self.now _ scope readers rows
    c.args.event (ended_act c.in-Some.ended (follow.act_of c.feed_ending.new.self)) on
    c.in-Some.ensures.taken c.feed_ending.ensures.scope c.in-Some.ensures.act refl
    (c.reported_if-self.ensures
    ∙ ap (λ act. reported_if (ended_act c.in-Some.ended act) c.args.self.now.reported)
    c.act.ensures)
    (c.or-self.ensures
    ∙ ap (λ begun. option_or begun c.args.self.now.begun) c.begins_block.ensures)

pub returns-in-None-clause-refused : goal.returns-in-None-clause-refused
returns-in-None-clause-refused c scope readers rows on =
    refused_by c.args.self.now _ scope readers rows c.args.event on
    c.in-None.ensures.refused c.feed_ending.ensures.scope refl refl
    (c.begun_at-self.ensures
    ∙ ap (λ own. begun_at own c.args.self.now.begun) c.begins_block-in-None.ensures)
