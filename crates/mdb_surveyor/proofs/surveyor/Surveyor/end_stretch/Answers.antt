-- The stretch that a fault ends, and the next one.
use Rattle.mdb_surveyor.proofs.Words.{arith, refl, sym, ◌∙◌, ◌+◌}
use Rattle.mdb_follow.specs.Follower as follow
use Rattle.mdb_surveyor.proofs.Standing.{next_stands}
use Rattle.mdb_surveyor.proofs.Within.{added_within, can_be_added, few_weaker}
use Rattle.mdb_surveyor.proofs.surveyor.Surveyor.end_stretch.Goals as goal

pub with-self-requires : goal.with-self-requires
with-self-requires c =
    can_be_added c.args.self.now.before _ _ _ c.args.self.now.few c.args.self.now.within
    c.report_before-report.ensures.within c.report_before-report.ensures.rows

pub running-stretch-requires : goal.running-stretch-requires
running-stretch-requires c =
    omega (arith, c.args.self.now.few, c.report_before-report.ensures.rows)

pub invariant_of-self-3 : goal.invariant_of-self-3
invariant_of-self-3 c = record {
  few = omega (arith, c.scoped.ensures.empty, c.in-Some.ensures.numbered, c.requires.room);
  few_faults =
      few_weaker (c.args.self.now.before + 1) (c.args.self.now.before + c.in-Some.offence.row)
      c.add.new.self (omega (arith, c.in-Some.ensures.numbered))
      (c.add.ensures.few c.args.self.now.before c.args.self.now.few_faults);
  within = rw c.with-self.ensures
      (added_within c.args.self.now.before (follow.rows_of c.args.self.now.follower)
      (c.args.self.now.before + c.in-Some.offence.row) _ _
      (omega (arith, c.in-Some.ensures.numbered)) c.args.self.now.within
      c.report_before-report.ensures.within c.report_before-report.ensures.rows);
}

pub returns-clause-ended : goal.returns-clause-ended
returns-clause-ended c scope rows row ended on =
    next_stands c.transcripts_have_one_act_list.ensures c.args.self.now _ scope rows row ended
    c.in-Some.offence c.report_before-report.result c.running-stretch.result
    c.asked_before-asked.result on
    (sym c.offence.ensures.met ∙ c.in-Some.is)
    c.report_before-report.ensures.before c.running-stretch.ensures c.scoped.ensures.stands
    (rw c.open_block.ensures at c.asked_before-asked.ensures)
    (c.scoped.ensures.scope ∙ c.scope_after-self.ensures) c.scope_after-self.ensures
    c.begin.ensures refl c.add.ensures.counts c.with-self.ensures
