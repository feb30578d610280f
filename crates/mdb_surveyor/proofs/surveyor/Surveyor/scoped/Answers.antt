-- A new surveyor stands for no rows.
use Rattle.mdb_surveyor.proofs.Words.{refl, ◌∙◌, [], first_place}
use Rattle.mdb_surveyor.proofs.Standing.{told_nothing}
use Rattle.mdb_surveyor.proofs.surveyor.Surveyor.scoped.Goals as goal

pub returns-clause-stands : goal.returns-clause-stands
returns-clause-stands c = record {
  running = [];
  place = first_place c.args.scope.now;
  lead = (refl, refl);
  follows = c.scoped.ensures.stands;
  followed_so = c.scoped.ensures.scope;
  taken_so = c.copy.ensures;
  told = λ pieces list. c.before-2.ensures ∙ told_nothing c.transcripts_have_one_act_list.ensures
      c.args.scope.now _ pieces list;
  before = refl;
  faults = refl;
  totals = refl;
}
