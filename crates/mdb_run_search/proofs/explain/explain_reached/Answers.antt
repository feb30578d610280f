-- The marks of the best ways of all devices explain the goal.
use Rattle.mdb_run_search.proofs.Words.{◌∙◌, if-ok}
use Rattle.mdb_run_search.proofs.Explained.{explained_all, list-of-seeker, ways-of-seeker}
use Rattle.mdb_run_search.proofs.explain.explain_reached.Goals as goal

pub marks_of_all-requires : goal.marks_of_all-requires
marks_of_all-requires c =
    let on = c.in_ok-seeker.ensures.stands in
    let its = ways-of-seeker on c.args.profile c.args.without
    (c.in_ok-seeker.ensures.scope ∙ c.from_power_on.ensures)
    (c.transcripts_have_one_act_list.ensures _) c.requires.reached in
    (c.args.profile, c.args.goal.now, on.pieces, its.0, its.1)

pub returns : goal.returns
returns c =
    let profile = c.args.profile in
    let without = c.args.without in
    let on = c.in_ok-seeker.ensures.stands in
    let one = c.transcripts_have_one_act_list.ensures in
    let same = c.in_ok-seeker.ensures.scope ∙ c.from_power_on.ensures in
    let its = ways-of-seeker on profile without same (one _) c.requires.reached in
    if-ok c.marks_of_all.result _ _ (λ all are. explained_all
    (record {
      joins = c.ways_with_choices_join.ensures;
      one_list = one;
      told = c.own_acts_are_those_that_a_device_has_a_part_in.ensures.test;
    }) profile without c.args.events.now on.pieces (list-of-seeker on profile without same)
    c.args.goal.now all.items (are profile c.args.goal.now on.pieces its.0 its.1))
    c.marks_of_all.ensures
