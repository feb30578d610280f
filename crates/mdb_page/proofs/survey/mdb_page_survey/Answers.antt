-- A survey has an answer, by how its reading ended.
use Rattle.std.proofs.Common.{◌∙◌, arith, refl}
use Rattle.mdb_page.proofs.Surveys.{had_room, surveyed}
use Rattle.mdb_page.proofs.survey.mdb_page_survey.Goals as goal

pub returns-clause-surveyed : goal.returns-clause-surveyed
returns-clause-surveyed c valid fits =
    let scope = c.in-Some.scope in
    let stop = c.survey_lines-stop.result in
    let now = c.survey_lines-stop.new in
    let ends = c.end_with.ensures.ends fits in
    let has = c.survey_lines-stop.ensures.surveyed (had_room stop _ _ _ _ _ _ _ ends) scope
    c.args.skip c.scoped-surveyor.ensures.stands
    (c.after-listing.ensures.listed c.without_mark-rest.result.now c.args.faults.now _ refl) in (
      scope,
      c.in-Some.ensures.taken,
      surveyed stop _ _ _ c.end_with.new.told c.end_with.new.answer c.end_with.result
          c.without_mark-rest.ensures.rest has
          c.survey_lines-stop.ensures.stops
          (c.ending-last.ensures scope has.rows has.ended has.stands) c.rows-told.ensures ends
          (omega (
            arith,
            c.end_with.ensures.offset,
            c.survey_lines-stop.ensures.left,
            c.without_mark-rest.ensures.shorter,
          ))
          (c.survey_lines-stop.ensures.size ∙ c.after-listing.ensures.size)
          c.end_with.ensures.acts
          (c.end_with.ensures.news
          ∙ c.count-told.ensures c.without_mark-rest.result.now c.args.skip has.ended
          now.faults now.lines has.listed),
    )
