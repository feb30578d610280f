-- The row goes on with the stretch, or ends it, and then its lines are added.
use Rattle.mdb_survey.proofs.Words.{arith, begun, output, profile_of, survey_lines_in}
use Rattle.mdb_survey.proofs.NoRows.{none_are_reached}
use Rattle.mdb_survey.proofs.Surveys.{ends_one, goes_on}
use Rattle.mdb_survey.proofs.surveying.SurveyingTakeRows.take.Goals as goal

pub returns-then-take-clause-taken : goal.returns-then-take-clause-taken
returns-then-take-clause-taken g c start earlier has =
    goes_on (survey_lines_in c.args.self.now.form (profile_of c.args.self.now.scope.begins))
    c.args.self.now.scope c.args.self.now.surveyor _ _ _ earlier c.args.row has
    c.if-take.ensures.counted c.if-take.ensures.taken

pub returns-clause-taken : goal.returns-clause-taken
returns-clause-taken g c start earlier has =
    ends_one (survey_lines_in c.args.self.now.form (profile_of c.args.self.now.scope.begins))
    c.args.self.now.scope c.args.self.now.surveyor _ (begun (g.W.Write.contents start)) _ earlier
    c.args.row has
    (omega (arith, c.end_stretch.ensures.counted, c.if-take.ensures.uncounted))
    (none_are_reached c.followers_stand_for_reached_rows.ensures
    c.fronts_of_reached_rows_are_reached.ensures)
    (output (g.W.Write.contents c.end_stretch.new.writer) c.end_stretch.new.printer.page)
    c.end_stretch.ensures.ended.0
    (λ scope rows ended on. c.end_stretch.ensures.ended.1 scope rows c.args.row ended
    (c.if-take.ensures.halted scope rows ended on)) c.end_stretch.result c.err.result
    c.err.ensures.value c.end_stretch.ensures.ended.2 c.end_stretch.ensures.ended.3
