-- The survey is written out at the end.
use Rattle.mdb_survey.proofs.Words.{refl, ◌-◌, IsErr, profile_of, found_by, output, IsSurveying, survey_lines_in, reads_finished, told}
use Rattle.mdb_survey.proofs.surveying.survey_records.Goals as goal

pub returns-clause-surveys : goal.returns-clause-surveys
returns-clause-surveys g c all to_come =
    let held = g.W.Write.contents in
    told (IsSurveying (survey_lines_in c.args.form (profile_of c.args.scope.now.begins))
    c.args.scope.now all
    (found_by c.survey_rows-answer.new.records - found_by c.args.records.now)) (λ text is. is)
    (held c.args.writer.now) (held c.finish.new.writer)
    (output (held c.survey_rows-answer.new.writer) c.survey_rows-answer.new.surveying.printer.page)
    c.survey_rows-answer.result c.finish.result
    (rw (c.new-surveying.ensures.form, c.new-surveying.ensures.scope) at
    (c.survey_rows-answer.ensures.surveys all to_come)) c.finish.ensures

pub returns-clause-reads : goal.returns-clause-reads
returns-clause-reads g c =
    reads_finished IsErr g.R.Read.remaining c.args.records.now c.survey_rows-answer.new.records
    (g.W.Write.contents c.finish.new.writer) _ c.survey_rows-answer.result c.finish.result refl
    c.survey_rows-answer.ensures.reads c.finish.ensures
