-- The value of a summary has no float.
use Rattle.mdb_survey.proofs.Words.{ap, ◌∙◌, has_float}
use Rattle.mdb_survey.proofs.Floats.{of_summary}
use Rattle.mdb_survey.proofs.json_text.push_summary.Goals as goal

pub push_line-requires : goal.push_line-requires
push_line-requires c =
    ap has_float c.in_ok-value.ensures ∙ of_summary c.args.profile c.args.summary.now
