-- What is written of an outcome, by the form that is asked for.
use Rattle.std.specs.Prelude.{ℕ, List}
use Rattle.mdb_bus.specs.declared.scope.Scope.{Scope}
use Rattle.mdb_json.specs.Json.{json_line}
use Rattle.mdb_text.specs.declared.form.Form.{Form}
use Rattle.mdb_text.specs.declared.form.Form.TheVariants.{Text, Json}
use Rattle.mdb_text.specs.declared.outcome.Outcome.{Outcome}
use Rattle.mdb_text.specs.Text.{report_text}

-- its text, or its line of JSON
abbrev pub answer_text : Form → Scope → Outcome → List ℕ
answer_text Text = report_text
answer_text Json = json_line
