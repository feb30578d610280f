-- An answer as a line of JSON.
use Rattle.std.specs.Prelude.{ℕ, List, [], ◌∷◌, ◌++◌}
use Rattle.serde_json.specs.Written.{compact_text}
use Rattle.mdb_bus.specs.declared.scope.Scope.{Scope}
use Rattle.mdb_text.specs.declared.outcome.Outcome.{Outcome}
use Rattle.mdb_json.specs.Reports.{outcome_data}

-- an answer as JSON, with no space between its tokens
abbrev pub json_text : Scope → Outcome → List ℕ
json_text scope outcome = compact_text (outcome_data scope outcome)

-- what is written for an answer: its JSON and a line feed
abbrev pub json_line : Scope → Outcome → List ℕ
json_line scope outcome = json_text scope outcome ++ 10 ∷ []
