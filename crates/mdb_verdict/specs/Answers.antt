-- What is answered to a text, and what a writer then has of the answer.
use Rattle.std.specs.Prelude.{◌≡◌, ◌≢◌, ◌<◌, ℕ, List, Option, Result, Ok, Err, IfOk, IfErr, IfSome, length}
use Rattle.std.specs.Io.KnownBytes.{Appends}
use Rattle.csv.specs.Reading.{default_config, records, strip_bom}
use Rattle.mdb_text.specs.declared.outcome.Outcome.{Outcome}
use Rattle.mdb_verdict.specs.Verdict.{IsNoYes}
use Rattle.mdb_writing.specs.Written.{HasTaken}

-- There is an outcome, and a writer took a front of what is written of it (`text`).
pub record IsCutIn {Fault : Type 0} (IsAnswer : Result Outcome Fault → Type 0)
    (text : Outcome → List ℕ) (before after : Option (List ℕ)) : Type 0 where
  pub outcome : Outcome
  pub is : IsAnswer (Ok outcome)
  pub taken : HasTaken before after (text outcome)

-- The answer to records. `broken` is the fault that says that the writer failed: then the writer
-- took a front of what is written of some outcome.
pub record Answers {Fault : Type 0} (IsAnswer : Result Outcome Fault → Type 0)
    (text : Outcome → List ℕ) (broken : Fault) (before after : Option (List ℕ))
    (result : Result Outcome Fault) : Type 0 where
  pub answer : IsAnswer result
  pub cut : result ≡ Err broken → IsCutIn IsAnswer text before after

-- What the writer has afterwards: all that is written of an outcome. With a fault other than
-- `broken` it is as it was.
pub record Leaves {W Fault : Type 0} (contents : W → Option (List ℕ)) (text : Outcome → List ℕ)
    (broken : Fault) (old new : W) (result : Result Outcome Fault) : Type 0 where
  pub written : IfOk result (λ outcome. Appends (contents old) (contents new) (text outcome))
  pub nothing_written : IfErr result (λ fault. fault ≢ broken → new ≡ old)

-- Both, of the text that a reader has left. Where that text is known, its records have this answer,
-- and it is no yes if the text has more than `bytes_max` bytes. What the writer has afterwards
-- holds for every reader.
pub record AnswersText {W Fault : Type 0} (contents : W → Option (List ℕ))
    (IsAnswer : List (List (List ℕ)) → Result Outcome Fault → Type 0) (text : Outcome → List ℕ)
    (broken : Fault) (bytes_max : ℕ) (remaining : Option (List ℕ)) (old new : W)
    (result : Result Outcome Fault) : Type 0 where
  pub answers : IfSome remaining (λ bytes.
      Answers (IsAnswer (records default_config (strip_bom bytes))) text broken (contents old)
      (contents new) result)
  pub whole : IfSome remaining (λ bytes. bytes_max < length bytes → IsNoYes result)
  pub leaves : Leaves contents text broken old new result
