-- What a writer that may fail has of the text of an answer. `Is` says which text goes with which
-- answer.
use Rattle.std.specs.Prelude.{◌≡◌, ◌⊎◌, ℕ, List, Option, Result, Err}
use Rattle.mdb_writing.specs.Output.{Breaks, Output, Puts}
use Rattle.mdb_writing.specs.Written.{HasTaken}

-- The writer took a front of the text of some answer.
pub record IsCutShort {T E : Type 0} (Is : Result T E → List ℕ → Type 0)
    (before after : Option (List ℕ)) : Type 0 where
  pub answer : Result T E
  pub text : List ℕ
  pub is : Is answer text
  pub taken : HasTaken before after text

-- The same where bytes waited before the text: the writer failed at these and the text.
pub record IsBroken {T E : Type 0} (Is : Result T E → List ℕ → Type 0) (before after : Output)
    : Type 0 where
  pub answer : Result T E
  pub text : List ℕ
  pub is : Is answer text
  pub broken : Breaks before after text

-- The text of the answer came after the bytes that waited. Or the answer is that the writer failed
-- (`failed`), at the text of some answer.
abbrev pub IsSent : {T E : Type 0} → (Result T E → List ℕ → Type 0) → E → Output → Output
    → Result T E → Type 0
IsSent Is failed before after answer =
    ((text : List ℕ) × Is answer text × Puts before after text)
    ⊎ ((answer ≡ Err failed) × IsBroken Is before after)
