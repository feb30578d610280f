-- What is told of records while they are read, where `Is` says which text goes with which answer.
use Rattle.std.specs.Prelude.{◌≡◌, ◌≢◌, ◌⊎◌, ℕ, List, ⊤, Option, Some, None, Result, Ok, Err, IfErr, IfSome, IsSome}
use Rattle.std.specs.Io.KnownBytes.{Appends}
use Rattle.mdb_records.specs.declared.ReadFault.{ReadFault}
use Rattle.mdb_records.specs.declared.ReadFault.TheVariants as reading
use Rattle.mdb_records.specs.declared.Records.{Records}
use Rattle.mdb_records.specs.ToCome.{IsOverLimit, fault_of}
use Rattle.mdb_bus.specs.declared.scope.Scope.{Scope}
use Rattle.mdb_text.specs.declared.outcome.Outcome.{Outcome}
use Rattle.mdb_verdict.specs.declared.fault.RunFault.{RunFault}
use Rattle.mdb_verdict.specs.declared.fault.RunFault.TheVariants.{BadRow, TooLong, Read, Write, Memory}
use Rattle.mdb_verdict.specs.Verdict.{IsAnswer}
use Rattle.mdb_writing.specs.Answers.{IsCutShort}
use Rattle.mdb_writing.specs.Output.{Breaks, Output}
use Rattle.mdb_writing.specs.Written.{HasTaken}

-- an answer that the records themselves have: every one but a refused read, write or memory
abbrev pub IsOwnAnswer : {Answer : Type 0} → Result Answer RunFault → Type 0
IsOwnAnswer (Ok answer) = ⊤
IsOwnAnswer (Err (BadRow row fault)) = ⊤
IsOwnAnswer (Err TooLong) = ⊤
IsOwnAnswer (Err Read) = ⊥
IsOwnAnswer (Err Write) = ⊥
IsOwnAnswer (Err Memory) = ⊥

-- an input is answered that it can't be read only where the reading of its records met that
abbrev pub HasCause : Option ReadFault → RunFault → Type 0
HasCause met fault = fault ≡ Read → met ≡ Some reading.Read

-- What is known of records to which it is answered that memory is out: their reading met that, or
-- they have a verdict. So records without a verdict are answered so for their reading alone. Of
-- those that have one this says nothing. The contracts of std say where no more memory is needed,
-- but not that it was refused.
abbrev pub HasNoRoom : Scope → ℕ → List (List (List ℕ)) → Option ReadFault → Type 0
HasNoRoom scope limit records met = (met ≡ Some reading.Memory)
    ⊎ ((outcome : Outcome) × IsAnswer scope limit records (Ok outcome))

-- By the bytes that a writer held before and after: it took the text of the answer; or the answer
-- is that it failed, and it took a front of a text.
abbrev pub Tells : {Answer : Type 0} → (Result Answer RunFault → List ℕ → Type 0)
    → Option (List ℕ) → Option (List ℕ) → Result Answer RunFault → Type 0
Tells Is before after answer =
    ((text : List ℕ) × Is answer text × Appends before after text)
    ⊎ ((answer ≡ Err Write) × IsCutShort Is before after)

-- a fault that may be answered where reading met a fault: that one, a failed writer, or refused
-- memory
abbrev pub IsMetBy : ReadFault → RunFault → Type 0
IsMetBy met (BadRow row fault) = ⊥
IsMetBy met TooLong = ⊥
IsMetBy met Read = met ≡ reading.Read
IsMetBy met Write = ⊤
IsMetBy met Memory = ⊤

-- How an answer goes with the reading of the records. `IsNotWhole` says that an answer isn't one to
-- all records. Such an answer comes where the text is longer than allowed (`over_limit`), and where
-- reading met a fault (`met`). `Read` is answered only where reading met it (`heard`). After a
-- fault of reading no other fault is answered but a failed writer or refused memory (`told`).
pub record Reads {R Answer : Type 0} (IsNotWhole : Result Answer RunFault → Type 0)
    (remaining : R → Option (List ℕ)) (old new : Records R) (answer : Result Answer RunFault)
    : Type 0 where
  pub over_limit : IsOverLimit remaining old → IsNotWhole answer
  pub heard : IfErr answer (HasCause (fault_of new))
  pub met : fault_of old ≡ None → IsSome (fault_of new) → IsNotWhole answer
  pub told : fault_of old ≡ None → IfSome (fault_of new) (λ fault. IfErr answer (IsMetBy fault))

-- The rest of this file serves `Printer` and private functions.

-- Why a text isn't on its way: the writer failed with a front of what waited and of the text; or
-- memory was refused, and the output is as it was. No other fault keeps a text back.
abbrev pub IsNotTaken : RunFault → Output → Output → List ℕ → Type 0
IsNotTaken (BadRow row fault) before after text = ⊥
IsNotTaken TooLong before after text = ⊥
IsNotTaken Read before after text = ⊥
IsNotTaken Write before after text = Breaks before after text
IsNotTaken Memory before after text = after ≡ before

-- What waits is written at the end, and this is the answer at last (`last`):
--   * the writer had failed before: it is given nothing more, and the answer stays
--   * it took all that waited, and the answer stays
--   * it failed at a front of that, and so is the answer
pub data IsFinished {Answer : Type 0} (answer : Result Answer RunFault) (now : Output)
    (later : Option (List ℕ)) (last : Result Answer RunFault) : Type 0 where
  broken : answer ≡ Err Write → last ≡ answer → later ≡ now.held → IsFinished answer now later last
  whole : answer ≢ Err Write → last ≡ answer → Appends now.held later now.waiting
      → IsFinished answer now later last
  cut : answer ≢ Err Write → last ≡ Err Write → HasTaken now.held later now.waiting
      → IsFinished answer now later last

-- a fault of the output
abbrev pub IsOfOutput : RunFault → Type 0
IsOfOutput (BadRow row fault) = ⊥
IsOfOutput TooLong = ⊥
IsOfOutput Read = ⊥
IsOfOutput Write = ⊤
IsOfOutput Memory = ⊤
