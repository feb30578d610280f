-- What is told of records while they are read.
use Rattle.mdb_verdict.proofs.Words.{Err, HasCause, IfErr, IfSome, IsHeard, IsOverLimit, IsSome, List, Memory, None, Ok, Option, ReadFault, Records, Result, RunFault, Some, Write, fault_of, inl, inr, refl, run_fault_of, ℕ, ◌∙◌, ◌≡◌}
use Rattle.mdb_records.specs.declared.ReadFault.TheVariants as reading
use Rattle.mdb_verdict.specs.Telling.{IsFinished, IsMetBy, IsNotTaken, IsOfOutput, Reads, Tells, broken, cut, whole}
use Rattle.mdb_writing.specs.Answers.{IsSent}
use Rattle.mdb_writing.specs.Output.{Output, begun}
use Rattle.mdb_writing.proofs.Outputs as outputs

-- The last page is written out.

-- no text goes with the answer that the writer failed
pub told : {Answer : Type 0} (Is : Result Answer RunFault → List ℕ → Type 0)
    → ((text : List ℕ) → Is (Err Write) text → ⊥)
    → (before later : Option (List ℕ)) (now : Output) (answer last : Result Answer RunFault)
    → IsSent Is Write (begun before) now answer → IsFinished answer now later last
    → Tells Is before later last
told Is none before later now answer last (inl puts) (broken failed same held) =
    absurd (none puts.0 (rw failed at puts.1))
told Is none before later now answer last (inr puts) (broken failed same held) = inr (
  same ∙ failed,
  record {
    answer = puts.1.answer;
    text = puts.1.text;
    is = puts.1.is;
    taken = rw held puts.1.broken;
  },
)
told Is none before later now answer last (inl puts) (whole not same written) =
    rw same (inl (puts.0, puts.1, outputs.written_out before later now puts.0 puts.2 written))
told Is none before later now answer last (inr puts) (whole not same written) = absurd (not puts.0)
told Is none before later now answer last (inl puts) (cut not failed taken) = inr (
  failed,
  record {
    answer = answer;
    text = puts.0;
    is = puts.1;
    taken = outputs.broken_out before later now puts.0 puts.2 taken;
  },
)
told Is none before later now answer last (inr puts) (cut not failed taken) = absurd (not puts.0)

-- How an answer stands to the reading of the records.

-- a fault of the output is none of the reading

heard_output : {Answer : Type 0} (met : Option ReadFault) (answer : Result Answer RunFault)
    → IfErr answer IsOfOutput → IfErr answer (HasCause met)
heard_output met (Ok done) of = tt
heard_output met (Err fault) of = λ reads. absurd (rw reads at of)

told_output : {Answer : Type 0} (met : Option ReadFault) (answer : Result Answer RunFault)
    → IfErr answer IsOfOutput → IfSome met (λ failed. IfErr answer (IsMetBy failed))
told_output None answer of = tt
told_output (Some failed) (Ok done) of = tt
told_output (Some failed) (Err Write) of = tt
told_output (Some failed) (Err fault) of = search

pub reads_output : {R Answer : Type 0} (IsNotWhole : Result Answer RunFault → Type 0)
    (remaining : R → Option (List ℕ)) (old new : Records R) (answer : Result Answer RunFault)
    → IsNotWhole answer → IfErr answer IsOfOutput → Reads IsNotWhole remaining old new answer
reads_output IsNotWhole remaining old new answer part of = record {
  over_limit = λ over. part;
  heard = heard_output (fault_of new) answer of;
  met = λ none some. part;
  told = λ none. told_output (fault_of new) answer of;
}

pub not_taken_of_output : (fault : RunFault) (before after : Output) (text : List ℕ)
    → IsNotTaken fault before after text → IsOfOutput fault
not_taken_of_output Write before after text not = tt
not_taken_of_output Memory before after text not = tt
not_taken_of_output fault before after text not = absurd not

-- the last page is written out, or the writer fails at it
pub reads_finished : {R Answer : Type 0} (IsNotWhole : Result Answer RunFault → Type 0)
    (remaining : R → Option (List ℕ)) (old new : Records R) (later : Option (List ℕ)) (now : Output)
    (answer last : Result Answer RunFault) → IsNotWhole (Err Write)
    → Reads IsNotWhole remaining old new answer → IsFinished answer now later last
    → Reads IsNotWhole remaining old new last
reads_finished IsNotWhole remaining old new later now answer last part reads
    (broken failed same held) = rw same reads
reads_finished IsNotWhole remaining old new later now answer last part reads
    (whole not same written) = rw same reads
reads_finished IsNotWhole remaining old new later now answer last part reads
    (cut not failed taken) =
    rw failed (reads_output IsNotWhole remaining old new (Err Write) part tt)

-- All rows were read.

none_met : (met : Option ReadFault) → IfSome met (λ failed. ⊥) → IsSome met → ⊥
none_met None known some = absurd cc
none_met (Some failed) known some = known

pub reads_all : {R Answer : Type 0} (IsNotWhole : Result Answer RunFault → Type 0)
    (remaining : R → Option (List ℕ)) (old new : Records R) → (IsOverLimit remaining old → ⊥)
    → (fault_of old ≡ None → IfSome (fault_of new) (λ failed. ⊥))
    → (answer : Result Answer RunFault) → IfErr answer IsOfOutput
    → Reads IsNotWhole remaining old new answer
reads_all IsNotWhole remaining old new over met answer of = record {
  over_limit = λ past. absurd (over past);
  heard = heard_output (fault_of new) answer of;
  met = λ none some. absurd (none_met (fault_of new) (met none) some);
  told = λ none. told_output (fault_of new) answer of;
}

-- A record isn't taken, or can't be read.

told_fault : (met : Option ReadFault) (fault : RunFault)
    → IfSome met (λ failed. fault ≡ run_fault_of failed)
    → IfSome met (λ failed. IsMetBy failed fault)
told_fault None fault known = tt
told_fault (Some reading.Read) fault known = rw known refl
told_fault (Some reading.Memory) fault known = rw known tt

pub reads_fault : {R Answer : Type 0} (IsNotWhole : Result Answer RunFault → Type 0)
    (remaining : R → Option (List ℕ)) (old new : Records R) (fault : RunFault)
    → IsNotWhole (Err fault) → IsHeard (fault_of new) fault
    → (fault_of old ≡ None → IfSome (fault_of new) (λ failed. fault ≡ run_fault_of failed))
    → Reads IsNotWhole remaining old new (Err fault)
reads_fault IsNotWhole remaining old new fault part heard met = record {
  over_limit = λ over. part;
  heard = λ reads. rw reads at heard;
  met = λ none some. part;
  told = λ none. told_fault (fault_of new) fault (met none);
}
