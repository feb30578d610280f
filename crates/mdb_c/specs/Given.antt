-- What a caller is given: a code, the bytes of the report's buffer, and what is told beside them.
use Rattle.std.specs.Prelude.{◌≡◌, ◌<◌, ◌≤◌, ◌++◌, ℕ, List, Result, Ok, Err, drop, length}
use Rattle.mdb_bus.specs.declared.scope.Scope.{Scope}
use Rattle.mdb_text.specs.Text.{report_text}
use Rattle.mdb_text.specs.declared.outcome.Outcome.{Outcome}
use Rattle.mdb_verdict.specs.declared.fault.RunFault.{RunFault}
use Rattle.mdb_c.specs.Codes.{fault_code, fault_number, fault_row, verdict_code, verdict_row}
use Rattle.mdb_c.specs.declared.call.MdbcheckTold.{MdbcheckTold}
use Rattle.mdb_c.specs.declared.codes.TheConstants.{NO_ROOM}

-- The text of a verdict stands in front of the buffer, whose other bytes stay as they were, and the
-- code is the verdict's; where the text has no room, the whole buffer stays, and the code says so.
pub data IsPut (text : List ℕ) (outcome : Outcome) (before : List ℕ) (code : ℕ)
    (after : List ℕ) : Type 0 where
  whole : length text ≤ length before → code ≡ verdict_code outcome
      → after ≡ text ++ drop (length text) before → IsPut text outcome before code after
  no_room : length before < length text → code ≡ NO_ROOM → after ≡ before
      → IsPut text outcome before code after

-- nothing is told
abbrev pub nothing_told : MdbcheckTold
nothing_told = record { row = 0; length = 0; fault = 0 }

-- What is given for an answer, in a buffer that had these bytes before.
abbrev pub IsGiven : Scope → Result Outcome RunFault → List ℕ → ℕ → List ℕ → MdbcheckTold → Type 0
IsGiven scope (Ok outcome) before code after told =
    IsPut (report_text scope outcome) outcome before code after
    × (told ≡ record {
      row = verdict_row outcome;
      length = length (report_text scope outcome);
      fault = 0;
    })
IsGiven scope (Err fault) before code after told =
    (code ≡ fault_code fault) × (after ≡ before)
    × (told ≡ record { row = fault_row fault; length = 0; fault = fault_number fault })
