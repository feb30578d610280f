-- What standard error is told where there is no answer.
use Rattle.std.specs.Prelude.{◌≡◌, ◌↔◌, ℕ, List, ◌++◌, codes, Option}
use Rattle.std.specs.Fmt.{decimal}
use Rattle.mdb_follow.specs.declared.follower.TheConstants.{ROWS_MAX}
use Rattle.mdb_records.specs.Cause.{HasBlocked}
use Rattle.mdb_records.specs.ToCome.{IsPastLimit}
use Rattle.mdb_records.specs.declared.Records.{Records}
use Rattle.mdb_records.specs.declared.ReadCause.{ReadCause}
use Rattle.mdb_records.specs.declared.ReadCause.TheVariants.{Failed, WouldBlock, OverLimit}
use Rattle.mdb_text.specs.Text.{line}
use Rattle.mdb_writing.specs.Written.{HasTaken}
use Rattle.mdb_verdict.specs.declared.verdict.TheConstants.{BYTES_MAX}

-- the line on more rows than there may be
abbrev pub excess_line : List ℕ
excess_line = line (codes "mdbcheck: more than " ++ decimal ROWS_MAX ++ codes " rows")

-- the line on an input that can't be read
abbrev pub cause_line : ReadCause → List ℕ
cause_line Failed = line (codes "mdbcheck: the input can't be read")
cause_line WouldBlock =
    line (codes "mdbcheck: the input can't be read: it would have to be waited for")
cause_line OverLimit =
    line (codes "mdbcheck: the input has more than " ++ decimal BYTES_MAX ++ codes " bytes")

-- The line on these records, which can't be read, was written, or a front of it. It says that the
-- text is too long, or would have to be waited for, exactly where it is so.
pub record IsToldCause {R : Type 0} (records : Records R) (before after : Option (List ℕ))
    : Type 0 where
  pub cause : ReadCause
  pub over : cause ≡ OverLimit ↔ IsPastLimit records
  pub blocked : cause ≡ WouldBlock ↔ HasBlocked records
  pub written : HasTaken before after (cause_line cause)
