-- Why a reading ended.
use Rattle.mdb_records.specs.Stage.{HasBlockedIn, source_in}
use Rattle.mdb_records.specs.ToCome.{IsPastLimit}
use Rattle.mdb_records.specs.declared.Records.{Records}

-- the reader underneath had no byte yet, and didn't wait for one: so its last failure was, and the
-- text was not seen to go on past the limit
abbrev pub HasBlocked : {R : Type 0} → Records R → Type 0
HasBlocked value = (IsPastLimit value → ⊥) × HasBlockedIn (source_in value.stage)
