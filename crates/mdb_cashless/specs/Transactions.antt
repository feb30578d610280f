-- The transaction commands: the five commands of a session (MDB/ICP 4.3, cashless device).
use Rattle.std.specs.Prelude.{◌==◌, ◌&&◌, ℕ, Bool, true, false, List, [], ◌∷◌, Option, Some, None, if◌then◌else◌}
use Rattle.mdb_msgs.specs.declared.command.ReaderCommand.{ReaderCommand}
use Rattle.mdb_msgs.specs.declared.command.ReaderCommand.TheVariants as reader
use Rattle.mdb_cashless.specs.declared.reader.transaction.Ended.{Ended}
use Rattle.mdb_cashless.specs.declared.reader.transaction.Transaction.{Transaction}
use Rattle.mdb_cashless.specs.declared.reader.transaction.Transaction.TheVariants.{Request, Cancel, Success, Failure, Complete}

-- the transaction command that a command is; CASH SALE is none
abbrev pub transaction_of : ReaderCommand → Option Transaction
transaction_of (reader.VendRequest price item) = Some (Request price item)
transaction_of reader.VendCancel = Some Cancel
transaction_of (reader.VendSuccess item) = Some (Success item)
transaction_of reader.VendFailure = Some Failure
transaction_of reader.SessionComplete = Some Complete
transaction_of command = None

-- whether two transaction commands are the same block
abbrev pub is_same : Transaction → Transaction → Bool
is_same (Request price item) (Request other number) = (price == other) && (item == number)
is_same Cancel Cancel = true
is_same (Success item) (Success number) = item == number
is_same Failure Failure = true
is_same Complete Complete = true
is_same one other = false

-- whether this is the last transaction again
abbrev pub is_again : Option Transaction → Transaction → Bool
is_again None transaction = false
is_again (Some last) transaction = is_same last transaction

-- whether the last transaction is a VEND REQUEST
abbrev pub is_request : Option Transaction → Bool
is_request (Some (Request price item)) = true
is_request last = false

-- no sale ends
abbrev pub no_end : Ended
no_end = record { sold = 0 }

-- what a transaction command adds to the accounts where it comes after the approval of a sale of
-- this value
abbrev pub ended : Transaction → ℕ → Ended
ended (Success item) value = record { sold = value }
ended transaction value = no_end

-- what a command adds, where a sale of this value is approved, or none
abbrev pub ended_by : Bool → ReaderCommand → ℕ → Ended
ended_by approved command value =
    elim (transaction_of command) [
      | Some transaction ↦ if approved then ended transaction value else no_end
      | None ↦ no_end
    ]

-- the amounts by slot: what was approved, and what ended
abbrev pub amounts : ℕ → Ended → List ℕ
amounts approved end = approved ∷ end.sold ∷ []
