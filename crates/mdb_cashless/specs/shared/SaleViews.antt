-- What the controller's view of a session tells of the sale under way. This serves the laws by
-- which each sale follows its approval. Acts stand newest first.
use Rattle.std.specs.Prelude.{◌≡◌, ◌⊎◌, ℕ, List, Some}
use Rattle.mdb_msgs.specs.declared.command.ReaderUnit.{ReaderUnit}
use Rattle.mdb_bus.specs.declared.act.Act.{Act}
use Rattle.mdb_bus.specs.declared.act.Act.TheVariants as acts
use Rattle.mdb_bus.specs.declared.scope.Beginning.{Beginning}
use Rattle.mdb_machine.specs.Past.{last_told}
use Rattle.mdb_cashless.specs.declared.reader.transaction.Transaction.TheVariants.{Success}
use Rattle.mdb_cashless.specs.declared.reader.view.View.{View}
use Rattle.mdb_cashless.specs.declared.reader.view.View.TheVariants.{Asked, Waiting, Approved, SuccessOwed}
use Rattle.mdb_cashless.specs.ReaderFacts.{asked_by}
use Rattle.mdb_cashless.specs.Sales.{EndsInReply, IsApproved, IsRequested, MayBeRequestedBefore}

-- In Asked and Waiting a sale is requested, in Approved the sale of any item is approved, and in
-- SuccessOwed that of the item that was last asked. The other views tell nothing.
abbrev pub TellsOfSale : ReaderUnit → View → List Act → Type 0
TellsOfSale unit Asked so_far = IsRequested unit so_far
TellsOfSale unit Waiting so_far = IsRequested unit so_far
TellsOfSale unit Approved so_far = (item : ℕ) → IsApproved unit item so_far
TellsOfSale unit SuccessOwed so_far = (item : ℕ)
    × (last_told (asked_by unit) so_far ≡ Some (Success item)) × IsApproved unit item so_far
TellsOfSale unit view so_far = Unit {0}

-- In a recording that begins in mid-session a view tells nothing of a sale that may have been
-- requested before.
abbrev pub MayTellOfSale : Beginning → ReaderUnit → View → List Act → Type 0
MayTellOfSale begins unit view so_far =
    TellsOfSale unit view so_far ⊎ MayBeRequestedBefore begins unit so_far

-- where the controller acknowledges a reply, the acts before end in that
abbrev pub AcksLastReply : Act → List Act → Type 0
AcksLastReply (acts.VmcAck command reply) before = EndsInReply command reply before
AcksLastReply act before = Unit {0}
