-- Sales in runs: what is sold was approved before.
use Rattle.std.specs.Prelude.{List}
use Rattle.mdb_words.specs.declared.event.Event.{Event}
use Rattle.mdb_msgs.specs.declared.command.ReaderUnit.{ReaderUnit}
use Rattle.mdb_bus.specs.ActLists.{acts_of}
use Rattle.mdb_cashless.specs.Sales.{SalesAreApproved}
use Rattle.mdb_follow.specs.Runs.{AllSums, Run}
use Rattle.mdb_bus.specs.declared.scope.Scope.{Scope}

-- In every run of the rows, each sale at either reader follows its approval. In a recording that
-- begins in mid-session so does each before which the controller requests one there.
abbrev pub SalesFollowApprovals : Scope → List Event → Type 0
SalesFollowApprovals scope rows = (sums : AllSums) (run : Run scope rows sums) (unit : ReaderUnit)
    → SalesAreApproved scope.begins unit (acts_of run.pieces)
