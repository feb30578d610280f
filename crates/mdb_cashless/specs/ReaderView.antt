-- The controller's view of a reader's session: what it may send, and what it hears (this profile).
use Rattle.std.specs.Prelude.{Bool, true, false, List, [], ◌∷◌, Option, Some, None, if◌then◌else◌}
use Rattle.mdb_msgs.specs.declared.reply.reader.ReaderMsg.{ReaderMsg}
use Rattle.mdb_msgs.specs.declared.reply.reader.ReaderMsg.TheVariants as messages
use Rattle.mdb_cashless.specs.declared.reader.transaction.Transaction.{Transaction}
use Rattle.mdb_cashless.specs.declared.reader.transaction.Transaction.TheVariants.{Request, Cancel, Success, Failure, Complete}
use Rattle.mdb_cashless.specs.declared.reader.view.View.{View}
use Rattle.mdb_cashless.specs.declared.reader.view.View.TheVariants.{NoSession, Idle, Asked, Waiting, Approved, SuccessOwed, FailureOwed, Ending}
use Rattle.mdb_cashless.specs.Transactions.{is_again}

-- The transaction commands that the controller may send in each view, and the view after them; the
-- same block is that of the last transaction command sent. Any other it may not send.
abbrev pub sent : Option Transaction → Transaction → View → Option View
sent last (Request price item) Idle = Some Asked
sent last Complete Idle = Some Ending
sent last (Request price item) Asked =
    if is_again last (Request price item) then Some Asked else None
sent last Cancel Asked = Some Waiting
sent last Cancel Waiting = Some Waiting
sent last (Success item) Approved = Some SuccessOwed
sent last Failure Approved = Some FailureOwed
sent last (Success item) SuccessOwed =
    if is_again last (Success item) then Some SuccessOwed else None
sent last Failure FailureOwed = Some FailureOwed
sent last Complete Ending = Some Ending
sent last transaction before = None

-- whether the controller has heard the approval of a sale that hasn't ended
abbrev pub has_approved : View → Bool
has_approved Approved = true
has_approved before = false

-- the view after hearing that a transaction command was taken
abbrev pub taken : View → View
taken Asked = Waiting
taken SuccessOwed = Idle
taken FailureOwed = Idle
taken before = before

-- whether the controller awaits the reader's decision on a sale
abbrev pub awaits : View → Bool
awaits Asked = true
awaits Waiting = true
awaits before = false

-- the view after hearing a message
abbrev pub heard : ReaderMsg → View → View
heard messages.JustReset before = NoSession
heard (messages.BeginSession funds) NoSession = Idle
heard (messages.BeginSessionLong funds media kind details) NoSession = Idle
heard (messages.VendApproved amount) Asked = Approved
heard (messages.VendApproved amount) Waiting = Approved
heard messages.VendDenied Asked = Idle
heard messages.VendDenied Waiting = Idle
heard messages.EndSession Ending = NoSession
heard message before = before

-- the view after hearing messages, one after another
abbrev pub all_heard : List ReaderMsg → View → View
all_heard [] before = before
all_heard (message ∷ messages) before = all_heard messages (heard message before)
