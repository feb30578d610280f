-- How the code keeps what is known of a reader by the extended profile. `facts_in` says what a
-- value stands for; the rest serves private functions.
use Rattle.std.specs.Prelude.{ℕ, ◌-◌, length, take, Bool, true, false, not, ◌||◌, List, [], Option, Some}
use Rattle.std.specs.Option.{is_none}
use Rattle.mdb_msgs.specs.declared.command.ReaderCommand.{ReaderCommand}
use Rattle.mdb_msgs.specs.declared.command.ReaderCommand.TheVariants as reader
use Rattle.mdb_msgs.specs.declared.command.ReaderUnit.{ReaderUnit}
use Rattle.mdb_bus.specs.declared.act.Act.{Act}
use Rattle.mdb_bus.specs.declared.act.Act.TheVariants as acts
use Rattle.mdb_machine.specs.Known.{Is}
use Rattle.mdb_machine.specs.PastValues.{if_known}
use Rattle.mdb_cashless.specs.declared.approvals.facts.ApprovalFacts.{ApprovalFacts}
use Rattle.mdb_cashless.specs.declared.approvals.sale.Sale.{Sale}
use Rattle.mdb_cashless.specs.declared.approvals.sale.Sale.TheVariants.{Unknown, Unawaited, Awaited, Sold}
use Rattle.mdb_cashless.specs.ExtendedFacts.{Facts, approvals_in}
use Rattle.mdb_cashless.specs.ReaderMessages.{messages_of}
use Rattle.mdb_cashless.specs.Units.{own}

-- what is kept
abbrev pub facts_in : ApprovalFacts → Facts
facts_in facts =
    record {
      config = facts.config;
      amount = facts.amount;
      approvals = if_known facts.knows_told facts.told.items;
      sale = facts.sale;
      earlier = facts.earlier;
    }

-- the same, where this is the sale, and these are the messages 05 of the last reply that had some
abbrev pub assuming : Sale → List ℕ → Facts → Facts
assuming sale last facts = record facts { approvals = Is last; sale = sale }

-- whether a command may change a state or a sum once it is asked, and once it is acknowledged
abbrev pub changes : ReaderCommand → Bool
changes (reader.VendRequest price item) = true
changes (reader.VendSuccess item) = true
changes command = false

abbrev pub takes : ReaderCommand → Bool
takes reader.Poll = true
takes reader.Reset = true
takes (reader.VendSuccess item) = true
takes command = false

-- whether it is known if a sale is sold with the same block, and if an approval is awaited
abbrev pub is_sale_known : Sale → Bool
is_sale_known Unknown = false
is_sale_known Unawaited = false
is_sale_known sale = true

abbrev pub is_awaiting_known : Sale → Bool
is_awaiting_known Unknown = false
is_awaiting_known sale = true

-- whether VEND SUCCESS is a command
abbrev pub is_success : Option ReaderCommand → Bool
is_success (Some (reader.VendSuccess item)) = true
is_success command = false

-- Whether an act has one step at most under each choice, by what is known. VEND SUCCESS may be the
-- same again where that isn't known, an approval may be awaited, and it may be told again.
abbrev pub settled : ReaderUnit → ApprovalFacts → Act → Bool
settled unit facts (acts.Ask command) =
    is_sale_known facts.sale || not (is_success (own unit command))
settled unit facts (acts.Reply command reply) = facts.knows_told || is_none (own unit command)
settled unit facts (acts.VmcAck command reply) =
    is_awaiting_known facts.sale || is_none (own unit command)
settled unit facts act = true

-- What the sale may be besides none at an act that isn't settled: sold with the same block, or
-- awaited.
abbrev pub sold_again : Option ReaderCommand → Sale
sold_again (Some (reader.VendSuccess item)) = Sold item
sold_again command = Awaited

abbrev pub guess : ReaderUnit → Act → Sale
guess unit (acts.Ask command) = sold_again (own unit command)
guess unit act = Awaited

-- What the reader may have told last, besides nothing: the messages 05 of its reply, or all but the
-- last of them.
abbrev pub told_by : Act → List ℕ
told_by (acts.Reply command reply) = approvals_in (messages_of reply)
told_by act = []

abbrev pub front_of : List ℕ → List ℕ
front_of told = take (length told - 1) told
