-- Each guess of what the changer held before the recording leads to one of these ways.
use Rattle.mdb_cash.proofs.Words.{refl, Changer, CashBox, held_ways, no_way, settled_steps, silent_way}
use Rattle.mdb_msgs.specs.declared.command.ChangerCommand.TheVariants.{Poll}
use Rattle.mdb_cash.specs.Changer.{conduct}
use Rattle.mdb_cash.specs.ChangerFacts.{tables}
use Rattle.mdb_cash.specs.shared.ChangerWays.{overlooks}
use Rattle.mdb_cash.proofs.DispenseWays.{free_way, owed_ways}
use Rattle.mdb_cash.proofs.laws.in_mid_session_the_changer_has_these_ways_alone.Goals as goal

pub returns-clause-held : goal.returns-clause-held
returns-clause-held c setups profile so_far command reply before after gains none holds =
    held_ways tables setups profile so_far conduct (Changer command) reply before after gains refl
    none holds overlooks

pub returns-clause-poll : goal.returns-clause-poll
returns-clause-poll c setups profile so_far reply before after gains none holds empty =
    no_way tables setups profile so_far conduct (Changer Poll) reply before after gains refl none
    holds empty refl

pub returns-clause-silent : goal.returns-clause-silent
returns-clause-silent c setups profile so_far command reply before after gains none holds other
    empty =
    silent_way tables setups profile so_far conduct (Changer command) reply before after gains refl
    none holds empty (CashBox 0) other (λ facts. (λ told. told.1, λ same. (tt, same)))

pub returns-clause-owed : goal.returns-clause-owed
returns-clause-owed c = owed_ways

pub returns-clause-free : goal.returns-clause-free
returns-clause-free c = free_way

pub returns-clause-settled : goal.returns-clause-settled
returns-clause-settled c setups profile so_far =
    settled_steps tables setups profile so_far conduct (CashBox 0) overlooks
