-- Each guess of what the validator held before the recording leads to one of these ways.
use Rattle.mdb_cash.proofs.Words.{◌≡◌, ap, refl, Bill, Stacked, held_ways, no_way, settled_steps, silent_way}
use Rattle.mdb_msgs.specs.declared.command.BillCommand.TheVariants.{Poll}
use Rattle.mdb_cash.specs.declared.bill.state.BillState.{BillState}
use Rattle.mdb_cash.specs.Bill.{conduct}
use Rattle.mdb_cash.specs.BillFacts.{tables}
use Rattle.mdb_cash.specs.shared.BillWays.{overlooks}
use Rattle.mdb_cash.proofs.laws.in_mid_session_the_validator_has_these_ways_alone.Goals as goal

pub returns-clause-held : goal.returns-clause-held
returns-clause-held c setups profile so_far command reply before after gains none holds =
    held_ways tables setups profile so_far conduct (Bill command) reply before after gains refl none
    holds overlooks

pub returns-clause-poll : goal.returns-clause-poll
returns-clause-poll c setups profile so_far reply before after gains none holds empty =
    no_way tables setups profile so_far conduct (Bill Poll) reply before after gains refl none holds
    empty refl

-- a state is the same where its fields are
same_state : {one other : BillState} → one.escrow ≡ other.escrow → one.holds ≡ other.holds
    → one ≡ other
same_state {one} {other} escrow holds =
    let same : record one { holds = one.holds } ≡ record other { holds = other.holds } =
    cc (escrow, holds) in
    same

pub returns-clause-silent : goal.returns-clause-silent
returns-clause-silent c setups profile so_far command reply before after gains none holds other
    empty =
    silent_way tables setups profile so_far conduct (Bill command) reply before after gains refl
    none holds empty (Stacked 0) other (λ facts. (
      λ told. same_state told.0 told.1,
      λ same. (ap (λ s. s.escrow) same, ap (λ s. s.holds) same),
    ))

pub returns-clause-settled : goal.returns-clause-settled
returns-clause-settled c setups profile so_far =
    settled_steps tables setups profile so_far conduct (Stacked 0) overlooks
