-- A VEND SUCCESS needs an approved sale, and where one is approved it has a step.
use Rattle.mdb_cashless.proofs.Words.{[], ◌∷◌, refl, controller_gains, in_slots, ReaderCommand}
use Rattle.mdb_cashless.proofs.ApprovedSales.{is_told, may_be_told}
use Rattle.mdb_cashless.proofs.Sales.{own_of_unit}
use Rattle.mdb_cashless.proofs.laws.a_sale_is_told_exactly_where_it_is_approved.Goals as goal

pub returns-clause-only : goal.returns-clause-only
returns-clause-only c unit begins so_far item choice before after gains acks approved step =
    let asks = rw (own_of_unit unit (ReaderCommand.VendSuccess item)) at step in
    may_be_told unit begins so_far item asks.0 acks approved asks.1

pub returns-clause-each : goal.returns-clause-each
returns-clause-each c unit begins so_far item choice before may =
    let told = is_told unit begins so_far item may in
    let gains = controller_gains (in_slots (0 ∷ told.0 ∷ [])) in
    let is = own_of_unit unit (ReaderCommand.VendSuccess item) in
    (before, gains, rw is (told.0, told.1, refl, refl))
