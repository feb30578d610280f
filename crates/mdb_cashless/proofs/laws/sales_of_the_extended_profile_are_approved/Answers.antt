-- Each sale that the extended profile approves is one by the base profile's law, one after another.
use Rattle.mdb_cashless.proofs.Words.{inl, inr}
use Rattle.mdb_cashless.proofs.ApprovedSales.{approved}
use Rattle.mdb_cashless.proofs.laws.sales_of_the_extended_profile_are_approved.Goals as goal

pub returns-clause-one : goal.returns-clause-one
returns-clause-one c = approved

pub returns-clause-all : goal.returns-clause-all
returns-clause-all c begins unit so_far sales later before item order =
    elim (sales later before item order) [
      | inl is ↦ inl (approved unit item before is)
      | inr may ↦ inr may
    ]
