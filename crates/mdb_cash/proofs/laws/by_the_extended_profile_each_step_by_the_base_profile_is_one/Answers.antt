-- The extended profile enables each type that the base profile does, however a recording begins.
use Rattle.mdb_cash.specs.Bill as bill
use Rattle.mdb_cash.specs.BillFacts as bill_facts
use Rattle.mdb_cash.specs.Changer as changer
use Rattle.mdb_cash.specs.ChangerFacts as changer_facts
use Rattle.mdb_cash.proofs.Words.{steps_from_power_on, steps_in_mid_session}
use Rattle.mdb_cash.proofs.Wider.{bill_widens, changer_widens}
use Rattle.mdb_cash.proofs.laws.by_the_extended_profile_each_step_by_the_base_profile_is_one.Goals as goal

pub returns-clause-changer : goal.returns-clause-changer
returns-clause-changer c = steps_from_power_on changer_facts.tables changer.conduct changer_widens

pub returns-clause-changer_joined : goal.returns-clause-changer_joined
returns-clause-changer_joined c =
    steps_in_mid_session changer_facts.tables changer.conduct changer_widens

pub returns-clause-bill : goal.returns-clause-bill
returns-clause-bill c = steps_from_power_on bill_facts.tables bill.conduct bill_widens

pub returns-clause-bill_joined : goal.returns-clause-bill_joined
returns-clause-bill_joined c = steps_in_mid_session bill_facts.tables bill.conduct bill_widens
