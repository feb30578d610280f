-- The names of std, of the crates below and of this crate's specs that its proofs share.
pub use Rattle.std.proofs.Common.{[], ap, arith, Bool, drop, false, if◌then◌else◌, inl, inr, length, List, None, Option, refl, rules, Some, subst, sym, true, ℕ, ◌<◌, ◌^◌, ◌↔◌, ◌∙◌, ◌∷◌, ◌≡◌, ◌⊎◌}
pub use Rattle.std.proofs.lemmas.Bool.{eq-eqb, eqb-true}
pub use Rattle.mdb_msgs.specs.declared.command.Command.TheVariants.{Bill, Changer}
pub use Rattle.mdb_machine.proofs.KeeperConduct.{idle, unheard, unread}
pub use Rattle.mdb_machine.proofs.Knowing.{rests_knowing, still_knowing, unheeded_knowing}
pub use Rattle.mdb_machine.proofs.MidSession.{any_asked, held_ways, no_way, settled_steps, silent_way, some_told}
pub use Rattle.mdb_machine.proofs.PowerOn.{power_on_known, power_on_steps}
pub use Rattle.mdb_machine.proofs.Slots.{below_at}
pub use Rattle.mdb_machine.proofs.StepCodes.{coded_below, steps_coded}
pub use Rattle.mdb_machine.proofs.Wider.{AreAmong, enabling, steps_from_power_on, steps_in_mid_session, Widens}
pub use Rattle.mdb_machine.specs.KeeperValues.{facts_in}
pub use Rattle.mdb_machine.specs.declared.choice.Choice.{Choice}
pub use Rattle.mdb_machine.specs.declared.gains.Gains.{Gains}
pub use Rattle.mdb_cash.specs.Bill.{MayReturn, MayStack, MovesBill, MovesBills, StacksBill}
pub use Rattle.mdb_cash.specs.Changer.{dispensed_value, is_last, machine}
pub use Rattle.mdb_cash.specs.declared.bill.activity.BillActivity.{BillActivity}
pub use Rattle.mdb_cash.specs.declared.bill.activity.BillActivity.TheVariants.{Stacked}
pub use Rattle.mdb_cash.specs.declared.bill.state.BillType.{BillType}
pub use Rattle.mdb_cash.specs.declared.bill.state.Escrow.{Escrow}
pub use Rattle.mdb_cash.specs.declared.changer.activity.ChangerActivity.TheVariants.{CashBox, Dispensed}
pub use Rattle.mdb_cash.specs.declared.changer.state.ChangerState.{ChangerState}
pub use Rattle.mdb_cash.specs.shared.BillCodes.{same_type}
