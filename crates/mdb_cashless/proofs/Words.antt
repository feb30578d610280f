-- The names of std, of the crates below and of the specs that the proofs share. Words such as
-- `Facts`, `taken` and `ReplyStep` are those of the base reader.
pub use Rattle.std.proofs.Common.{All, Bool, List, None, Option, Some, ap, arith, drop, false, if◌then◌else◌, inl, inr, length, map, not, refl, rules, subst, suc, sum_by, sym, true, unwrap_or, zero, ℕ, [], ◌&&◌, ◌*◌, ◌++◌, ◌+◌, ◌-◌, ◌<◌, ◌==◌, ◌||◌, ◌↔◌, ◌∙◌, ◌∷◌, ◌≡◌, ◌≢◌, ◌≤◌, ◌⊎◌, add-one, append_assoc, IfSome, take}
pub use Rattle.std.proofs.Math.Bool.{and-true, or-true}
pub use Rattle.std.proofs.Math.Nat.{eq-or-lt_of_le, zero-add}
pub use Rattle.std.proofs.Math.Seq.{drop-append_seam, take-append_seam, take-length}
pub use Rattle.std.proofs.lemmas.Bool.Decides.{Decides-eqb, eqb_tells, nat_tests}
pub use Rattle.std.proofs.lemmas.Bool.{OnFalse_at, OnFalse_from, OnTrue_at, OnTrue_from, and_parts, eq-eqb, eqb-true, or_cases}
pub use Rattle.std.proofs.lemmas.Grind.{common_steps}
pub use Rattle.std.proofs.lemmas.List.Elements.{All-head, All-tail, Contains-push_cases, All-cons, All-from_recursion, All-nil, Contains-get_or, Contains-push, recursion_from_All}
pub use Rattle.std.proofs.lemmas.List.Folds.{Any-from_list_any, list_any-append}
pub use Rattle.std.proofs.lemmas.List.{append-nil, length-take-le, map-append, take-append-drop, take_more, length-append}
pub use Rattle.std.specs.List.{list_any, Contains}
pub use Rattle.std.specs.Option.{is_none, is_some, option_map_or, option_or, option_map}
pub use Rattle.arrayvec.specs.ArrayVec.{array_vec_len}
pub use Rattle.mdb_bus.specs.Scopes.{profile_of}
pub use Rattle.mdb_bus.specs.declared.act.Act.{Act}
pub use Rattle.mdb_bus.specs.declared.scope.Beginning.TheVariants.{Joined, PowerOn}
pub use Rattle.mdb_bus.specs.declared.scope.Beginning.{Beginning}
pub use Rattle.mdb_bus.specs.declared.scope.Profile.{Profile}
pub use Rattle.mdb_cashless.specs.ByProfile.{base_state, by_profile, extended_state, machine_in, StepOf, strayed}
pub use Rattle.mdb_cashless.specs.ByProfileFacts.{by_base, by_extended, config_of, unvalued}
pub use Rattle.mdb_cashless.specs.ExtendedFacts.{approvals_in, facts_after, sale_all_heard, sale_asked, sale_heard}
pub use Rattle.mdb_cashless.specs.ExtendedReader.{IsEarlier, MaySell, approved_to, IsSale, approve, effect, may_be_again, may_be_either, news}
pub use Rattle.mdb_cashless.specs.Reader.{drops, view_heard, StepKnowing, all_approved, all_approved_to, asked, is_poll, is_repeated, last_transaction, owes_reset, power_on, sold_any, sold_to, take_any, view_answered, view_taken, AckStep, AskStep, ReaderStep, ReplyStep, VmcAckStep, approved, before_messages, machine, read, taken}
pub use Rattle.mdb_cashless.specs.ReaderDevice.{all_told, then_by}
pub use Rattle.mdb_cashless.specs.ReaderFacts.{known_of, AllowsFacts, KnownFacts, asked_by, config_by, effect_of, effect_of_own, ends_transactions, own_messages, own_of, own_transaction, parts_by, taken_told, transaction_taken_by, Facts}
pub use Rattle.mdb_cashless.specs.ReaderMessages.{amount_in, begin_session, config_in, last_said, messages_of, part_of, parts_of, begins_session}
pub use Rattle.mdb_cashless.specs.ReaderValues.{ToldFacts, known_with, told_in, told_with, changes_view, last_after, last_taken, tells_taken, facts_in, facts_of, known_in, settled}
pub use Rattle.mdb_cashless.specs.ReaderView.{all_heard, sent}
pub use Rattle.mdb_cashless.specs.Sales.{EndsInReply, IsRequested, IsUnrequested, LeavesSale, MayBeRequestedBefore}
pub use Rattle.mdb_cashless.specs.Transactions.{amounts, is_again, is_same, no_end, transaction_of, is_request}
pub use Rattle.mdb_cashless.specs.Units.{own, unit_of}
pub use Rattle.mdb_cashless.specs.declared.approvals.sale.Sale.TheVariants.{Awaited, Unawaited, Nothing, Sold}
pub use Rattle.mdb_cashless.specs.declared.approvals.sale.Sale.{Sale}
pub use Rattle.mdb_cashless.specs.declared.approvals.state.ApprovalState.{ApprovalState}
pub use Rattle.mdb_cashless.specs.declared.by_profile.state.StateByProfile.TheVariants.{Base, Extended}
pub use Rattle.mdb_cashless.specs.declared.by_profile.state.StateByProfile.{StateByProfile}
pub use Rattle.mdb_cashless.specs.declared.reader.device.DeviceState.{DeviceState}
pub use Rattle.mdb_cashless.specs.declared.reader.known.ReaderKnown.{ReaderKnown}
pub use Rattle.mdb_cashless.specs.declared.reader.messages.ReaderActivity.{ReaderActivity}
pub use Rattle.mdb_cashless.specs.declared.reader.state.ReaderState.{ReaderState}
pub use Rattle.mdb_cashless.specs.declared.reader.state.TheConstants.{READER_STATES}
pub use Rattle.mdb_cashless.specs.declared.reader.transaction.Ended.{Ended}
pub use Rattle.mdb_cashless.specs.declared.reader.transaction.Transaction.TheVariants.{Cancel, Request, Success}
pub use Rattle.mdb_cashless.specs.declared.reader.transaction.Transaction.{Transaction}
pub use Rattle.mdb_cashless.specs.declared.reader.view.View.{View}
pub use Rattle.mdb_cashless.specs.inner.Approvals.{assuming, changes, front_of, guess, is_awaiting_known, is_sale_known, is_success, sold_again, takes, told_by}
pub use Rattle.mdb_cashless.specs.inner.Guesses.{IsReplyKeeping, OfSome, again, keeping}
pub use Rattle.mdb_cashless.specs.inner.KnowingReader.{stays}
pub use Rattle.mdb_cashless.specs.inner.ReaderSaid.{IsSaid, keeps_some}
pub use Rattle.mdb_cashless.specs.shared.ApprovalWays.{either_parts, known_or_earlier, told_again}
pub use Rattle.mdb_cashless.specs.shared.ByProfileWays.{base_part, extended_part, if_some, of_each, IsPart, goes, power_on_in, still}
pub use Rattle.mdb_cashless.specs.shared.ReaderWays.{goes_on, none_unvalued, same_fields}
pub use Rattle.mdb_machine.proofs.KeptLists.{free_acked, no_restart}
pub use Rattle.mdb_machine.proofs.StepCodes.{AreCoded, coded_below, steps_coded, coded_more}
pub use Rattle.mdb_machine.specs.Choices.{CanStand, is_approval}
pub use Rattle.mdb_machine.specs.Gains.{Stays, controller_gains, device_gains, in_slots, no_gains}
pub use Rattle.mdb_machine.specs.Kept.{IsNew, MayBeRead, held, holds_acked, is_reset, kept_of, HasNews, holds_after}
pub use Rattle.mdb_machine.specs.Known.{Allows, AllowsKept, Is, Known, known_before, known_by, Unknown}
pub use Rattle.mdb_machine.specs.Machine.{Machine, StartsIn}
pub use Rattle.mdb_machine.specs.Pair.{IsBreak, IsOnlyStep, IsStep, own_acts}
pub use Rattle.mdb_machine.specs.Past.{effect_taken, last_list, last_told, or_else, powers_on, resets, tells_out_of_sequence, unless_empty, is_out_of_sequence}
pub use Rattle.mdb_machine.specs.PastValues.{IsSummary, if_known, past_after, first_past, from_power_on, known_past_after, past_in, past_known}
pub use Rattle.mdb_machine.specs.SmallGains.{IsSmall}
pub use Rattle.mdb_machine.specs.Steps.{ForOwn}
pub use Rattle.mdb_machine.specs.declared.choice.Choice.TheVariants.{Again, Lost, Plain, Restart}
pub use Rattle.mdb_machine.specs.declared.choice.Choice.{Choice}
pub use Rattle.mdb_machine.specs.declared.gains.Gains.{Gains}
pub use Rattle.mdb_machine.specs.declared.kept.Part.{Part}
pub use Rattle.mdb_machine.specs.shared.PastWays.{same_known_past, same_past}
pub use Rattle.mdb_msgs.specs.declared.command.Command.{Command}
pub use Rattle.mdb_msgs.specs.declared.command.ReaderCommand.{ReaderCommand}
pub use Rattle.mdb_msgs.specs.declared.command.ReaderUnit.TheVariants.{First, Second}
pub use Rattle.mdb_msgs.specs.declared.command.ReaderUnit.{ReaderUnit}
pub use Rattle.mdb_msgs.specs.declared.reply.Reply.{Reply}
pub use Rattle.mdb_msgs.specs.declared.reply.reader.ReaderMsg.{ReaderMsg}
pub use Rattle.mdb_cashless.specs.declared.reader.messages.ReaderActivity.TheVariants.{VendDenied}
pub use Rattle.mdb_cashless.specs.inner.PlainReader.{own_as}
