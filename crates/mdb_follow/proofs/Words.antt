-- The names of std, of the crates below and of this crate's specs that its proofs share.
pub use Rattle.std.proofs.Common.{Bool, Err, List, None, Ok, Option, Result, Some, add-one, add-zero, ap, append-nil, append_assoc, arith, cond, eqb, false, get_or, inl, inr, length, map, nat_eq, nat_lt, not, refl, rules, set, subst, suc, sym, take, true, unwrap_or, zero, ℕ, [], ◌&&◌, ◌*◌, ◌++◌, ◌+◌, ◌<◌, ◌^◌, ◌||◌, ◌∙◌, ◌∷◌, ◌≡◌, ◌≢◌, ◌≤◌, ◌⊎◌, drop}
pub use Rattle.std.proofs.Math.Logic.{∥∥₁_elim, ∥∥₁_map}
pub use Rattle.std.proofs.lemmas.Bool.{cases_eq, cases_lt, false_from_ne_true, false≢true, OnFalse_at, OnFalse_from, OnTrue_at, OnTrue_from}
pub use Rattle.std.proofs.lemmas.Bool.Decides.{nat_tests}
pub use Rattle.std.proofs.lemmas.Int.{clamps, ints}
pub use Rattle.std.proofs.lemmas.List.{length-map, take_all, take_more, get_or-set_other, get_or_append_left, get_or-set_same, length-set, length-take-le}
pub use Rattle.std.proofs.lemmas.List.Elements.{All-append, All-cons, All-contains, All-head, All-nil, All-push, All-tail, Contains-append_cases, Contains-append_left, Contains-append_right, Contains-get_or, Contains-push, Contains-push_cases, All-from_recursion}
pub use Rattle.std.proofs.lemmas.List.Sums.{sum_by-cons}
pub use Rattle.std.proofs.lemmas.Option.{none-some, same_Some}
pub use Rattle.std.proofs.lemmas.Result.{IfErr-weaker, IfOk-weaker, on_err_weaker}
pub use Rattle.std.specs.Bool.{OnFalse, OnTrue}
pub use Rattle.std.specs.List.{AllByRecursion, count_by, list_any}
pub use Rattle.std.specs.Prelude.{All, Contains, IfErr, IfOk, IfSome, IsErrAnd, IsSomeAnd, IsTrue, OnErr, if◌then◌else◌, pos, slice_index_or, slice_set, ℤ, ◌+ℤ◌, ◌-ℤ◌, ◌==◌, ◌↔◌, ◌≤ℤ◌}
pub use Rattle.mdb_words.specs.declared.event.Event.{Event}
pub use Rattle.mdb_msgs.specs.Commands.{device_of}
pub use Rattle.mdb_msgs.specs.DeviceSets.{has}
pub use Rattle.mdb_msgs.specs.Devices.{same_device}
pub use Rattle.mdb_msgs.specs.declared.command.Device.{Device}
pub use Rattle.mdb_msgs.specs.declared.command.ReaderUnit.{ReaderUnit}
pub use Rattle.mdb_msgs.specs.declared.command.ReaderUnit.TheVariants.{First, Second}
pub use Rattle.mdb_msgs.specs.shared.SameDevices.{is_one, says}
pub use Rattle.mdb_bus.specs.ActLists.{ArePieces, IsActList, Piece, Position, Whole, acts_of, events_of, piece_events, Replied, Returned, first_position, position_of}
pub use Rattle.mdb_bus.specs.Bus.{GoesOn, Grown, open_block_of}
pub use Rattle.mdb_bus.specs.LeavingOut.{IsLeftOut, LeavesOutMore, acts_with, breaks_among, device_in, is_left_out, leave_out, with_foreign}
pub use Rattle.mdb_bus.specs.LinkFaults.{IsLinkFault, RowBreaks, blame_on, situation_of}
pub use Rattle.mdb_bus.specs.Loss.{IsHeard, Loss, LossFits}
pub use Rattle.mdb_bus.specs.Pieces.{GoesOnFrom, HasActList, IsTail, act_in, with_act}
pub use Rattle.mdb_bus.specs.Scopes.{IsFollowed, profile_of}
pub use Rattle.mdb_bus.specs.declared.act.Act.{Act}
pub use Rattle.mdb_bus.specs.declared.fault.Blame.{Blame}
pub use Rattle.mdb_bus.specs.declared.fault.LinkFault.{LinkFault}
pub use Rattle.mdb_bus.specs.declared.fault.Rule.{Rule}
pub use Rattle.mdb_bus.specs.declared.scope.Beginning.{Beginning}
pub use Rattle.mdb_bus.specs.declared.scope.Beginning.TheVariants.{Joined, PowerOn}
pub use Rattle.mdb_bus.specs.declared.scope.Profile.{Profile}
pub use Rattle.mdb_bus.specs.declared.scope.Scope.{Scope}
pub use Rattle.mdb_machine.proofs.Slots.{at_slot, none_at, small_at}
pub use Rattle.mdb_machine.proofs.Ways.{plain_or_not, step_as, by_second, plain_only}
pub use Rattle.mdb_machine.specs.Choices.{CanStand}
pub use Rattle.mdb_machine.specs.Gains.{by_slot, no_gains}
pub use Rattle.mdb_machine.specs.Machine.{Machine}
pub use Rattle.mdb_machine.specs.Pair.{IsActOf, IsBreak, IsChosenStep, IsMachineOf, IsMove, IsOtherMove, IsStep, own_acts}
pub use Rattle.mdb_machine.specs.SmallGains.{IsSmall}
pub use Rattle.mdb_machine.specs.declared.choice.Choice.{Choice}
pub use Rattle.mdb_machine.specs.declared.choice.Choice.TheVariants.{Again, Lost, Plain}
pub use Rattle.mdb_machine.specs.declared.gains.Gains.{Gains}
pub use Rattle.mdb_machine.specs.declared.gains.TheConstants.{SLOTS}
pub use Rattle.mdb_cashless.specs.declared.by_profile.state.StateByProfile.{StateByProfile}
pub use Rattle.mdb_follow.specs.AccountRanges.{IsAccount}
pub use Rattle.mdb_follow.specs.Arrivals.{Arrives}
pub use Rattle.mdb_follow.specs.Cells.{IsCell, account_by, cell_in, slot_account, joined_range, joined_slot, moved_range, moved_slot}
unfoldable pub use Rattle.mdb_follow.specs.Cells.{joined_cell, moved_cell}
pub use Rattle.mdb_follow.specs.Choosing.{AllFollow, Choices, Follows, choices_of}
pub use Rattle.mdb_follow.specs.Counted.{counted_with}
pub use Rattle.mdb_follow.specs.Feeding.{HasRefused, HasTakenRows}
pub use Rattle.mdb_follow.specs.FirstOffences.{HasOffence}
pub use Rattle.mdb_follow.specs.LeavingOut.{AreSumsWithout, IsNotKnown, HasNothingLeftOut, HaveSameFollowed}
pub use Rattle.mdb_follow.specs.Limits.{IsAccountWithin, IsCellWithin, IsRangeWithin, IsTableWithin}
pub use Rattle.mdb_follow.specs.Machines.{StateOf, machine_of}
pub use Rattle.mdb_follow.specs.Offences.{HasNoStep, IsOffence, NoStep, rule_of, BreaksLink, BreaksMachine, act_fault}
pub use Rattle.mdb_follow.specs.Ranges.{IsRange, no_account, no_range}
pub use Rattle.mdb_follow.specs.Report.{AreAccounts, IsReport, decimals_of, device_facts_in, device_facts_of, device_report, device_report_of, report_of, unvalued_of}
pub use Rattle.mdb_follow.specs.ReportedDevices.{device_place, reported_of}
pub use Rattle.mdb_follow.specs.Runs.{AllSums, IsReached, IsWay, Run, States}
pub use Rattle.mdb_follow.specs.Sides.{AreSides, SideOf, side_in, stands_for, FactsOf, IsSideOf, code_of, side_spec_of}
pub use Rattle.mdb_follow.specs.SilenceGrowth.{SilenceGoesOn, ask_in, asks_after, ended, limit_in, AllGoOn, OneGoesOn}
pub use Rattle.mdb_follow.specs.Silences.{TimedAsk, asks_of, counts_of, first_ask, is_silence, last_start, limit_of, no_counts, with_ask}
pub use Rattle.mdb_follow.specs.SilencesKept.{AllStandForAsks, AreAtMost, silence_in, StandsForAsks, deadline_of}
pub use Rattle.mdb_follow.specs.Sums.{AccountSums, Sums, added, no_sums}
pub use Rattle.mdb_follow.specs.Tables.{ArrivesAnywhere, ArrivesAt, Bounds, EachArrives, IsTable}
pub use Rattle.mdb_follow.specs.declared.account.Account.{Account}
pub use Rattle.mdb_follow.specs.declared.account_name.AccountName.{AccountName}
pub use Rattle.mdb_follow.specs.declared.account_name.TheConstants.AccountName.{ALL}
pub use Rattle.mdb_follow.specs.declared.cell.Cell.{Cell}
pub use Rattle.mdb_follow.specs.declared.offence.Offence.{Offence}
pub use Rattle.mdb_follow.specs.declared.range.Range.{Range}
pub use Rattle.mdb_follow.specs.declared.report.Report.{Report}
pub use Rattle.mdb_follow.specs.declared.report.TheConstants.Report.{DEVICES}
pub use Rattle.mdb_follow.specs.declared.sides.Sides.{Sides}
pub use Rattle.mdb_follow.specs.declared.silence.Silence.{Silence}
pub use Rattle.mdb_follow.specs.declared.silence.Silences.{Silences}
pub use Rattle.mdb_follow.specs.declared.silence.Unanswered.TheVariants.{Counted, Nothing, Until}
pub use Rattle.mdb_follow.specs.inner.Entries.{AllRest, AreApart, AreBelow, AreMoves, HasAt, IsKeyed, IsPlaced, Lacks, LeadTo, RestsAt, joined_cells, moves_of, with_cell, with_moves}
pub use Rattle.mdb_follow.specs.inner.SidesLed.{AreStanding, AreWithin, FollowsOf, IsSideWithin, IsWithin, OneFollows, SidesFollow, SidesStay, SidesStop, Stops}
pub use Rattle.mdb_follow.specs.AccountNames.{account_device, account_of, account_slot, sums_of, account_in}
pub use Rattle.mdb_follow.specs.Senders.{sender_of}
pub use Rattle.std.proofs.Math.Seq.{split_at, take-append-add, get_or-append_seam, take-set-lt}
pub use Rattle.mdb_follow.specs.Sales.{SalesFollowApprovals}
pub use Rattle.mdb_follow.specs.inner.FollowerActs.{HasFollowedAct, HasStopped, IsLike}
pub use Rattle.mdb_cashless.specs.ByProfile.{StepOf, machine_in, base_state, by_profile, extended_state}
pub use Rattle.mdb_cashless.specs.Sales.{EndsInReply, IsApproved, MayBeRequestedBefore, SalesAreApproved}
