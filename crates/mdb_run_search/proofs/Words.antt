-- The names of std, of the crates below and of this crate's specs that its proofs share.
pub use Rattle.std.proofs.Common.{All, Bool, Contains, Err, List, None, Ok, Option, Result, SFits, Some, add-one, ap, append_assoc, arith, drop, false, get_or, if◌then◌else◌, inl, inr, length, length-append, neg_ℤ, negsuc, of_z, pos, refl, reverse, rules, set, slice_get, subst, sym, take, to_z, true, w64, ℕ, ℤ, [], ◌&&◌, ◌*◌, ◌++◌, ◌+ℤ◌, ◌+◌, ◌-◌, ◌<◌, ◌^◌, ◌↔◌, ◌∙◌, ◌∷◌, ◌≡◌, ◌≢◌, ◌≤ℤ◌, ◌≤◌, ◌⊎◌}
pub use Rattle.std.proofs.Math.Bool.{Bool-set}
pub use Rattle.std.proofs.Math.Seq.{get_or-append_seam, split_at}
pub use Rattle.std.proofs.lemmas.Bool.{cases_eq, false_from_ne_true, false≢true}
pub use Rattle.std.proofs.lemmas.Bool.Decides.{nat_tests}
pub use Rattle.std.proofs.lemmas.Int.{ints, to_z-of_z}
pub use Rattle.std.proofs.lemmas.List.{append_cancel_left, same_from_push, take_all, take_more, append-nil, nil_from_length, get_or-set_other, get_or-set_same, get_or_append_left, get_or_default, length-set, reverse-append}
pub use Rattle.std.proofs.lemmas.List.Elements.{All-append, All-cons, All-contains, All-from_recursion, All-nil, All-push, All-tail, Contains-append_left, Contains-get_or, Contains-push, Contains-push_cases, Contains-append_cases, Contains-append_right}
pub use Rattle.std.proofs.lemmas.Option.{get_or_from_slice_get, same_Some, slice_get_read, none-some, slice_get_within}
pub use Rattle.std.specs.Bool.{OnFalse, OnTrue}
pub use Rattle.std.specs.Prelude.{IfErr, IfOk, IsSomeAnd, OnErr, map, ◌-ℤ◌}
pub use Rattle.mdb_words.specs.declared.event.Event.{Event}
pub use Rattle.mdb_msgs.specs.Commands.{device_of}
pub use Rattle.mdb_msgs.specs.Devices.{same_device}
pub use Rattle.mdb_msgs.specs.declared.command.Device.{Device}
pub use Rattle.mdb_msgs.specs.declared.command.Device.TheVariants.{Bill, Changer, Reader}
pub use Rattle.mdb_msgs.specs.declared.command.ReaderCommand.{ReaderCommand}
pub use Rattle.mdb_msgs.specs.declared.command.ReaderUnit.{ReaderUnit}
pub use Rattle.mdb_msgs.specs.declared.command.ReaderUnit.TheVariants.{First, Second}
pub use Rattle.mdb_msgs.specs.declared.reply.Reply.{Reply}
pub use Rattle.mdb_bus.specs.ActLists.{ArePieces, IsActList, Piece, Whole, acts_of, events_of, piece_events}
pub use Rattle.mdb_bus.specs.Bus.{GoesOn, Grown}
pub use Rattle.mdb_bus.specs.ExtendedHaste.{haste_of, is_excused}
pub use Rattle.mdb_bus.specs.LeavingOut.{IsLeftOut, acts_with, breaks_among, has_part}
pub use Rattle.mdb_bus.specs.LinkFaults.{IsLinkFault, blame_on}
pub use Rattle.mdb_bus.specs.Loss.{Loss, LossFits}
pub use Rattle.mdb_bus.specs.Pieces.{IsTail, HasActList, act_in}
pub use Rattle.mdb_bus.specs.Scopes.{IsFollowed, from_power_on, profile_of}
pub use Rattle.mdb_bus.specs.declared.act.Act.{Act}
pub use Rattle.mdb_bus.specs.declared.bus.Bus.{Bus}
pub use Rattle.mdb_bus.specs.declared.fault.Blame.{Blame}
pub use Rattle.mdb_bus.specs.declared.fault.LinkFault.{LinkFault}
pub use Rattle.mdb_bus.specs.declared.fault.Rule.{Rule}
pub use Rattle.mdb_bus.specs.declared.scope.Beginning.{Beginning}
pub use Rattle.mdb_bus.specs.declared.scope.Beginning.TheVariants.{PowerOn}
pub use Rattle.mdb_bus.specs.declared.scope.Profile.{Profile}
pub use Rattle.mdb_bus.specs.declared.scope.Profile.TheVariants.{Base, Extended}
pub use Rattle.mdb_bus.specs.declared.scope.Scope.{Scope}
pub use Rattle.mdb_machine.specs.Choices.{CanStand, approves}
pub use Rattle.mdb_machine.specs.Gains.{Stays, no_gains}
pub use Rattle.mdb_machine.specs.Kept.{IsNew, MayBeRead, has_reset, keeps_early}
pub use Rattle.mdb_machine.specs.Machine.{Machine}
pub use Rattle.mdb_machine.specs.Pair.{IsActOf, IsBreak, IsMachineOf, IsOnlyStep, IsStep, own_acts}
pub use Rattle.mdb_machine.specs.SmallGains.{IsSmall}
pub use Rattle.mdb_machine.specs.declared.choice.Choice.{Choice}
pub use Rattle.mdb_machine.specs.declared.choice.Choice.TheVariants.{Again, Lost, Plain, Restart}
pub use Rattle.mdb_machine.specs.declared.gains.Gains.{Gains}
pub use Rattle.mdb_cashless.specs.Units.{own}
pub use Rattle.mdb_cashless.specs.declared.by_profile.state.StateByProfile.{StateByProfile}
pub use Rattle.mdb_follow.proofs.ByDevice.{Front, below, each, earlier, front-all, front-more, front-next, placed, same_or_not}
pub use Rattle.mdb_follow.proofs.Choosing.{AgreeFor, follows_as, merged, merged_agrees}
pub use Rattle.mdb_follow.proofs.Following.{OneActList, if-err-is, if-ok, whole-piece, accounts-of-cells, cell-of-runs, is-some-weaker, list-on, on-true, times-on}
pub use Rattle.mdb_follow.proofs.Joining.{split_with_choices}
pub use Rattle.mdb_follow.proofs.Listed.{contains-cases, contains-here, contains-none, contains-there, nil-told}
pub use Rattle.mdb_follow.proofs.Machines.{is_machine_of, of_or_not, whose, whose_is}
pub use Rattle.mdb_follow.proofs.OneAnswer.{BusLaws, named, named-account, one-end, one-list, with_accounts}
pub use Rattle.mdb_follow.proofs.OwnWays.{are_breaks}
pub use Rattle.mdb_follow.proofs.ReportsWithout.{BreaksTellNothing, blamed_in, not_early}
pub use Rattle.mdb_follow.proofs.Sided.{decimals-are, unmoved, untold}
pub use Rattle.mdb_follow.proofs.SilencesWithout.{NamesFollowed, nothing_counted}
pub use Rattle.mdb_follow.proofs.Told.{listed}
pub use Rattle.mdb_follow.specs.AccountNames.{account_device, account_of, account_slot, sums_of}
pub use Rattle.mdb_follow.specs.AccountRanges.{IsAccount}
pub use Rattle.mdb_follow.specs.Cells.{account_by, cell_in, moved_cell}
pub use Rattle.mdb_follow.specs.Choosing.{AllFollow, Choices, ChoicesBy, Follows, choices_of}
pub use Rattle.mdb_follow.specs.Ends.{side_range, side_value}
pub use Rattle.mdb_follow.specs.GoalEnds.{IsAsFar, end_of, goal_value}
pub use Rattle.mdb_follow.specs.LeavingOut.{HasNothingLeftOut}
pub use Rattle.mdb_follow.specs.Machines.{machine_of}
pub use Rattle.mdb_follow.specs.Offences.{BreaksLink, act_fault, rule_of}
pub use Rattle.mdb_follow.specs.Ranges.{IsRange, no_account, no_range}
pub use Rattle.mdb_follow.specs.Report.{IsReport, device_report, device_report_of, report_of}
pub use Rattle.mdb_follow.specs.ReportedDevices.{device_place}
pub use Rattle.mdb_follow.specs.Runs.{AllSums, IsReached, IsWay, Run, States}
pub use Rattle.mdb_follow.specs.Senders.{sender_of}
pub use Rattle.mdb_follow.specs.Sums.{AccountSums, Sums, added, no_sums}
pub use Rattle.mdb_follow.specs.declared.account.Account.{Account}
pub use Rattle.mdb_follow.specs.declared.account_name.AccountName.{AccountName}
pub use Rattle.mdb_follow.specs.declared.goal.AccountSide.{AccountSide}
pub use Rattle.mdb_follow.specs.declared.goal.Bound.{Bound}
pub use Rattle.mdb_follow.specs.declared.goal.Bound.TheVariants.{Greatest, Least}
pub use Rattle.mdb_follow.specs.declared.goal.Goal.{Goal}
pub use Rattle.mdb_follow.specs.declared.offence.Offence.{Offence}
pub use Rattle.mdb_follow.specs.declared.range.Range.{Range}
pub use Rattle.mdb_follow.specs.declared.report.Report.{Report}
pub use Rattle.mdb_follow.specs.declared.report.TheConstants.Report.{DEVICES}
pub use Rattle.mdb_run_search.specs.Goals.{Explains}
pub use Rattle.mdb_run_search.specs.Marks.{MarkedRun, Rise, StandsWithin, choice_by, choices_in, marks_at, marks_of, own_marks, with_mark, MayStandOn}
pub use Rattle.mdb_run_search.specs.ReplayFaults.{BreaksMarkedMachine, HasMarkedRun, HasNoMarkedStep, IsMarkFault, IsReplayFault, IsReplayOffence, MayStandAt, MayStandOnNewest, SplitAt}
pub use Rattle.mdb_run_search.specs.Replays.{IsReplayReport, StandsFor, scope_of}
pub use Rattle.mdb_run_search.specs.Tracks.{HasNoStepFrom, IsTrackOf, TrackOf, track_in, AreTracks, chosen_more}
pub use Rattle.mdb_run_search.specs.declared.explain.all_paths.AllPaths.{AllPaths}
pub use Rattle.mdb_run_search.specs.declared.explain.best.Best.{Best}
pub use Rattle.mdb_run_search.specs.declared.explain.best.Weight.{Weight}
pub use Rattle.mdb_run_search.specs.declared.explain.chains.Link.{Link}
pub use Rattle.mdb_run_search.specs.declared.explain.seeker.Seeker.{Seeker}
pub use Rattle.mdb_run_search.specs.declared.mark.Mark.{Mark}
pub use Rattle.mdb_run_search.specs.declared.replay.ReplayFault.{ReplayFault}
pub use Rattle.mdb_run_search.specs.declared.tracks.Tracks.{Tracks}
pub use Rattle.mdb_run_search.specs.inner.AllPaths.{AreAllFacts, AreAllPaths, AreAllWithin, AreBestMarks, HasNoWay, weight_for, AreBestBelow, AreFactsOf, ArePathsOf, AreWithinOf, HasWay, LeadsPathsOf, OneLeadsPaths, paths_in}
pub use Rattle.mdb_run_search.specs.inner.Chains.{Denotes, DenotesAt, IsChain, KeepChains, linked}
pub use Rattle.mdb_run_search.specs.inner.Merges.{IsMergeOf, IsOfBoth, Merges, of_one, of_other, AreApart, IsFront, IsMergeBelow}
pub use Rattle.mdb_run_search.specs.inner.Paths.{AllRest, AreEntriesWithin, AreLed, AreStarts, HasAsGood, HasSteps, IsEntryWithin, IsLed, IsPaths, RestsAt, TakesSteps, no_path, ArePaths, HasCodeAt, IsAsGood, IsBestOf, LinksGoOnFrom, TakesIn}
pub use Rattle.mdb_run_search.specs.inner.Seekers.{IsSeeker}
pub use Rattle.mdb_run_search.specs.inner.Weights.{gained, towards, weigh, weight_of}
pub use Rattle.mdb_bus.specs.ExtendedTimes.{AreFew, times_of, untimely_of}
pub use Rattle.mdb_cashless.specs.ByProfile.{StepOf, base_state, by_profile, extended_state, machine_in, strayed}
pub use Rattle.mdb_run_search.specs.inner.TracksLed.{AreTracksWithin, IsTrackWithin, Leads, LeadsOf, OneLeads, TrackStops, TracksLead, TracksStop}
pub use Rattle.mdb_machine.proofs.Ways.{by_second, plain_only, plain_or_not, step_as}
pub use Rattle.mdb_msgs.specs.shared.SameDevices.{is_one, itself, says}
