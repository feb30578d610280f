-- The names of std, of the crates below and of this crate's specs that its proofs share.
pub use Rattle.std.proofs.Common.{[], add-one, All, Any, ap, append_assoc, arith, Bool, drop, false, get_or, if◌then◌else◌, inl, inr, length, length-append, length-drop, List, map, None, Option, option_map, refl, Some, subst, suc, sym, take, true, ℕ, ◌*◌, ◌++◌, ◌+◌, ◌-◌, ◌<◌, ◌^◌, ◌↔◌, ◌∙◌, ◌∷◌, ◌≡◌, ◌≤◌, ◌⊎◌}
pub use Rattle.std.proofs.lemmas.Grind.{common_steps}
pub use Rattle.std.proofs.lemmas.Int.{ints}
pub use Rattle.std.proofs.lemmas.List.{length-map, length-take-le, take_all, take_more}
pub use Rattle.std.proofs.lemmas.List.Elements.{All-cons, All-head, All-nil, All-tail}
pub use Rattle.std.specs.Prelude.{IfNone, IfSome, IsSomeAnd}
pub use Rattle.mdb_words.specs.declared.event.Event.{Event}
pub use Rattle.mdb_msgs.specs.Commands.{device_of, EnablesMore, Spells}
pub use Rattle.mdb_msgs.specs.Reader.{ReaderMessages}
pub use Rattle.mdb_msgs.specs.Settings.{nothing_known, with_device}
pub use Rattle.mdb_msgs.specs.SetupData.{known_with, last_config, with_config}
pub use Rattle.mdb_msgs.specs.declared.command.Command.{Command}
pub use Rattle.mdb_msgs.specs.declared.command.Device.{Device}
pub use Rattle.mdb_msgs.specs.declared.command.ReaderCommand.{ReaderCommand}
pub use Rattle.mdb_msgs.specs.declared.command.ReaderUnit.{ReaderUnit}
pub use Rattle.mdb_msgs.specs.declared.command.ReaderUnit.TheVariants.{First, Second}
pub use Rattle.mdb_msgs.specs.declared.device_set.DeviceSet.{DeviceSet}
pub use Rattle.mdb_msgs.specs.declared.setups.ReaderConfig.{ReaderConfig}
pub use Rattle.mdb_msgs.specs.declared.setups.Setups.{Setups}
pub use Rattle.mdb_bus.specs.ActLists.{acts_of, AskTail, events_of, first_position, IsActList, left_open, levels_by, levels_of, levels_told, Piece, position_of, RepeatTail, ReplyTail, Whole}
pub use Rattle.mdb_bus.specs.Bus.{ended_act, open_block}
pub use Rattle.mdb_bus.specs.Scopes.{first_levels, IsFollowed, levels_before, profile_of}
pub use Rattle.mdb_bus.specs.declared.act.Act.{Act}
pub use Rattle.mdb_bus.specs.declared.fault.Rule.{Rule}
pub use Rattle.mdb_bus.specs.declared.scope.Beginning.{Beginning}
pub use Rattle.mdb_bus.specs.declared.scope.Beginning.TheVariants.{Joined, PowerOn}
pub use Rattle.mdb_bus.specs.declared.scope.Profile.{Profile}
pub use Rattle.mdb_bus.specs.declared.scope.Profile.TheVariants.{Base, Extended}
pub use Rattle.mdb_bus.specs.declared.scope.Scope.{Scope}
pub use Rattle.mdb_machine.specs.Past.{effect_taken, last_told, or_else, powers_on, resets, taken_by}
pub use Rattle.mdb_follow.proofs.Following.{by-some, few-times}
pub use Rattle.mdb_follow.specs.AccountNames.{account_of}
pub use Rattle.mdb_follow.specs.Feeding.{HasRefused}
pub use Rattle.mdb_follow.specs.Limits.{IsAccountWithin, IsRangeWithin}
pub use Rattle.mdb_follow.specs.Offences.{IsOffence}
pub use Rattle.mdb_follow.specs.Report.{device_report, device_silences, device_unvalued, IsReport}
pub use Rattle.mdb_follow.specs.ReportLimits.{IsReportWithin}
pub use Rattle.mdb_follow.specs.declared.account.Account.{Account}
pub use Rattle.mdb_follow.specs.declared.offence.Offence.{Offence}
pub use Rattle.mdb_follow.specs.declared.range.Range.{Range}
pub use Rattle.mdb_follow.specs.declared.report.Report.{Report}
pub use Rattle.mdb_surveyor.specs.Counts.{counts_of_ended, counts_of_faults}
pub use Rattle.mdb_surveyor.specs.Learning.{AreKnown, AreFeaturesTold, enables_features, features_told_by}
pub use Rattle.mdb_surveyor.specs.OtherMoney.{OtherMoneyIsAsked, WhoIsAsked, WhoIsAskedBefore}
pub use Rattle.mdb_surveyor.specs.Parts.{EndBefore, EndInBlock, IsReaderAsked, IsReaderBeyond}
pub use Rattle.mdb_surveyor.specs.Stretches.{EndsBy, fault_at, first_fault, first_place, GoesOnAfter, IsCutAt, IsSurvey, LeadFrom, left_out_asked, left_out_by_profile, left_out_for, place_after, scope_after, stretch_at, StretchStart}
pub use Rattle.mdb_surveyor.specs.Surveyor.{rows_of, StandsFor}
pub use Rattle.mdb_surveyor.specs.Told.{asked_on, is_told_below_2, learnt_by, level_of, levels_at, setups_of, setups_on, told_after, told_if, told_on, with_answer}
pub use Rattle.mdb_surveyor.specs.Totals.{added_account, added_range, added_untimely, AreWithin, CanBeAdded, total_of, total_silences, total_unvalued, totals_of, untimely_of_both, with_report}
pub use Rattle.mdb_surveyor.specs.declared.counts.FaultCounts.{FaultCounts}
pub use Rattle.mdb_surveyor.specs.declared.stretch.Ended.{Ended}
pub use Rattle.mdb_surveyor.specs.declared.stretch.Stretch.{Stretch}
pub use Rattle.mdb_surveyor.specs.declared.surveyor.Surveyor.{Surveyor}
pub use Rattle.mdb_surveyor.specs.declared.told.Told.{Told}
pub use Rattle.mdb_surveyor.specs.declared.totals.Totals.{Totals}
