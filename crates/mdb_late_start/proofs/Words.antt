-- The names of std, of the crates below and of this crate's specs that its proofs share.
pub use Rattle.std.proofs.Common.{All, Bool, Err, List, None, Ok, Option, Result, Some, [], ap, append_assoc, arith, false, if◌then◌else◌, inl, inr, length, map, nat_lt, not, option_map, refl, subst, suc, sum, sum_by, sym, true, unwrap_or, zero, ℕ, ℤ, ◌%◌, ◌&&◌, ◌++◌, ◌+◌, ◌<◌, ◌||◌, ◌∙◌, ◌∷◌, ◌≡◌, ◌≢◌, ◌≤◌, ◌⊎◌}
pub use Rattle.std.proofs.Math.Path.{fun_ext}
pub use Rattle.std.proofs.lemmas.Grind.{common_steps}
pub use Rattle.std.proofs.lemmas.List.{append-nil, append_cancel_right, length-append, same_from_push}
pub use Rattle.std.proofs.lemmas.List.Elements.{All-from_recursion, recursion_from_All}
pub use Rattle.std.proofs.lemmas.List.Sums.{sum_by-append, sum_by-cons}
pub use Rattle.std.specs.List.{AllByRecursion, list_any}
pub use Rattle.std.specs.Option.{is_none, option_or}
pub use Rattle.mdb_words.specs.declared.event.Event.{Event}
pub use Rattle.mdb_words.specs.declared.event.Event.TheVariants.{Break, Word}
pub use Rattle.mdb_words.specs.declared.word.Line.TheVariants.{Controller, Peripheral}
pub use Rattle.mdb_msgs.specs.Replies.{IsReplyTo, reply_bytes}
pub use Rattle.mdb_msgs.specs.Setups.{config_known}
pub use Rattle.mdb_msgs.specs.declared.command.Command.{Command}
pub use Rattle.mdb_msgs.specs.declared.command.Device.{Device}
pub use Rattle.mdb_msgs.specs.declared.command.ReaderCommand.{ReaderCommand}
pub use Rattle.mdb_msgs.specs.declared.command.ReaderUnit.{ReaderUnit}
pub use Rattle.mdb_msgs.specs.declared.command.ReaderUnit.TheVariants.{First, Second}
pub use Rattle.mdb_msgs.specs.declared.device_set.DeviceSet.{DeviceSet}
pub use Rattle.mdb_msgs.specs.declared.reply.Reply.{Reply}
pub use Rattle.mdb_msgs.specs.declared.reply.reader.ReaderMsg.{ReaderMsg}
pub use Rattle.mdb_msgs.specs.declared.setups.ReaderConfig.{ReaderConfig}
pub use Rattle.mdb_msgs.specs.declared.setups.Setups.{Setups}
pub use Rattle.mdb_bus.proofs.LeftOutOrder.{block_waits, foreign_levels, foreign_rows}
pub use Rattle.mdb_bus.proofs.LeftOutWords.{AreForeignWords, answer_foreign, low_words, peripheral_foreign, word_waits}
pub use Rattle.mdb_bus.proofs.Lists.{at_first, first_stays, front_and_last, heard, inside, last_push, peripheral_push, say_last, say_length}
pub use Rattle.mdb_bus.specs.ActLists.{AnswerMayCome, InAnswerTime, ArePieces, AreSpaced, AskTail, Asked, BlockMayCome, InAsk, InForeign, IsActList, IsLow, IsReplyFront, IsSaid, MayCome, NotBefore, NotPast, Piece, PieceFits, Position, Quiet, RepeatTail, ReplyFits, ReplyTail, Whole, acts_of, events_of, first_position, last_of, levels_by, levels_of, piece_events, position_of}
pub use Rattle.mdb_bus.specs.Acts.{IsBlockWord, IsForeign, IsForeignOpening, IsForeignWord, IsReply, Say, reply_words, said_by}
pub use Rattle.mdb_bus.specs.Formats.{HasFault, IsReadAs, format_by, format_for, levels_for}
pub use Rattle.mdb_bus.specs.JoinedScopes.{joined_by}
pub use Rattle.mdb_bus.specs.LeavingOut.{LeavesOutMore, has_part, leave_out, with_foreign}
pub use Rattle.mdb_bus.specs.LinkFaults.{IsLinkFault, RowBreaks, asked_device, blame_of, fault_of, situation_of}
pub use Rattle.mdb_bus.specs.Loss.{Loss}
pub use Rattle.mdb_bus.specs.OpenReplies.{IsExtended, OpenAgrees, OpenLeavesOut}
pub use Rattle.mdb_bus.specs.Pieces.{HasActList, IsTail, NamesAReply}
pub use Rattle.mdb_bus.specs.Scopes.{Asks, IsFollowed, first_levels, from_power_on, levels_before, no_levels, profile_of, told}
pub use Rattle.mdb_bus.specs.Times.{rest_after}
pub use Rattle.mdb_bus.specs.declared.act.Act.{Act}
pub use Rattle.mdb_bus.specs.declared.fault.Blame.{Blame}
pub use Rattle.mdb_bus.specs.declared.fault.Rule.{Rule}
pub use Rattle.mdb_bus.specs.declared.format.Format.{Format}
pub use Rattle.mdb_bus.specs.declared.format.Format.TheVariants.{Open, Or}
pub use Rattle.mdb_bus.specs.declared.levels.Levels.{Levels}
pub use Rattle.mdb_bus.specs.declared.scope.Beginning.{Beginning}
pub use Rattle.mdb_bus.specs.declared.scope.Beginning.TheVariants.{Joined, PowerOn}
pub use Rattle.mdb_bus.specs.declared.scope.Profile.{Profile}
pub use Rattle.mdb_bus.specs.declared.scope.Profile.TheVariants.{Base, Extended}
pub use Rattle.mdb_bus.specs.declared.scope.Scope.{Scope}
pub use Rattle.mdb_machine.specs.Choices.{is_approval}
pub use Rattle.mdb_machine.specs.Gains.{controller_gains, device_gains, in_slots, no_gains}
pub use Rattle.mdb_machine.specs.Keeper.{Tables, setup_by}
pub use Rattle.mdb_machine.specs.Kept.{IsNew, has_reset, held, holds_acked, holds_after, holds_read, kept_of}
pub use Rattle.mdb_machine.specs.Known.{Allows, AllowsKept, Is, Known, known_before, known_by}
pub use Rattle.mdb_machine.specs.Machine.{Machine, StartsIn}
pub use Rattle.mdb_machine.specs.Pair.{own_acts}
pub use Rattle.mdb_machine.specs.Past.{acts_from, effect_by, known_past, last_list, last_told, or_else, powers_on, resets, runs_on, tells_out_of_sequence, unless_empty}
pub use Rattle.mdb_machine.specs.Unvalued.{amounts_in, one_if}
pub use Rattle.mdb_machine.specs.declared.choice.Choice.{Choice}
pub use Rattle.mdb_machine.specs.declared.choice.Choice.TheVariants.{Again, Lost, Restart}
pub use Rattle.mdb_machine.specs.declared.gains.Gains.{Gains}
pub use Rattle.mdb_machine.specs.declared.kept.Part.{Part}
pub use Rattle.mdb_cashless.specs.ExtendedFacts.{approvals_in, facts_after, facts_of, sale_all_heard, sale_asked, sale_heard, unawaited}
pub use Rattle.mdb_cashless.specs.ExtendedReader.{IsEarlier, IsSale, MayAsk, MaySell, approved_to, last_value, news, sold_by}
pub use Rattle.mdb_cashless.specs.Reader.{all_approved, all_approved_to, approved, before_messages, is_repeated, power_on, sold_any, sold_to, take, taken, value, view_answered}
pub use Rattle.mdb_cashless.specs.ReaderAmounts.{asks_sale}
pub use Rattle.mdb_cashless.specs.ReaderFacts.{amount_by, config_by, effect_of_own, messages_by, own_messages, own_transaction, taken_told}
pub use Rattle.mdb_cashless.specs.ReaderMessages.{config_in, last_said, messages_of, parts_of}
pub use Rattle.mdb_cashless.specs.Transactions.{amounts, ended_by, is_request, no_end}
pub use Rattle.mdb_cashless.specs.Units.{own}
pub use Rattle.mdb_cashless.specs.declared.approvals.sale.Sale.{Sale}
pub use Rattle.mdb_cashless.specs.declared.approvals.sale.Sale.TheVariants.{Approved, Awaited, Nothing, Sold, Unawaited}
pub use Rattle.mdb_cashless.specs.declared.reader.state.ReaderState.{ReaderState}
pub use Rattle.mdb_cashless.specs.shared.ReaderWays.{first_of_three}
pub use Rattle.mdb_follow.specs.Arrivals.{Arrives}
pub use Rattle.mdb_follow.specs.LeavingOut.{AreSumsWithout, IsNotKnown}
pub use Rattle.mdb_follow.specs.Machines.{StateOf, machine_of}
pub use Rattle.mdb_follow.specs.Report.{IsReport, device_unvalued, unvalued_of}
pub use Rattle.mdb_follow.specs.Runs.{AllSums, IsReached, IsWay, Run, States}
pub use Rattle.mdb_follow.specs.Sums.{Sums, added, no_sums}
pub use Rattle.mdb_follow.specs.declared.report.Report.{Report}
pub use Rattle.mdb_late_start.specs.Alone.{IsLessKnown, IsReadAlone, IsYesOrByProfile, MayBeReadAlone, TellsLevelsOfFront, TellsRecordsOfFront}
pub use Rattle.mdb_late_start.specs.Cuts.{BeginAnew, IsBreakEvent, SplitsAt, joined_with}
pub use Rattle.mdb_late_start.specs.Ends.{AreAlike, CameToWithin, IsInside, Passes, RunGoesOnThrough, both_sums}
pub use Rattle.mdb_late_start.specs.MidSession.{AnswersLast, GoesOnInEnd, HasTold, HasToldByProfile, HasToldWhatItHolds, IsNothingOr, MayJoinLate, TellsOnlyWhatIsSo}
pub use Rattle.mdb_late_start.specs.Middle.{HasMiddle}
pub use Rattle.mdb_late_start.specs.Told.{AreToldBy, IsLessTold, WereTold, told_later}
pub use Rattle.mdb_late_start.specs.inner.EndLaws.{EndLaws}
