-- The names of std, of the crates below and of this crate's specs that its proofs share.
pub use Rattle.std.proofs.Common.{[], All, ap, append_assoc, arith, Bool, drop, Err, false, Fits, get_or, IfErr, IfOk, IfSome, if◌then◌else◌, inl, inr, IsTrue, length, length-append, length-drop, List, nat_le, None, not, Ok, OnOk, Option, refl, Result, rules, slice_get, slice_index, Some, subst, suc, sum, sym, take, true, w8, zero, ℕ, ◌%◌, ◌&&◌, ◌++◌, ◌+◌, ◌-◌, ◌<◌, ◌==◌, ◌||◌, ◌↔◌, ◌∙◌, ◌∷◌, ◌≡◌, ◌≢◌, ◌≤◌, ◌⊎◌}
pub use Rattle.std.proofs.lemmas.Bool.{and_right, cases_Bool, cases_eq, cond_both, false_from_ne_true, le-leb, lt-leb, lt-ltb, or_parts}
pub use Rattle.std.proofs.lemmas.List.{append-nil, get_or-append-add, get_or_append_left, length-map, map-append, nil_from_length, same_from_push}
pub use Rattle.std.proofs.lemmas.List.Elements.{All-append, All-from_get_or, All-from_recursion, recursion_from_All}
pub use Rattle.std.specs.List.{AllByRecursion, filter, list_any}
pub use Rattle.mdb_words.specs.declared.event.Event.{Event}
pub use Rattle.mdb_words.specs.declared.event.Event.TheVariants.{Break, Word}
pub use Rattle.mdb_words.specs.declared.limits.TheConstants.{NEW_BLOCK_GAP_MIN, WORD_GAP_MIN}
pub use Rattle.mdb_words.specs.declared.word.Line.{Line}
pub use Rattle.mdb_words.specs.declared.word.Line.TheVariants.{Controller, Peripheral}
pub use Rattle.mdb_words.specs.Answer.{answer_byte, answer_word}
pub use Rattle.mdb_words.specs.Block.{block_of, controller_words, peripheral_words}
pub use Rattle.mdb_msgs.proofs.CommandBytes.{spelled_low}
pub use Rattle.mdb_msgs.specs.Commands.{command_bytes, device_of, EnablesMore, is_enable_options, IsByte, Spells}
pub use Rattle.mdb_msgs.specs.DeviceSets.{has}
pub use Rattle.mdb_msgs.specs.Laws.{BlockHasOneReply, BytesHaveOneFault, FrontIsOpen, OpenIsAFront as PlainOpenIsAFront, OpenIsAnothersFront, ReplyHasNoFault}
pub use Rattle.mdb_msgs.specs.Needs.{begins_options, is_to_one_of, need, need_for, needed}
pub use Rattle.mdb_msgs.specs.OpenBlocks.{IsOpen, IsShort, IsTold, TellsLength}
pub use Rattle.mdb_msgs.specs.Readings.{base, is_extended, may_have_options}
pub use Rattle.mdb_msgs.specs.Replies.{HasMessages, IsIn, IsReadFault, IsReplyTo, reply_bytes}
pub use Rattle.mdb_msgs.specs.declared.command.Command.{Command}
pub use Rattle.mdb_msgs.specs.declared.command.Device.{Device}
pub use Rattle.mdb_msgs.specs.declared.command.ReaderUnit.TheVariants.{First, Second}
pub use Rattle.mdb_msgs.specs.declared.device_set.DeviceSet.{DeviceSet}
pub use Rattle.mdb_msgs.specs.declared.fault.MsgFault.{MsgFault}
pub use Rattle.mdb_msgs.specs.declared.need.Need.{Need}
pub use Rattle.mdb_msgs.specs.declared.need.Need.TheVariants.{Exactly, Foreign, More, Outside}
pub use Rattle.mdb_msgs.specs.declared.reading.Reading.{Reading}
pub use Rattle.mdb_msgs.specs.declared.reply.Reply.{Reply}
pub use Rattle.mdb_bus.specs.ActLists.{acts_of, ArePieces, AreSpaced, Asked, AskTail, BlockMayCome, BreakMayCome, events_of, first_position, ForeignMayCome, InAnswerTime, InAsk, InBlockTime, InForeign, InRepeat, InReply, IsActList, IsAskFront, IsInProfile, IsPiece, IsRepeatFront, IsReplyFront, IsSaid, last_of, left_by, left_open, levels_after, levels_by, levels_of, MayCome, MayStand, NotBefore, NotPast, Piece, piece_events, PieceFits, Position, position_of, Quiet, RepeatTail, Replied, ReplyFits, ReplyTail, Returned, Whole}
pub use Rattle.mdb_bus.specs.Acts.{command_words, IsAck, IsBlockWord, IsForeign, IsForeignOpening, IsForeignWord, IsReply, reply_words, said_by, Say}
pub use Rattle.mdb_bus.specs.Bus.{awaited_at, ended_act, GoesOn, Grown, position_at, StandsFor}
pub use Rattle.mdb_bus.specs.ExtendedCounts.{counts, is_refusal, may_restart, what_counts}
pub use Rattle.mdb_bus.specs.ExtendedFormats.{AreSome, HasOpenFault, HaveFaults, IsFirst, IsInSome, IsReadOpen, long, readings, short, untold_format}
pub use Rattle.mdb_bus.specs.ExtendedHaste.{awaited_after, awaited_from, counted_in, haste_after, haste_by, haste_from, haste_of, is_excused, is_in_haste}
pub use Rattle.mdb_bus.specs.ExtendedMoney.{all_known, amounts_to, asked_with_amounts, counted_as, first_known, is_wide, known_after, known_by, known_if, known_of, reader_asked, refuses, wide_at, wide_of}
pub use Rattle.mdb_bus.specs.ExtendedTimes.{counted_for, far_apart, is_past, is_untimely, sender_by, times_of, untimely_of, untimely_sender, with_rows, with_sender, with_untimely}
pub use Rattle.mdb_bus.specs.Formats.{format_by, format_for, HasFault, IsReadAs, levels_for}
pub use Rattle.mdb_bus.specs.LeavingOut.{acts_with, begin_left_out, breaks_among, device_in, has_part, is_break, is_left_out, is_one_left_out, is_this, IsLeftOut, LeavesOutMore, position_without, with_foreign}
pub use Rattle.mdb_bus.specs.LinkFaults.{asked_device, blame_of, blame_on, fault_at, fault_of, IsBefore, IsFirstBroken, IsLinkFault, IsOutside, IsPast, LeavesProfile, order, OutOfOrder, RowBreaks, Situation, situation_of, WrongLength}
pub use Rattle.mdb_bus.specs.Pieces.{act_in, GoesOnFrom, HasActList, IsTail, levels_if, NamesAReply, with_act}
pub use Rattle.mdb_bus.specs.Scopes.{Asks, HasCommand, IsFollowed, leaves_features, levels_before, needed_by, needed_in, profile_of}
pub use Rattle.mdb_bus.specs.Times.{answer_most, block_most, block_rest, break_least, rest_after}
pub use Rattle.mdb_bus.specs.Wish.{HearsAsWished, HearsFreeAsWished, nothing_told, Wish}
pub use Rattle.mdb_bus.specs.declared.act.Act.{Act}
pub use Rattle.mdb_bus.specs.declared.fault.Blame.{Blame}
pub use Rattle.mdb_bus.specs.declared.fault.LinkFault.{LinkFault}
pub use Rattle.mdb_bus.specs.declared.fault.Rule.{Rule}
pub use Rattle.mdb_bus.specs.declared.format.Format.{Format}
pub use Rattle.mdb_bus.specs.declared.format.Format.TheVariants.{As, Or}
pub use Rattle.mdb_bus.specs.declared.effect.Effect.{Effect}
pub use Rattle.mdb_bus.specs.declared.levels.Levels.{Levels}
pub use Rattle.mdb_bus.specs.declared.features.KnownFeatures.{KnownFeatures}
pub use Rattle.mdb_bus.specs.declared.place.Place.{Place}
pub use Rattle.mdb_bus.specs.declared.scope.Beginning.{Beginning}
pub use Rattle.mdb_bus.specs.declared.scope.Beginning.TheVariants.{Joined, PowerOn}
pub use Rattle.mdb_bus.specs.declared.scope.Profile.{Profile}
pub use Rattle.mdb_bus.specs.declared.scope.Profile.TheVariants.{Base, Extended}
pub use Rattle.mdb_bus.specs.declared.scope.Scope.{Scope}
pub use Rattle.mdb_bus.specs.inner.Reading.{AreAlike, AreReply, IsOpenOr, IsPlainList, IsReadingIn, joint_fault, varies}
pub use Rattle.mdb_bus.specs.shared.Grammar.{Grammar}
pub use Rattle.mdb_bus.specs.shared.RulePlaces.{IsFirstByPlace, place_of}
pub use Rattle.mdb_bus.specs.shared.Step.{EachStep, SomeStep, Step}
pub use Rattle.mdb_bus.specs.shared.Leads.{act_after, asked_after, Belongs, Counts, Covers, GoesOnAsking, GoesOnForeign, grown, HasAdvanced, IsAt, IsCommandFront, IsEnded, IsGoingOn, HasEffect, HasEffectBy, IsOpened, IsRead, IsReadAt, IsReplyEnd, IsSettled, IsSound, IsTimely, IsUnknownExpansion, Leads, Opens, piece_after, pieces_after, position_after, WordLeads}
