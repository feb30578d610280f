-- The names of std, of the crates below and of this crate's specs that its proofs share.
pub use Rattle.std.proofs.Common.{length, replicate, take, ◌*◌, ◌≡◌, ◌≤◌, All, Bool, Bor, Err, Fits, IfErr, IfOk, IfSome, IsNone, IsSome, List, None, Ok, Option, Result, Some, [], ap, append-nil, append_assoc, ap₂, arith, drop, drop-cons, false, get_or, if◌then◌else◌, inl, inr, length-append, nat_eq, nat_le, nat_lt, not, option_map, refl, slice_get, slice_index, slice_index_or, subst, suc, sum, sym, true, w8, zero, ℕ, ◌%◌, ◌&&◌, ◌++◌, ◌+◌, ◌-◌, ◌/◌, ◌<◌, ◌==◌, ◌||◌, ◌∙◌, ◌∷◌, ◌≢◌, ◌⊎◌}
pub use Rattle.std.proofs.lemmas.Bool.Decides.{nat_tests}
pub use Rattle.std.proofs.lemmas.Bool.{cases_Bool, cases_eq, cases_lt}
pub use Rattle.std.proofs.lemmas.Grind.{common_steps, flat_map-append}
pub use Rattle.std.proofs.lemmas.List.Elements.{All-append, All-drop, All-from_recursion, All-replicate, recursion_from_All}
pub use Rattle.std.proofs.lemmas.List.Folds.{length-flat_map-take, list_any-append}
pub use Rattle.std.proofs.lemmas.List.{append_cancel_left, drop-append-le, drop-take, get_or-drop, length-drop, length-replicate, length-take-le, take-append-drop, take_all, take_more}
pub use Rattle.std.proofs.lemmas.Result.{err_from_is_err_and}
pub use Rattle.std.specs.List.{AllByRecursion, flat_map, list_any}
pub use Rattle.std.specs.Option.{option_or}
pub use Rattle.std.specs.Result.{result_ok}
pub use Rattle.mdb_words.specs.Block.{IsContent, block_of}
pub use Rattle.mdb_msgs.specs.Bill.{IsBillMsg, IsOfRecycler, NoBillMsg, bill_msg_bytes}
pub use Rattle.mdb_msgs.specs.Changer.{IsChangerMsg, NoChangerMsg, changer_msg_bytes}
pub use Rattle.mdb_msgs.specs.CommandFaults.{IsCommandFault, IsRefused}
pub use Rattle.mdb_msgs.specs.Commands.{IsByte, Spells, command_bytes, device_of, reader_address, HasBillFields, HasChangerFields, HasReaderFields, bill_bytes, changer_bytes, is_enable_options, reader_bytes}
pub use Rattle.mdb_msgs.specs.ExtendedLevels.{last_level, level_in}
pub use Rattle.mdb_msgs.specs.Lists.{Stand, StopsAt}
pub use Rattle.mdb_msgs.specs.Needs.{begins_options, bill_need, changer_need, device_at, is_for, is_to_one_of, need, need_for, needed, reader_need}
pub use Rattle.mdb_msgs.specs.OpenBlocks.{IsOpen, IsShort, IsTold, TellsLength}
pub use Rattle.mdb_msgs.specs.Reader.{is_kept, own_ids, tells_level, AreReaderMsgs, IsReaderList, IsReaderMsg, IsTextOf, NoReaderMsg, ReaderMessages, ReaderStopsAt, has_long, head_bytes, ids_of, is_display, is_id, reader_list_bytes, reader_msg_bytes, reading_of, session_bytes, text_of, wider}
unfoldable pub use Rattle.mdb_msgs.specs.ReaderBytes.{messages_of}
pub use Rattle.mdb_msgs.specs.ReaderBytes.{no_messages, AreMessages, before_messages, foot_bytes, front_id, front_session, front_text, out_of}
pub use Rattle.mdb_msgs.specs.Readings.{allows, base, early, early_long, is_extended, takes_options}
pub use Rattle.mdb_msgs.specs.Replies.{HasMessages, IsIn, IsNoReplyTo, IsReadFault, IsReplyTo, NoReply, form_of_reply, reply_bytes, tells_of_sales}
pub use Rattle.mdb_msgs.specs.ReplyFaults.{SpellsReply}
pub use Rattle.mdb_msgs.specs.Setup.{IsStacker, bill_setup_bytes, changer_setup_bytes, stacker_bytes, tube_status_bytes}
pub use Rattle.mdb_msgs.specs.SetupData.{IsSetup, IsSetupOf, IsToldAs, config_in, known_with, last_config, leveled, or_else}
pub use Rattle.mdb_msgs.specs.TwoBytes.{four_bytes, two_bytes}
pub use Rattle.mdb_msgs.specs.declared.answer.DataForm.{DataForm}
pub use Rattle.mdb_msgs.specs.declared.command.BillCommand.{BillCommand}
pub use Rattle.mdb_msgs.specs.declared.command.ChangerCommand.{ChangerCommand}
pub use Rattle.mdb_msgs.specs.declared.command.Command.{Command}
pub use Rattle.mdb_msgs.specs.declared.command.Device.{Device}
pub use Rattle.mdb_msgs.specs.declared.command.ReaderCommand.{ReaderCommand}
pub use Rattle.mdb_msgs.specs.declared.command.ReaderUnit.TheVariants.{First, Second}
pub use Rattle.mdb_msgs.specs.declared.command.ReaderUnit.{ReaderUnit}
pub use Rattle.mdb_msgs.specs.declared.fault.MsgFault.TheVariants.{Answer, Length, Message, Profile}
pub use Rattle.mdb_msgs.specs.declared.fault.MsgFault.{MsgFault}
pub use Rattle.mdb_msgs.specs.declared.need.Need.TheVariants.{Exactly, Foreign, More, Outside}
pub use Rattle.mdb_msgs.specs.declared.need.Need.{Need}
pub use Rattle.mdb_msgs.specs.declared.reading.Ids.{Ids}
pub use Rattle.mdb_msgs.specs.declared.reading.Reading.{Reading}
pub use Rattle.mdb_msgs.specs.declared.reply.Reply.{Reply}
pub use Rattle.mdb_msgs.specs.declared.reply.bill.BillMsg.{BillMsg}
pub use Rattle.mdb_msgs.specs.declared.reply.changer.ChangerMsg.{ChangerMsg}
pub use Rattle.mdb_msgs.specs.declared.reply.reader.ReaderMsg.TheVariants.{BeginSession, BeginSessionLong, CancelRequest, Cancelled, Config, Display, EndSession, JustReset, Malfunction, OutOfSequence, OutOfSequenceIn, PeripheralId, PeripheralIdWithOptions, TimeAsked, VendApproved, VendDenied}
pub use Rattle.mdb_msgs.specs.declared.reply.reader.ReaderMsg.{ReaderMsg}
pub use Rattle.mdb_msgs.specs.declared.reply.setup.BillSetup.{BillSetup}
pub use Rattle.mdb_msgs.specs.declared.reply.setup.ChangerSetup.{ChangerSetup}
pub use Rattle.mdb_msgs.specs.declared.reply.setup.Stacker.{Stacker}
pub use Rattle.mdb_msgs.specs.declared.reply.setup.TubeStatus.{TubeStatus}
pub use Rattle.mdb_msgs.specs.inner.OneMessage.{IsNextMessage, StandAsMessages, with_message}
