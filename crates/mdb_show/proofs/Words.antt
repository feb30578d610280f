-- The names of std, of the crates below and of this crate's specs that its proofs share.
pub use Rattle.std.proofs.Common.{[], add-one, ap, append_assoc, ap₂, arith, Bool, drop, Err, false, get_or, if◌then◌else◌, inl, inr, length, length-append, List, nat_lt, None, Ok, Option, refl, Result, rules, Some, subst, suc, sym, take, take-append-drop, true, ℕ, ◌%◌, ◌&&◌, ◌++◌, ◌+◌, ◌/◌, ◌<◌, ◌∙◌, ◌∷◌, ◌≡◌, ◌≤◌, ◌⊎◌}
pub use Rattle.std.proofs.lemmas.List.{append-nil, take_more}
pub use Rattle.std.specs.Fmt.{decimal, digit_glyph}
pub use Rattle.std.specs.Prelude.{codes, is_ok, OnOk}
pub use Rattle.mdb_writing.proofs.Outputs.{break_both, put_begun, put_both}
pub use Rattle.mdb_writing.specs.Output.{begun, Output, output, Puts}
pub use Rattle.mdb_words.specs.Row.{IsRow}
pub use Rattle.mdb_words.specs.declared.event.Event.{Event}
pub use Rattle.mdb_bus.specs.ActLists.{ArePieces, events_of, IsActList, MayStand, Piece, piece_events, Whole}
pub use Rattle.mdb_bus.specs.Bus.{Grown, scope_of, StandsFor}
pub use Rattle.mdb_bus.specs.ClosedPieces.{closed_pieces}
pub use Rattle.mdb_bus.specs.LinkFaults.{IsLinkFault, RowBreaks, situation_of}
pub use Rattle.mdb_bus.specs.Pieces.{HasActList, IsTail, NamesAReply}
pub use Rattle.mdb_bus.specs.declared.act.Act.{Act}
pub use Rattle.mdb_bus.specs.declared.fault.Blame.{Blame}
pub use Rattle.mdb_bus.specs.declared.fault.LinkFault.{LinkFault}
pub use Rattle.mdb_bus.specs.declared.fault.Rule.{Rule}
pub use Rattle.mdb_bus.specs.declared.scope.Profile.{Profile}
pub use Rattle.mdb_bus.specs.declared.scope.Scope.{Scope}
pub use Rattle.mdb_follow.specs.declared.follower.TheConstants.{ROWS_MAX}
pub use Rattle.mdb_text.specs.declared.form.Form.{Form}
pub use Rattle.mdb_verdict.proofs.OneAnswer.{compared, Ending, of_stop, of_unanswered, of_whole, one_ending, row_not_refused, row_one, SaysOne}
pub use Rattle.mdb_verdict.proofs.Tellings.{not_taken_of_output, reads_all, reads_fault, reads_finished, reads_output, told}
pub use Rattle.mdb_verdict.proofs.Verdicts.{is_fault}
pub use Rattle.mdb_verdict.specs.Ending.{HasTakenOrStoppedAt, IsStop}
pub use Rattle.mdb_verdict.specs.Unanswered.{IsUnanswered}
pub use Rattle.mdb_verdict.specs.Telling.{IsNotTaken, IsOfOutput, IsOwnAnswer}
pub use Rattle.mdb_verdict.specs.Verdict.{AreRead, IsAnswer, IsImpossible, IsStopped, IsTakenWhole}
pub use Rattle.mdb_verdict.specs.declared.fault.RunFault.{RunFault}
pub use Rattle.mdb_verdict.specs.declared.fault.RunFault.TheVariants.{BadRow, Memory, Read, TooLong, Write}
pub use Rattle.mdb_show.specs.Lines.{LineForm, lines_of, piece_line}
pub use Rattle.mdb_show.specs.Show.{HasAllLines, HasFaultLine, HasLines, IsNotWhole, IsShowingIn, IsShownToFaultIn, IsShownWholeIn, lines_in}
pub use Rattle.mdb_show.specs.ShowJson.{act_data, block_members, cut_data, deed_data, device_members, fault_data, hex_text, json_lines, rows_members}
pub use Rattle.mdb_show.specs.ShowText.{bytes_text}
pub use Rattle.mdb_show.specs.declared.showing.Lines.{Lines}
pub use Rattle.mdb_show.specs.inner.JsonLines.{act_json, blame_json, block_json, bytes_json, deed_json, device_json, fault_json, head_json, rows_json, rows_only_json, rule_json}
pub use Rattle.mdb_show.specs.inner.RowLines.{cut_text, ended_text, HasAdded, HasPieces, HasShown, HasStopped, IsAdded, PutsShowing}
