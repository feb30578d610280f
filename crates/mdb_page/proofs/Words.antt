-- The names of std, of the crates below and of this crate's specs that its proofs share.
pub use Rattle.std.proofs.Common.{All, Bool, IfSome, List, None, Option, SFits, Some, [], add-one, ap, append-nil, append_assoc, arith, cond, false, flat_map, get_or, get_or-set_other, get_or-set_same, inl, inr, length, length-append, length-set, map, min, neg_ℤ, negsuc, of_z, pos, refl, set, subst, suc, sym, take, to_z, true, true≢false, w64, zero, ℕ, ℤ, ◌%◌, ◌*◌, ◌++◌, ◌+◌, ◌-ℤ◌, ◌-◌, ◌/◌, ◌<◌, ◌==◌, ◌^◌, ◌∙◌, ◌∷◌, ◌≡◌, ◌≢◌, ◌≤ℤ◌, ◌≤◌, ◌⊎◌}
pub use Rattle.std.proofs.Math.Nat.{le_refl, min-eq_left, min-eq_right, mod-eq_of_lt, mod-le, mod-lt, mod_self, mul-le-mul_right, suc-mod, zero-mod}
pub use Rattle.std.proofs.lemmas.Bool.{cases_Bool, eq-eqb, eqb-true, le-ltb, lt-ltb}
pub use Rattle.std.proofs.lemmas.Int.{ints, to_z-of_z}
pub use Rattle.std.proofs.lemmas.List.{flat_map_more, get_or_append_left, get_or_past, length-map, map-append, nil_from_length, same_from_push, take_all, take_more, take_more_set}
pub use Rattle.std.proofs.lemmas.List.Elements.{All-cons, All-head, All-nil, All-push, All-tail}
pub use Rattle.std.specs.List.{list_any}
pub use Rattle.std.specs.Option.{MatchOption, is_some}
pub use Rattle.mdb_bus.specs.ActLists.{ArePieces, IsActList, IsSaid, MayStand, Piece, Whole, acts_of, events_of, piece_events}
pub use Rattle.mdb_bus.specs.Bus.{GoesOn, ended_act}
pub use Rattle.mdb_bus.specs.ClosedPieces.{closed_pieces}
pub use Rattle.mdb_bus.specs.Pieces.{IsTail, NamesAReply, act_in}
pub use Rattle.mdb_bus.specs.declared.act.Act.{Act}
pub use Rattle.mdb_bus.specs.declared.scope.Scope.{Scope}
pub use Rattle.mdb_follow.specs.AccountNames.{account_in, account_of, account_place, sums_of}
pub use Rattle.mdb_follow.specs.EndedActs.{IsEndedAct}
pub use Rattle.mdb_follow.specs.Follower.{StandsFor, act_of, offence_of, rows_of, scope_of}
pub use Rattle.mdb_follow.specs.Limits.{IsRangeWithin}
pub use Rattle.mdb_follow.specs.Report.{IsReport, report_of}
pub use Rattle.mdb_follow.specs.declared.account.Account.{Account}
pub use Rattle.mdb_follow.specs.declared.account_name.AccountName.{AccountName}
pub use Rattle.mdb_follow.specs.declared.account_name.TheConstants.AccountName.{ALL}
pub use Rattle.mdb_follow.specs.declared.follower.TheConstants.{ROWS_MAX}
pub use Rattle.mdb_follow.specs.declared.offence.Offence.{Offence}
pub use Rattle.mdb_follow.specs.declared.range.Range.{Range}
pub use Rattle.mdb_follow.specs.declared.report.Report.{Report}
pub use Rattle.mdb_surveyor.specs.declared.stretch.Ended.{Ended}
pub use Rattle.mdb_surveyor.specs.SurveyText.{stretch_text, summary_text, text_lines}
pub use Rattle.mdb_words.specs.Event.{start_of}
pub use Rattle.mdb_words.specs.declared.event.Event.{Event}
pub use Rattle.mdb_page.specs.Acts.{HasRows, IsKept, IsNext, IsOfPiece, Shows, ShowsAct, has_options, place_in}
pub use Rattle.mdb_page.specs.Answers.{number_of, written}
pub use Rattle.mdb_page.specs.Lines.{AreAllFields, AreNoRow, HasRead, IsBare, IsCut, IsFirstLine, IsLine, IsUnmarked, IsUnread, TellsNoRow, TellsRow, blank, marked, row, start, unmarked}
pub use Rattle.mdb_page.specs.Rises.{AreRises, EndsSo, broken, no_row, none, rise, rise_of, rises_between, rises_in, too_long, unread, whole}
pub use Rattle.mdb_page.specs.Surveys.{AreListed, HasNoRoom, IsPlace, IsSurveyed, IsWhole, faultless, faulty, rows_of_faults, written_lines}
pub use Rattle.mdb_page.specs.declared.acts.ActListing.{ActListing}
pub use Rattle.mdb_page.specs.declared.acts.PageAct.{PageAct}
pub use Rattle.mdb_page.specs.declared.answer.PageTold.{PageTold}
pub use Rattle.mdb_page.specs.declared.faults.FaultListing.{FaultListing}
pub use Rattle.mdb_page.specs.declared.faults.PageFault.{PageFault}
pub use Rattle.mdb_page.specs.declared.lines.LineFault.{LineFault}
pub use Rattle.mdb_page.specs.declared.rises.PageRise.{PageRise}
pub use Rattle.mdb_page.specs.declared.rises.RiseListing.{RiseListing}
pub use Rattle.mdb_page.specs.declared.rows.Rows.{Rows}
pub use Rattle.mdb_page.specs.declared.sheet.PageLines.{PageLines}
pub use Rattle.mdb_page.specs.declared.sheet.TheConstants.{LINES_ROOM}
pub use Rattle.mdb_page.specs.inner.Listing.{AreOf, HasAdded, HasBegun, HasTakenPieces, HasWalked, IsNextPlace, Lengthens, Moves, open_events, with_rows}
pub use Rattle.mdb_page.specs.inner.Rising.{HasFollowed, HasListed, HasTakenRow, IsNear}
