-- The names of std, of the crates below and of this crate's specs that its proofs share.
pub use Rattle.csv.proofs.ReadFacts.{part-rest, rows-end, rows-more, run-copies}
pub use Rattle.csv.specs.Machine.{ends_at_end, field_after, fields_after, in_field, is_end, Read, step}
unfoldable pub use Rattle.csv.specs.Machine.{next_record, Runs}
pub use Rattle.csv.specs.Reading.{AreRecords, default_config, is_bom, reader_headers, reader_state, ReadRecord, Ready, records, records_next, took_first}
unfoldable pub use Rattle.csv.specs.Reading.{Reached, records_from, strip_bom}
pub use Rattle.csv.specs.Records.{fields_of, Row, text_of}
unfoldable pub use Rattle.csv.specs.Records.{cut_from, field_at}
pub use Rattle.csv.specs.declared.parser.Action.{Action}
pub use Rattle.csv.specs.declared.parser.State.{State}
pub use Rattle.std.proofs.Common.{[], All, ap, append_assoc, arith, Bool, drop, drop-drop, eqb-true, false, flat_map, get_or, inl, inr, length, length-append, length-drop, length-take, length-take-le, List, ne_eqb, None, Ok, Option, refl, rules, Some, subst, suc, sym, take, take-append-drop, take-take, true, zero, ℕ, ◌++◌, ◌+◌, ◌-◌, ◌<◌, ◌^◌, ◌∙◌, ◌∷◌, ◌≡◌, ◌≤◌, ◌⊎◌, add-one}
pub use Rattle.std.proofs.lemmas.Bool.Decides.{nat_tests}
pub use Rattle.std.proofs.lemmas.List.{drop-take, drop_more, get_or-drop, take-append-le, take_more}
pub use Rattle.std.proofs.lemmas.List.Elements.{All-append, All-cons, All-head, All-nil, All-tail, All-weaker, All-pop, All-take, All-drop}
pub use Rattle.std.specs.Io.KnownBytes.{Consumes, IsAtEnd, Keeps, prepend_known}
pub use Rattle.std.specs.Prelude.{IfSome, if◌then◌else◌, is_none, is_some, IsSome, option_map, slice_set, ⊤, ◌==◌, ◌||◌}
pub use Rattle.mdb_words.specs.RowsWritten.{hex_word, joined_by_commas, row_fields}
pub use Rattle.mdb_records.specs.Lines.{end_of_last, limited_remaining, line, lines_given, lines_remaining, TakesLine, Tells, unread}
pub use Rattle.mdb_records.specs.Mark.{given_of, mark}
unfoldable pub use Rattle.mdb_records.specs.Mark.{marked}
pub use Rattle.mdb_records.specs.Parts.{AreWithin, start_at}
unfoldable pub use Rattle.mdb_records.specs.Parts.{parted}
pub use Rattle.mdb_records.specs.Plain.{BeginsLow, HasFront, is_special}
pub use Rattle.mdb_records.specs.SetUp.{reader_in, ReadsWhatStands}
pub use Rattle.mdb_records.specs.Stage.{ends_on, fields_at, line_on, ReadsNext, StandsAfter, StandsAt}
pub use Rattle.mdb_records.specs.ToCome.{Advances, current_fields, Gives, HasMark, IsOverLimit, IsUncut, ToCome}
pub use Rattle.mdb_records.specs.declared.stage.Stage.{Stage}
