-- The names of std, of the crates below and of this crate's specs that its proofs share.
pub use Rattle.std.proofs.Common.{[], All, ap, append_assoc, arith, Bool, cond, drop, Err, get_or, IfErr, inl, inr, length, length-append, length-drop, List, map, nat_eq, nat_lt, None, Ok, Option, refl, Result, Some, subst, suc, sym, take, true, zero, ℕ, ◌%◌, ◌&&◌, ◌*◌, ◌++◌, ◌+◌, ◌-◌, ◌/◌, ◌<◌, ◌^◌, ◌∙◌, ◌∷◌, ◌≡◌, ◌≢◌, ◌≤◌}
pub use Rattle.std.proofs.lemmas.Bool.{cases_eq, cases_lt}
pub use Rattle.std.proofs.lemmas.Bool.Decides.{nat_tests}
pub use Rattle.std.proofs.lemmas.Fmt.{decimal_digit, decimal_is_IsNumeral, decimal_step, length-decimal-le}
pub use Rattle.std.proofs.lemmas.List.Elements.{All-cons, All-head, All-nil, All-tail, All-weaker}
pub use Rattle.std.specs.Char.{digit_value, IsAsciiDigit, IsAsciiHexdigit}
pub use Rattle.std.specs.Fmt.{decimal, digit_glyph}
pub use Rattle.std.specs.Option.{IfNone, IfSome, ok_or, SomeIff}
pub use Rattle.mdb_words.specs.Digits.{IsDecimal, IsHexWord, positional}
pub use Rattle.mdb_words.specs.RowsWritten.{hex_word, IsFieldByte, row_fields}
pub use Rattle.mdb_words.specs.inner.Counts.{IsCount, IsCounted, IsFront, IsTime}
