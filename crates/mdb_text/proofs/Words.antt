-- The names of std, of the crates below and of this crate's specs that its proofs share.
pub use Rattle.std.proofs.Common.{Bool, Err, List, Ok, Option, Result, [], ap, append_assoc, codes, false, get_or, length, refl, rules, sym, take, true, ℕ, ◌++◌, ◌+◌, ◌<◌, ◌≡◌, ◌≤◌}
pub use Rattle.std.proofs.lemmas.List.{append-nil, flat_map_more, take_all, take_more}
pub use Rattle.std.specs.Io.KnownBytes.{Appends}
pub use Rattle.std.specs.List.{flat_map}
pub use Rattle.mdb_follow.specs.AccountNames.{account_of}
pub use Rattle.mdb_follow.specs.Report.{device_decimals}
pub use Rattle.mdb_follow.specs.ReportedDevices.{device_place}
pub use Rattle.mdb_follow.specs.declared.report.TheConstants.Report.{DEVICES}
pub use Rattle.mdb_text.specs.Text.{account_line, count_text, devices_text, line, line_of_devices, places_text, untimely_counts, word_in}
