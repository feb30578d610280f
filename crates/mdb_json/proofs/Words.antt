-- The names of std, of the crates below and of this crate's specs that its proofs share.
pub use Rattle.std.proofs.Common.{Bool, Equal, Greater, Less, List, None, Option, Ordering, Some, [], ap, arith, cond, false, get_or, length, map, nat_cmp, negsuc, pos, refl, suc, sym, take, true, ℕ, ℤ, ◌++◌, ◌+◌, ◌<◌, ◌∙◌, ◌∷◌, ◌≡◌, ◌≤◌}
pub use Rattle.std.specs.List.{filter, fold}
pub use Rattle.serde_json.specs.Data.{Data, Members, depth, member, members_depth, no_members, object, put}
pub use Rattle.serde_json.specs.View.{members_view}
pub use Rattle.serde_json.specs.Written.{has_float, members_have_float}
pub use Rattle.mdb_bus.specs.Scopes.{profile_of}
pub use Rattle.mdb_bus.specs.declared.scope.Profile.{Profile}
pub use Rattle.mdb_bus.specs.declared.scope.Profile.TheVariants.{Base, Extended}
pub use Rattle.mdb_bus.specs.declared.scope.Scope.{Scope}
pub use Rattle.mdb_bus.specs.declared.untimely.Untimely.{Untimely}
pub use Rattle.mdb_follow.specs.Report.{device_decimals}
pub use Rattle.mdb_follow.specs.declared.account.Account.{Account}
pub use Rattle.mdb_follow.specs.declared.account_name.TheConstants.AccountName.{ALL}
pub use Rattle.mdb_follow.specs.declared.report.Report.{Report}
pub use Rattle.mdb_follow.specs.declared.report.TheConstants.Report.{DEVICES}
pub use Rattle.mdb_msgs.specs.declared.command.Device.{Device}
pub use Rattle.mdb_text.specs.declared.outcome.Outcome.{Outcome}
pub use Rattle.mdb_text.specs.declared.outcome.Outcome.TheVariants.{No, Yes}
pub use Rattle.mdb_json.specs.Reports.{account_data, account_member, accounts_data, device_data, device_member, devices_data, keeps, members, offence_data, outcome_data, places_data, range_data, untimely_data, with_member, yes_by, yes_data}
