-- The names of std, of the crates below and of this crate's specs that its proofs share.
pub use Rattle.std.proofs.Common.{List, None, Ok, Option, Some, [], add-one, ap, append_assoc, arith, drop, get_or, length, length-append, refl, subst, sym, take, ℕ, ◌++◌, ◌+◌, ◌-◌, ◌<◌, ◌∙◌, ◌∷◌, ◌≡◌, ◌≤◌}
pub use Rattle.std.proofs.lemmas.List.{get_or_at, take_all, take_at, take_more}
pub use Rattle.std.specs.Option.{option_or}
pub use Rattle.std.specs.Prelude.{Bool, IsSomeAnd, IsTrue, false, true, ◌↔◌}
pub use Rattle.mdb_bus.specs.ActLists.{IsActList, Piece, acts_of, last_of}
pub use Rattle.mdb_bus.specs.Pieces.{HasActList, with_act}
pub use Rattle.mdb_bus.specs.declared.levels.Levels.{Levels}
pub use Rattle.mdb_bus.specs.declared.scope.Scope.{Scope}
pub use Rattle.mdb_follow.specs.Follower.{HasAccepted, StandsFor, offence_of, rows_of, scope_of}
pub use Rattle.mdb_verdict.specs.Ending.{IsYes}
pub use Rattle.mdb_verdict.specs.Verdict.{IsAnswer, IsStopped, IsTakenWhole}
pub use Rattle.mdb_words.specs.Row.{IsRow}
pub use Rattle.mdb_words.specs.declared.event.Event.{Event}
pub use Rattle.mdb_check.specs.Spared.{CouldBe, IsSpared, before_last}
pub use Rattle.mdb_check.specs.Unfollowed.{unfollowed}
pub use Rattle.mdb_check.specs.Unjudged.{begins_block, begun_at, is_joined, known_before, last_begun, reported, reported_if, unjudged}
pub use Rattle.mdb_check.specs.declared.heeding.Heeding.{Heeding}
pub use Rattle.mdb_check.specs.declared.heeding.Met.{Met}
pub use Rattle.mdb_check.specs.inner.LevelsHeeded.{HasFollowed, HasRefused, HasTaken, Meets, RefusesAmong, SomeRefused}
