-- The names of std, of the crates below and of this crate's specs that its proofs share.
pub use Rattle.arrayvec.specs.ArrayVec.{array_vec_len}
pub use Rattle.std.proofs.Common.{[], ap, arith, bit_or, Bool, drop, false, get_or, IfNone, IfSome, if◌then◌else◌, inl, inr, IsTrue, length, List, ltb, map, max, None, not, Option, option_and_then, option_map, refl, slice_index, Some, subst, suc, sum_by, sym, take, true, unwrap_or, zero, ℕ, ◌%◌, ◌&&◌, ◌*◌, ◌++◌, ◌+◌, ◌/◌, ◌<◌, ◌==◌, ◌^◌, ◌||◌, ◌↔◌, ◌∙◌, ◌∷◌, ◌≡◌, ◌≢◌, ◌≤◌, ◌⊎◌}
pub use Rattle.std.proofs.Math.Path.{fun_ext}
pub use Rattle.std.proofs.Math.Seq.{drop-append_seam, take-append_seam, take-length}
pub use Rattle.std.proofs.lemmas.Bool.{cases_lt, eqb-true, le-ltb, lt-ltb, or_cases, or_left, or_right, and_right, and_parts}
pub use Rattle.std.proofs.lemmas.List.{length-append, length-take-le, map_more, take-append-drop, take_more, nil_from_length}
pub use Rattle.std.proofs.lemmas.List.Elements.{All-from_recursion, Contains-append_left, Contains-push, Contains-push_cases, filter_map-append, recursion_from_All}
pub use Rattle.std.proofs.lemmas.Option.{none-some, same_Some}
pub use Rattle.std.specs.Bool.{OnFalse, OnTrue}
pub use Rattle.std.specs.Int.{bit_at}
pub use Rattle.std.specs.List.{AllByRecursion, Contains, list_any}
pub use Rattle.mdb_msgs.specs.declared.command.Command.{Command}
pub use Rattle.mdb_msgs.specs.declared.reply.Reply.{Reply}
pub use Rattle.mdb_msgs.specs.declared.setups.Setups.{Setups}
pub use Rattle.mdb_bus.specs.declared.act.Act.{Act}
pub use Rattle.mdb_bus.specs.declared.scope.Beginning.{Beginning}
pub use Rattle.mdb_bus.specs.declared.scope.Beginning.TheVariants.{Joined, PowerOn}
pub use Rattle.mdb_bus.specs.declared.scope.Profile.{Profile}
pub use Rattle.mdb_machine.specs.Choices.{CanStand, is_approval}
pub use Rattle.mdb_machine.specs.Enabled.{disables, enabled_of, enables, known_enabled}
pub use Rattle.mdb_machine.specs.Gains.{by_slot, controller_gains, device_gains, in_slots, no_gains, Stays}
pub use Rattle.mdb_machine.specs.Keeper.{AllowsFacts, asked_by, effect_of, Facts, known_of, KnownFacts, parts_by, setup_by, Tables}
pub use Rattle.mdb_machine.specs.KeeperConduct.{AckStep, Conduct, KeeperStep, ReplyStep, StepKnowing, VmcAckStep, worth}
pub use Rattle.mdb_machine.specs.KeeperValues.{enabled_after, facts_in, facts_of, facts_taken, facts_told, facts_with, known_in, known_with, settled}
pub use Rattle.mdb_machine.specs.Kept.{has_reset, HasNews, held, holds_acked, holds_after, holds_read, is_reset, IsNew, keeps_early, kept_by, kept_of, MayBeRead}
pub use Rattle.mdb_machine.specs.Known.{Allows, AllowsKept, Is, known_before, known_by}
pub use Rattle.mdb_machine.specs.Pair.{CanStandFor, IsActOf, IsChosenStep, IsMachineOf, IsMove, IsOfAnother, IsOnly, IsOnlyStep, IsOtherMove, IsStep}
pub use Rattle.mdb_machine.specs.Past.{acts_from, AllowsPast, effect_by, is_out_of_sequence, last_list, last_told, or_else, past_of, PastFacts, powers_on, resets, unless_empty}
pub use Rattle.mdb_machine.specs.PastValues.{effect_answered, first_past, from_power_on, if_known, IsSummary, past_after, past_in}
pub use Rattle.mdb_machine.specs.SmallGains.{AreSmall, IsSmall}
pub use Rattle.mdb_machine.specs.Steps.{ForOwn}
pub use Rattle.mdb_machine.specs.Unvalued.{amounts_in, one_if, unvalued, unvalued_by}
pub use Rattle.mdb_machine.specs.declared.choice.Choice.{Choice}
pub use Rattle.mdb_machine.specs.declared.choice.Choice.TheVariants.{Again, Lost, Plain, Restart}
pub use Rattle.mdb_machine.specs.declared.gains.Gains.{Gains}
pub use Rattle.mdb_machine.specs.declared.kept.Part.{Part}
pub use Rattle.mdb_machine.specs.declared.past.Effect.{Effect}
pub use Rattle.mdb_machine.specs.shared.Guesses.{guessing, MayGuess, Overlooks, step_guessing}
pub use Rattle.mdb_machine.specs.shared.KeeperWays.{known_more_of, same_fields}
pub use Rattle.mdb_machine.specs.shared.PastWays.{same_known_past, same_past}
