-- A second byte is left out, makes the block foreign, or leaves a command open.
use Rattle.mdb_bus.proofs.Words.{inl, profile_of, rules}
use Rattle.mdb_bus.proofs.Verdicts.{second_foreign, second_front, second_outside}
use Rattle.mdb_bus.proofs.effects.asking.second_byte.Goals as goal

pub returns-in-Outside : goal.returns-in-Outside
returns-in-Outside c =
    inl (second_outside (profile_of c.args.scope.now.begins) c.requires.is c.byte.ensures.value
    c.requires.unmarked (rw c.profile.ensures at c.need_of-2.ensures) c.requires.begun
    c.in-Outside.is)

pub returns-in-Foreign : goal.returns-in-Foreign
returns-in-Foreign c =
    second_foreign (profile_of c.args.scope.now.begins) c.requires.is c.byte.ensures.value
    c.requires.unmarked (rw c.profile.ensures at c.need_of-2.ensures) c.requires.begun
    c.in-Foreign.is

pub returns-in-More : goal.returns-in-More
returns-in-More c =
    second_front (profile_of c.args.scope.now.begins) c.requires.is c.byte.ensures.value
    c.requires.unmarked (rw c.profile.ensures at c.need_of-2.ensures) c.requires.begun
    c.need_leaves_a_command_open.ensures c.first_two_bytes_tell_enable_options.ensures
    c.need_of.result c.ranges.first.fits c.need_of.ensures (search rules) c.in-More.is
