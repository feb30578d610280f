-- A whole command is an ask, unless it enables more features than are followed.
use Rattle.mdb_bus.proofs.Words.{rules}
use Rattle.mdb_bus.proofs.Verdicts.{ask_ends, ask_more}
use Rattle.mdb_bus.proofs.effects.asking.end_of_ask_effect.Goals as goal

pub returns-then-enables_more : goal.returns-then-enables_more
returns-then-enables_more c =
    ask_more c.what_it_needs_is_a_command.ensures c.first_two_bytes_tell_enable_options.ensures
    c.args.bytes.now c.args.word c.as_slice.ensures.some c.as_slice.ensures.are_bytes
    c.requires.last (search rules) c.enables_more.result c.enables_more.ensures
    c.if-enables_more.true

pub returns : goal.returns
returns c =
    ask_ends c.what_it_needs_is_a_command.ensures c.first_two_bytes_tell_enable_options.ensures
    c.args.bytes.now c.args.word c.as_slice.ensures.some c.as_slice.ensures.are_bytes
    c.requires.last (search rules) c.enables_more.result c.enables_more.ensures
    c.if-enables_more.false
