-- What mdb_msgs promises of whole blocks and replies holds of the devices that are followed.
use Rattle.mdb_bus.proofs.FormatLaws.{none_as, one_as}
use Rattle.mdb_bus.proofs.Promises.{needs, one_reply, open_front, tells}
use Rattle.mdb_bus.proofs.laws.grammar.Goals as goal

pub returns : goal.returns
returns c scope =
    let first = c.first_byte_tells_the_device.ensures in
    let two = c.first_two_bytes_tell_enable_options.ensures in
    record {
      one_command = λ block one other first second.
          c.block_has_one_command.ensures block one other first.spells second.spells;
      needs = needs first two c.command_has_what_it_needs.ensures scope;
      tells = tells first two c.first_bytes_tell_the_length.ensures scope;
      open_front = open_front first c.need_leaves_a_command_open.ensures
          c.need_leaves_another_command_open.ensures scope;
      one_reply = λ format command one other is also answers too same.
          one_as c.reply_has_no_fault.ensures command (one_reply c.block_has_one_reply.ensures) one
          other answers too same format is also;
      no_fault = λ format command. none_as c.reply_has_no_fault.ensures command format;
      counted = c.reply_has_its_length.ensures.allowed;
    }
