-- Where the bus is (this profile).
use Rattle.std.specs.Prelude.{ℕ, List}
use Rattle.mdb_msgs.specs.declared.command.Command.{Command}
use Rattle.mdb_msgs.specs.declared.reply.Reply.{Reply}

-- Where the bus is: what the last act has left open, or what a tail has said.
pub data Position : Type 0 where
  -- nothing is open
  Quiet : Position
  -- the bytes so far of a block of the controller
  InAsk : List ℕ → Position
  -- a command, whose answer is open
  Asked : Command → Position
  -- the bytes so far of a reply to a command
  InReply : Command → List ℕ → Position
  -- a reply to a command: the controller's answer is open
  Replied : Command → Reply → Position
  -- RET was sent: the repeat is open
  Returned : Command → Reply → Position
  -- the words so far of the repeat
  InRepeat : Command → Reply → List ℕ → Position
  -- a foreign block was opened: its further words are open
  InForeign : Position
