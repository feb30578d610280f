-- What mdb_msgs promises of commands and replies, as its laws say it, of the devices that are
-- followed.
use Rattle.std.specs.Prelude.{◌≡◌, ◌≢◌, ◌<◌, ℕ, List, [], ◌++◌, length, All}
use Rattle.mdb_msgs.specs.declared.command.Command.{Command}
use Rattle.mdb_msgs.specs.declared.fault.MsgFault.{MsgFault}
use Rattle.mdb_msgs.specs.declared.need.Need.TheVariants.{Exactly}
use Rattle.mdb_msgs.specs.declared.reply.Reply.{Reply}
use Rattle.mdb_msgs.specs.Commands.{IsByte}
use Rattle.mdb_msgs.specs.OpenBlocks.{IsShort, IsTold}
use Rattle.mdb_msgs.specs.Replies.{IsReplyTo, reply_bytes}
use Rattle.mdb_msgs.specs.Answers.{HasDataAnswer}
use Rattle.mdb_bus.specs.declared.scope.Scope.{Scope}
use Rattle.mdb_bus.specs.declared.format.Format.{Format}
use Rattle.mdb_bus.specs.Formats.{HasFault, IsReadAs}
use Rattle.mdb_bus.specs.Scopes.{Asks, needed_in}

-- open bytes are the front of some command's block
abbrev pub OpenIsAFront : Scope → Type 0
OpenIsAFront scope =
    (bytes : List ℕ) → All IsByte bytes → IsShort (needed_in scope bytes) (length bytes)
    → (command : Command) × (rest : List ℕ) × (rest ≢ []) × Asks scope command (bytes ++ rest)

pub record Grammar (scope : Scope) : Type 0 where
  -- a block has at most one command
  pub one_command : (block : List ℕ) (one other : Command) → Asks scope one block
      → Asks scope other block
      → one ≡ other
  -- the first two bytes of a command's block tell its length
  pub needs : (block : List ℕ) (command : Command) → Asks scope command block
      → needed_in scope block ≡ Exactly (length block)
  -- its first bytes tell it, or leave it to the second
  pub tells : (prefix rest : List ℕ) (command : Command) → 0 < length prefix
      → Asks scope command (prefix ++ rest)
      → IsTold (needed_in scope prefix) (length prefix) (length (prefix ++ rest))
  pub open_front : OpenIsAFront scope
  -- for a command and a format, data bytes have at most one reply
  pub one_reply : (format : Format) (command : Command) (one other : Reply)
      → IsReadAs format command one → IsReadAs format command other → IsReplyTo command one
      → IsReplyTo command other
      → reply_bytes one ≡ reply_bytes other → one ≡ other
  -- data bytes that are a reply have no fault
  pub no_fault : (format : Format) (command : Command) (reply : Reply) (fault : MsgFault)
      → IsReplyTo command reply → IsReadAs format command reply
      → HasFault format command (reply_bytes reply) fault → ⊥
  -- a reply has a number of bytes that the command allows
  pub counted : (command : Command) (reply : Reply) → IsReplyTo command reply
      → HasDataAnswer command (length (reply_bytes reply))
