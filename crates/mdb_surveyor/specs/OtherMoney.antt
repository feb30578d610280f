-- Where the controller asks a reader for what isn't followed: ENABLE OPTIONS with money of 32 bits,
-- or of several currencies (this profile).
use Rattle.std.specs.Prelude.{◌≡◌, ℕ, List, Option, Some, None}
use Rattle.mdb_words.specs.Block.{block_of}
use Rattle.mdb_msgs.specs.declared.command.Command.TheVariants.{Reader}
use Rattle.mdb_msgs.specs.declared.command.ReaderCommand.{ReaderCommand}
use Rattle.mdb_msgs.specs.declared.command.ReaderUnit.{ReaderUnit}
use Rattle.mdb_msgs.specs.Commands.{EnablesMore, Spells}
use Rattle.mdb_bus.specs.declared.fault.Rule.{Rule}
use Rattle.mdb_bus.specs.declared.fault.Rule.TheVariants as rules

-- The bytes so far of a block ask this reader for it: they are all of such a command but the sum.
pub record OtherMoneyIsAsked (bytes : List ℕ) (unit : ReaderUnit) : Type 0 where
  pub command : ReaderCommand
  pub spelled : Spells (Reader unit command) (block_of bytes)
  pub more : EnablesMore (Reader unit command)

-- the reader that they ask, if they ask one
abbrev pub WhoIsAsked : List ℕ → Option ReaderUnit → Type 0
WhoIsAsked bytes (Some unit) = OtherMoneyIsAsked bytes unit
WhoIsAsked bytes None = (unit : ReaderUnit) → OtherMoneyIsAsked bytes unit → ⊥

-- The reader that is asked where a row breaks this rule after these bytes. By `Profile` the row is
-- the sum: a wrong sum of ENABLE OPTIONS breaks `Sum`, also where money may be of 32 bits. By any
-- other rule nobody is asked.
abbrev pub WhoIsAskedBefore : Rule → List ℕ → Option ReaderUnit → Type 0
WhoIsAskedBefore rules.Profile bytes asked = WhoIsAsked bytes asked
WhoIsAskedBefore broken bytes asked = asked ≡ None
