-- Which feature level a stretch is told of a reader by the base profile (this profile): the last
-- one that the controller told it, if the reader has sent no config message since. Lists of acts
-- stand newest first.
use Rattle.std.specs.Prelude.{◌≡◌, ◌++◌, ℕ, List, ◌∷◌, All, Some}
use Rattle.mdb_msgs.specs.declared.command.Command.TheVariants as commands
use Rattle.mdb_msgs.specs.declared.command.ReaderCommand.{ReaderCommand}
use Rattle.mdb_msgs.specs.declared.command.ReaderCommand.TheVariants as readers
use Rattle.mdb_msgs.specs.declared.command.ReaderUnit.{ReaderUnit}
use Rattle.mdb_msgs.specs.declared.reply.Reply.TheVariants as replies
use Rattle.mdb_msgs.specs.declared.setups.ReaderConfig.{ReaderConfig}
use Rattle.mdb_msgs.specs.Reader.{ReaderMessages}
use Rattle.mdb_msgs.specs.SetupData.{last_config}
use Rattle.mdb_bus.specs.declared.act.Act.{Act}
use Rattle.mdb_bus.specs.declared.act.Act.TheVariants as acts

-- An act tells this reader this level: it is a whole SETUP config ask.
pub record TellsLevel (unit : ReaderUnit) (level : ℕ) (act : Act) : Type 0 where
  pub columns : ℕ
  pub rows : ℕ
  pub display : ℕ
  pub is : act
      ≡ acts.Ask (commands.Reader unit (readers.SetupConfig level columns rows display))

-- An act is a reply of this reader that has a config message, whatever it answers.
pub record HasConfig (unit : ReaderUnit) (act : Act) : Type 0 where
  pub asked : ReaderCommand
  pub list : ReaderMessages
  pub is : act ≡ acts.Reply (commands.Reader unit asked) (replies.Reader list)
  pub config : ReaderConfig
  pub has : last_config list.messages ≡ Some config

-- an act is neither
abbrev pub IsNeither : ReaderUnit → Act → Type 0
IsNeither unit act =
    ((level : ℕ) → TellsLevel unit level act → ⊥) × (HasConfig unit act → ⊥)

-- The last act that tells this reader a level tells it this one, and no reply after it has a config
-- message.
pub record IsUnanswered (unit : ReaderUnit) (level : ℕ) (acts : List Act) : Type 0 where
  pub later : List Act
  pub ask : Act
  pub before : List Act
  pub order : acts ≡ later ++ ask ∷ before
  pub tells : TellsLevel unit level ask
  pub since : All (IsNeither unit) later
