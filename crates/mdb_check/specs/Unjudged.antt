-- Which no isn't judged, since the rows don't show the feature level of a session (this profile;
-- the feature levels by MDB/ICP 4.3, cashless device).
--
-- Reader and controller report their feature levels at SETUP, and speak the lower of both. This
-- profile follows level 1. From level 2 on messages of the reader are longer and sessions have
-- other steps, and commands with amounts may be longer. A recording that begins in mid-session may
-- show neither level. Then a row that can't be in a session of level 1 may be right in one of a
-- higher level, and a no that rests on that isn't judged. Nobody is accused by it.
--
-- Lists of acts stand newest first, lists of events oldest first.
use Rattle.std.specs.Prelude.{◌≡◌, ℕ, ◌%◌, ◌==◌, ◌&&◌, ◌||◌, not, Bool, true, false, nat_le, nat_lt, List, [], ◌∷◌, Option, Some, None, if◌then◌else◌}
use Rattle.std.specs.Option.{option_or}
use Rattle.mdb_words.specs.declared.event.Event.{Event}
use Rattle.mdb_words.specs.declared.event.Event.TheVariants.{Word, Break}
use Rattle.mdb_words.specs.declared.word.Line.TheVariants.{Controller, Peripheral}
use Rattle.mdb_msgs.specs.declared.command.Command.TheVariants as commands
use Rattle.mdb_msgs.specs.declared.command.Device.TheVariants.{Reader}
use Rattle.mdb_msgs.specs.declared.command.ReaderUnit.{ReaderUnit}
use Rattle.mdb_msgs.specs.declared.command.ReaderUnit.TheVariants.{First, Second}
use Rattle.mdb_msgs.specs.declared.reply.Reply.TheVariants as replies
use Rattle.mdb_msgs.specs.declared.reply.reader.ReaderMsg.{ReaderMsg}
use Rattle.mdb_msgs.specs.declared.reply.reader.ReaderMsg.TheVariants.{Config}
use Rattle.mdb_msgs.specs.declared.device_set.DeviceSet.{DeviceSet}
use Rattle.mdb_msgs.specs.DeviceSets.{has}
use Rattle.mdb_msgs.specs.Needs.{is_for}
use Rattle.mdb_bus.specs.declared.act.Act.{Act}
use Rattle.mdb_bus.specs.declared.act.Act.TheVariants as acts
use Rattle.mdb_bus.specs.declared.fault.Blame.{Blame}
use Rattle.mdb_bus.specs.declared.fault.Blame.TheVariants as blames
use Rattle.mdb_bus.specs.declared.fault.Rule.{Rule}
use Rattle.mdb_bus.specs.declared.fault.Rule.TheVariants as rules
use Rattle.mdb_bus.specs.declared.levels.Levels.{Levels}
use Rattle.mdb_bus.specs.declared.levels.ReaderLevels.{ReaderLevels}
use Rattle.mdb_bus.specs.declared.scope.Beginning.{Beginning}
use Rattle.mdb_bus.specs.declared.scope.Beginning.TheVariants.{Joined}
use Rattle.mdb_bus.specs.declared.scope.Profile.TheVariants.{Base}
use Rattle.mdb_bus.specs.declared.scope.Scope.{Scope}
use Rattle.mdb_bus.specs.ActLists.{IsActList, Piece, acts_of, levels_after}
use Rattle.mdb_follow.specs.declared.offence.Offence.{Offence}

-- ---- with whom the controller speaks

-- the byte with which a block of the controller begins, where this row is its word: the mode bit
-- marks that word, and no other of the controller
abbrev pub begins_block : Event → Option ℕ
begins_block (Word at Controller word) = if nat_le 256 word then Some (word % 256) else None
begins_block (Word at Peripheral word) = None
begins_block (Break at length) = None

-- that of the last block that begins in these rows
abbrev pub last_begun : List Event → Option ℕ
last_begun [] = None
last_begun (row ∷ rows) = option_or (last_begun rows) (begins_block row)

-- the same at a row that may begin a block itself: such a row is too early at any level, so it
-- counts as one of no block
abbrev pub begun_at : Option ℕ → Option ℕ → Option ℕ
begun_at (Some own) before = None
begun_at None before = before

-- the reader whose block begins with this byte: by the address, 10H or 60H, in its upper five bits
abbrev pub reader_of : ℕ → Option ReaderUnit
reader_of byte =
    if is_for 0x10 byte then Some First else if is_for 0x60 byte then Some Second else None

-- whether such a block is a SETUP or a VEND: these have amounts, of four bytes each where both
-- sides agreed on that at a higher level, and not of two
abbrev pub may_have_amounts : ℕ → Bool
may_have_amounts byte = (byte % 8 == 1) || (byte % 8 == 3)

-- ---- the levels that are reported

-- Z2 of the config message with which a reader's answer begins. (One that stands further behind
-- isn't taken: at a higher level these bytes may be others.)
abbrev pub level_told : List ReaderMsg → Option ℕ
level_told (Config level code scale decimals response options ∷ messages) = Some level
level_told messages = None

-- what is reported once an act was done, heard or not
abbrev pub reported_by : Act → Levels → Levels
reported_by (acts.Ask command) before = levels_after command before
reported_by (acts.Reply (commands.Reader First command) (replies.Reader list)) before =
    record before {
      first = record before.first {
        told = option_or (level_told list.messages) before.first.told;
      };
    }
reported_by (acts.Reply (commands.Reader Second command) (replies.Reader list)) before =
    record before {
      second = record before.second {
        told = option_or (level_told list.messages) before.second.told;
      };
    }
reported_by act before = before

-- what is reported after an act, if one ended
abbrev pub reported_if : Option Act → Levels → Levels
reported_if None before = before
reported_if (Some act) before = reported_by act before

-- the levels that were reported last in these acts, by the controller to each reader (Y2 of SETUP
-- config) and by each reader (Z2), where these are known from before them
abbrev pub reported : Levels → List Act → Levels
reported known [] = known
reported known (act ∷ acts) = reported_by act (reported known acts)

-- what is known of the level of a reader before a recording: a reader that is left out counts as
-- one of level 1, so each no is judged as far as it is concerned
abbrev pub level_before : DeviceSet → ReaderUnit → Option ℕ → Option ℕ
level_before without unit known = if has without (Reader unit) then Some 1 else known

-- what is known before a recording that is taken so, where these levels of the readers are known
-- from elsewhere
abbrev pub known_before : Scope → Levels → Levels
known_before scope readers = record {
  first = record scope.levels.first {
    told = level_before scope.without First readers.first.told;
  };
  second = record scope.levels.second {
    told = level_before scope.without Second readers.second.told;
  };
}

-- ---- what is judged

-- the levels of one reader
abbrev pub of_reader : ReaderUnit → Levels → ReaderLevels
of_reader First levels = levels.first
of_reader Second levels = levels.second

-- a level is known, and is below 2, or at least 2
abbrev pub is_low : Option ℕ → Bool
is_low None = false
is_low (Some level) = nat_lt level 2

abbrev pub is_high : Option ℕ → Bool
is_high None = false
is_high (Some level) = nat_le 2 level

-- a session with the reader is known to be of level 1: one of the two sides reported that
abbrev pub is_of_level_1 : ReaderLevels → Bool
is_of_level_1 levels = is_low levels.asked || is_low levels.told

-- whether it is the controller's row
abbrev pub is_controller : Blame → Bool
is_controller blames.Controller = true
is_controller blamed = false

-- Whether a row that breaks a rule may be right at a higher level, where the last block is one to a
-- reader and begins so, and the controller has reported this level to that reader: what no state of
-- reader and controller allows; a reader's message that can't be read or can't stand there; and a
-- block of the controller that may have longer amounts, and so another length and sum. A `Profile`
-- blames nobody, and where the controller's level is 2 or more the rows show as much of the session
-- as there is to know.
abbrev pub depends_on_level : Rule → Blame → Option ℕ → ℕ → Bool
depends_on_level rules.Cashless blamed level begun = true
depends_on_level rules.Message blamed level begun = true
depends_on_level rules.Answer blamed level begun = not (is_controller blamed)
depends_on_level rules.Profile blamed level begun =
    not (is_controller blamed) && not (is_high level)
depends_on_level rules.Sum blamed level begun = is_controller blamed && may_have_amounts begun
depends_on_level rules.Mode blamed level begun = is_controller blamed && may_have_amounts begun
depends_on_level broken blamed level begun = false

-- the reader of a no that isn't judged, where the last block begins so; None where it is judged
abbrev pub unjudged_with : ReaderUnit → Levels → Rule → Blame → ℕ → Option ReaderUnit
unjudged_with unit so_far broken blamed begun =
    let levels = of_reader unit so_far in
    if not (is_of_level_1 levels) && depends_on_level broken blamed levels.asked begun
    then Some unit else None

-- the same where the last block, if there is one, is to any device; of a recording from power-on,
-- and by the extended profile, each no is judged
abbrev pub unjudged : Bool → Levels → Rule → Blame → Option ℕ → Option ReaderUnit
unjudged false so_far broken blamed begun = None
unjudged true so_far broken blamed None = None
unjudged true so_far broken blamed (Some begun) =
    elim (reader_of begun) [
      | Some unit ↦ unjudged_with unit so_far broken blamed begun
      | None ↦ None
    ]

-- whether a recording begins in mid-session and is followed by the base profile: the extended one
-- follows higher levels too
abbrev pub is_joined : Beginning → Bool
is_joined (Joined setups Base) = true
is_joined begins = false

-- The reader of the no at a row after rows, where it isn't judged, or None where it is: by the acts
-- of the rows before it, by the last block of the controller up to it, and by levels of the readers
-- that are known from elsewhere.
pub record IsJudged (scope : Scope) (readers : Levels) (rows : List Event) (row : Event)
    (offence : Offence) (reader : Option ReaderUnit) : Type 0 where
  pub pieces : List Piece
  pub act_list : IsActList scope pieces rows
  pub is : reader ≡ unjudged (is_joined scope.begins)
      (reported (known_before scope readers) (acts_of pieces)) offence.rule offence.blame
      (begun_at (begins_block row) (last_begun rows))
