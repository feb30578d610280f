-- Money of 32 bits: where a recording in mid-session leaves open whether a reader speaks it (this
-- profile; ENABLE OPTIONS by MDB/ICP 4.3, cashless device). Lists of acts are written newest first.
use Rattle.std.specs.Prelude.{ℕ, Bool, true, false, not, ◌+◌, ◌==◌, ◌&&◌, ◌||◌, List, [], ◌∷◌, Option, Some, None, ltb, if◌then◌else◌}
use Rattle.std.specs.List.{list_any}
use Rattle.mdb_msgs.specs.declared.command.Command.{Command}
use Rattle.mdb_msgs.specs.declared.command.Command.TheVariants as commands
use Rattle.mdb_msgs.specs.declared.command.ReaderCommand.{ReaderCommand}
use Rattle.mdb_msgs.specs.declared.command.ReaderCommand.TheVariants as readers
use Rattle.mdb_msgs.specs.declared.command.ReaderUnit.{ReaderUnit}
use Rattle.mdb_msgs.specs.declared.command.ReaderUnit.TheVariants.{First, Second}
use Rattle.mdb_msgs.specs.declared.reply.Reply.{Reply}
use Rattle.mdb_msgs.specs.declared.reply.Reply.TheVariants as replies
use Rattle.mdb_msgs.specs.Setups.{reader_known}
use Rattle.mdb_bus.specs.declared.act.Act.{Act}
use Rattle.mdb_bus.specs.declared.act.Act.TheVariants as acts
use Rattle.mdb_bus.specs.declared.fault.Rule.{Rule}
use Rattle.mdb_bus.specs.declared.fault.Rule.TheVariants as rule
use Rattle.mdb_bus.specs.declared.levels.Levels.{Levels}
use Rattle.mdb_bus.specs.declared.levels.ReaderLevels.{ReaderLevels}
use Rattle.mdb_bus.specs.declared.features.KnownFeatures.{KnownFeatures}
use Rattle.mdb_bus.specs.declared.scope.Beginning.{Beginning}
use Rattle.mdb_bus.specs.declared.scope.Beginning.TheVariants.{Joined}
use Rattle.mdb_bus.specs.declared.scope.Profile.TheVariants.{Extended}
use Rattle.mdb_bus.specs.declared.scope.Scope.{Scope}
use Rattle.mdb_bus.specs.ActLists.{Asked, InAsk, InReply, Piece, acts_of, levels_of}
use Rattle.mdb_bus.specs.ExtendedCounts.{is_refusal}
use Rattle.mdb_bus.specs.Scopes.{levels_before, profile_of}
use Rattle.mdb_bus.specs.Positions.{Position}

-- ---- whose features are known

abbrev pub all_known : KnownFeatures
all_known = record { first = true; second = true }

-- As a recording begins: in mid-session by the extended profile those that the setup data tell, and
-- else all.
abbrev pub first_known : Beginning → KnownFeatures
first_known (Joined setups Extended) = record {
  first = (reader_known setups First).features;
  second = (reader_known setups Second).features;
}
first_known begins = all_known

-- a command settles the features of the reader that takes it: RESET, and ENABLE OPTIONS
abbrev pub settles_features : ReaderCommand → Bool
settles_features readers.Reset = true
settles_features (readers.EnableOptions options) = true
settles_features command = false

-- after a command that was taken
abbrev pub known_after : Command → KnownFeatures → KnownFeatures
known_after (commands.Reader First command) known =
    record known { first = known.first || settles_features command }
known_after (commands.Reader Second command) known =
    record known { second = known.second || settles_features command }
known_after command known = known

-- whether a message of a reply is a reader's 0B: its command isn't taken then
abbrev pub refuses : Reply → Bool
refuses (replies.Reader list) = list_any is_refusal list.messages
refuses reply = false

-- after an act: a break settles all features, and a reader takes a command by its ACK, or by data
-- that don't refuse it
abbrev pub known_by : Act → KnownFeatures → KnownFeatures
known_by (acts.Break length) known = all_known
known_by (acts.Ack command) known = known_after command known
known_by (acts.Reply command reply) known =
    if refuses reply then known else known_after command known
known_by act known = known

-- after an act, if there is one
abbrev pub known_if : Option Act → KnownFeatures → KnownFeatures
known_if None known = known
known_if (Some act) known = known_by act known

-- after acts
abbrev pub known_of : KnownFeatures → List Act → KnownFeatures
known_of before [] = before
known_of before (act ∷ acts) = known_by act (known_of before acts)

-- ---- where money may be of 32 bits

-- whether the feature level of controller and reader, the lower of both, is known and below 3
abbrev pub is_below_3 : Option ℕ → Option ℕ → Bool
is_below_3 (Some asked) (Some told) = ltb asked 3 || ltb told 3
is_below_3 asked told = false

-- whether a reader may speak money of 32 bits: its features aren't known, and the level isn't known
-- to be below 3
abbrev pub may_be_wide : Bool → ReaderLevels → Bool
may_be_wide known levels = not (known || is_below_3 levels.asked levels.told)

-- of both readers
pub record Wide : Type 0 where
  pub first : Bool
  pub second : Bool

abbrev pub wide_at : KnownFeatures → Levels → Wide
wide_at known levels = record {
  first = may_be_wide known.first levels.first;
  second = may_be_wide known.second levels.second;
}

-- after pieces
abbrev pub wide_of : Scope → List Piece → Wide
wide_of scope pieces =
    wide_at (known_of (first_known scope.begins) (acts_of pieces))
    (levels_of (profile_of scope.begins) (levels_before scope) pieces)

-- of the reader, if there is one
abbrev pub is_wide : Wide → Option ReaderUnit → Bool
is_wide wide None = false
is_wide wide (Some First) = wide.first
is_wide wide (Some Second) = wide.second

-- whether these two bytes begin a command with amounts to the reader at this address: SETUP prices,
-- VEND REQUEST and CASH SALE
abbrev pub have_amounts : ℕ → ℕ → ℕ → Bool
have_amounts address first second =
    ((first == address + 1) && (second == 1))
    || ((first == address + 3) && ((second == 0) || (second == 5)))

-- the reader to which bytes begin such a command
abbrev pub asked_with_amounts : List ℕ → Option ReaderUnit
asked_with_amounts (first ∷ second ∷ bytes) =
    if have_amounts 0x10 first second then Some First
    else if have_amounts 0x60 first second then Some Second else None
asked_with_amounts bytes = None

-- the reader to which a command with amounts is
abbrev pub amounts_to : Command → Option ReaderUnit
amounts_to (commands.Reader unit (readers.SetupPrices maximum minimum)) = Some unit
amounts_to (commands.Reader unit (readers.VendRequest price item)) = Some unit
amounts_to (commands.Reader unit (readers.CashSale price item)) = Some unit
amounts_to command = None

-- the reader to which a command is
abbrev pub reader_asked : Command → Option ReaderUnit
reader_asked (commands.Reader unit command) = Some unit
reader_asked command = None

-- The rule that counts where a row breaks this one first. Where money may be of 32 bits, the sum of
-- such a command, a word that goes on after it, and a message of a reader's answer are beyond the
-- profile.
abbrev pub counted_as : Rule → Position → Wide → Rule
counted_as rule.Sum (InAsk bytes) wide =
    if is_wide wide (asked_with_amounts bytes) then rule.Profile else rule.Sum
counted_as rule.Mode (Asked command) wide =
    if is_wide wide (amounts_to command) then rule.Profile else rule.Mode
counted_as rule.Message (InReply command bytes) wide =
    if is_wide wide (reader_asked command) then rule.Profile else rule.Message
counted_as broken position wide = broken
