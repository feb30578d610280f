-- How what is told of the devices fits what their machines know of them (this profile). Lists of
-- acts stand newest first.
use Rattle.std.specs.Prelude.{◌≡◌, Bool, true, false, List, Option, Some, None, if◌then◌else◌}
use Rattle.mdb_msgs.specs.declared.command.ReaderCommand.{ReaderCommand}
use Rattle.mdb_msgs.specs.declared.command.ReaderCommand.TheVariants as readers
use Rattle.mdb_msgs.specs.declared.command.ReaderUnit.{ReaderUnit}
use Rattle.mdb_msgs.specs.declared.setups.Setups.{Setups}
use Rattle.mdb_msgs.specs.Setups.{config_known}
use Rattle.mdb_bus.specs.declared.act.Act.{Act}
use Rattle.mdb_bus.specs.declared.scope.Beginning.{Beginning}
use Rattle.mdb_machine.specs.Past.{last_told, or_else, powers_on, taken_by}
use Rattle.mdb_cash.specs.BillFacts as bill
use Rattle.mdb_cash.specs.ChangerFacts as changer
use Rattle.mdb_cashless.specs.ByProfileFacts.{config_of, facts_of}
use Rattle.mdb_cashless.specs.ReaderFacts.{effect_of, own_of}

-- These setup data are those that the machines of the devices know after acts of a recording that
-- begins so.
pub record AreKnown (begins : Beginning) (setups : Setups) (acts : List Act) : Type 0 where
  pub changer : setups.changer ≡ (changer.known_of begins acts).setup
  pub bill : setups.bill ≡ (bill.known_of begins acts).setup
  pub reader : (unit : ReaderUnit)
      → config_known setups unit ≡ config_of (facts_of begins unit acts)

-- What an act tells of whether a reader's features are told: a break, or a RESET that the reader
-- takes, that they aren't; an ENABLE OPTIONS that it takes, that they are.
abbrev pub enables_features : Option ReaderCommand → Bool
enables_features (Some (readers.EnableOptions list)) = true
enables_features command = false

abbrev pub features_told_by : ReaderUnit → Act → Option Bool
features_told_by unit act =
    if powers_on (effect_of unit) act then Some false
    else if enables_features (own_of unit (taken_by act)) then Some true
    else None

-- Whether they are told after acts: as the last act says that tells it, or else as before.
abbrev pub AreFeaturesTold : ReaderUnit → List Act → Bool → Bool → Type 0
AreFeaturesTold unit acts before after =
    Some after ≡ or_else (last_told (features_told_by unit) acts) (Some before)
