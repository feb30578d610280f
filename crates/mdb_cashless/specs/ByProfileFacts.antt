-- What is known of a reader by either profile (this profile).
use Rattle.std.specs.Prelude.{ℕ, List, Option}
use Rattle.mdb_msgs.specs.declared.command.ReaderUnit.{ReaderUnit}
use Rattle.mdb_msgs.specs.declared.setups.ReaderConfig.{ReaderConfig}
use Rattle.mdb_bus.specs.declared.act.Act.{Act}
use Rattle.mdb_bus.specs.declared.scope.Beginning.{Beginning}
use Rattle.mdb_bus.specs.Scopes.{profile_of}
use Rattle.mdb_cashless.specs.ExtendedFacts as extended_facts
use Rattle.mdb_cashless.specs.ExtendedAmounts as extended
use Rattle.mdb_cashless.specs.ReaderAmounts as base
use Rattle.mdb_cashless.specs.ReaderFacts as base_facts
use Rattle.mdb_cashless.specs.ByProfile.{by_profile}

-- what is known of a reader after acts, by the one profile or the other
pub data FactsByProfile : Type 0 where
  by_base : base_facts.KnownFacts → FactsByProfile
  by_extended : extended_facts.Facts → FactsByProfile

abbrev pub facts_of : Beginning → ReaderUnit → List Act → FactsByProfile
facts_of begins unit acts = by_profile (profile_of begins)
    (by_base (base_facts.known_of begins unit acts))
    (by_extended (extended_facts.facts_of begins unit acts))

-- the last config message
abbrev pub config_of : FactsByProfile → Option ReaderConfig
config_of (by_base known) = known.config
config_of (by_extended facts) = facts.config

-- how many amounts without a value acts tell
abbrev pub unvalued : ReaderUnit → Beginning → List Act → ℕ
unvalued unit begins =
    by_profile (profile_of begins) (base.unvalued unit begins) (extended.unvalued unit begins)
