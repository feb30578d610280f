-- What a value of the code stands for, of what is known of a reader by either profile.
use Rattle.mdb_cashless.specs.declared.by_profile.facts.KnownByProfile.{KnownByProfile}
use Rattle.mdb_cashless.specs.declared.by_profile.facts.KnownByProfile.TheVariants as values
use Rattle.mdb_cashless.specs.ReaderValues as base_values
use Rattle.mdb_cashless.specs.inner.Approvals as extended_values
use Rattle.mdb_cashless.specs.ByProfileFacts.{FactsByProfile, by_base, by_extended}

-- what a value of what is known stands for
abbrev pub known_in : KnownByProfile → FactsByProfile
known_in (values.Base known) = by_base (base_values.known_in known)
known_in (values.Extended facts) = by_extended (extended_values.facts_in facts)
