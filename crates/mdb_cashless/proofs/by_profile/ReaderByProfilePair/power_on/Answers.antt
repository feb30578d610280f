-- By either profile, the only state at power-on is that of the profile's own reader.
use Rattle.mdb_cashless.proofs.Words.{base_state, base_part, extended_state, extended_part}
use Rattle.mdb_cashless.proofs.ByProfile.{alone}
use Rattle.mdb_cashless.proofs.by_profile.ReaderByProfilePair.power_on.Goals as goal

pub returns-in-Base : goal.returns-in-Base
returns-in-Base g c = rw c.in-Base.is (alone base_state base_part _ c.power_on.ensures)

pub returns-in-Extended : goal.returns-in-Extended
returns-in-Extended g c = rw c.in-Extended.is
    (alone extended_state extended_part _ c.power_on-in-Extended.ensures)
