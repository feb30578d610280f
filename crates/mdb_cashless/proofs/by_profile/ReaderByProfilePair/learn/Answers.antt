-- Facts by the extended profile go on as those of the profile's own reader.
use Rattle.mdb_cashless.proofs.Words.{ap, by_extended}
use Rattle.mdb_cashless.proofs.ByProfile.{is_extended}
use Rattle.mdb_cashless.proofs.by_profile.ReaderByProfilePair.learn.Goals as goal

pub returns-in-Extended : goal.returns-in-Extended
returns-in-Extended g c = rw c.in-Extended.is (λ begins so_far stands.
    let is = is_extended _ _ stands in
    rw is.0 (ap by_extended (c.learn-in-Extended.ensures begins so_far is.1)))
