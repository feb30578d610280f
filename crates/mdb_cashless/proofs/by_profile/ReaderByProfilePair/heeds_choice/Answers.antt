-- A choice is heeded where the machine of the profile heeds it.
use Rattle.mdb_cashless.proofs.Words.{OnFalse_at, OnFalse_from}
use Rattle.mdb_cashless.proofs.ByProfile.{plain_by}
use Rattle.mdb_cashless.proofs.by_profile.ReaderByProfilePair.heeds_choice.Goals as goal

pub returns-in-Base : goal.returns-in-Base
returns-in-Base g c = rw c.in-Base.is (OnFalse_from c.heeds_choice.result _
    (λ is begins so_far choice after gains stands. plain_by _ begins so_far _ choice _ after gains
    (λ to. OnFalse_at is c.heeds_choice.ensures begins so_far choice to gains stands) tt))

pub returns-in-Extended : goal.returns-in-Extended
returns-in-Extended g c = rw c.in-Extended.is (OnFalse_from c.heeds_choice-in-Extended.result _
    (λ is begins so_far choice after gains stands. plain_by _ begins so_far _ choice _ after gains
    tt
    (λ to. OnFalse_at is c.heeds_choice-in-Extended.ensures begins so_far choice to gains stands)))
