-- A state rests where it does in its own machine.
use Rattle.mdb_cashless.proofs.Words.{OnTrue_at, OnTrue_from}
use Rattle.mdb_cashless.proofs.ByProfile.{stays_by}
use Rattle.mdb_cashless.proofs.by_profile.ReaderByProfilePair.rests.Goals as goal

pub returns-in_default-Base : goal.returns-in_default-Base
returns-in_default-Base g c = rw c.in_default-Base.is-1 (OnTrue_from c.rests.result _
    (λ is begins so_far choice after gains. stays_by _ begins so_far _ choice _ after gains
    c.in_default-Base.not-Break-0
    (λ to. OnTrue_at is c.rests.ensures begins so_far choice to gains) tt))

pub returns-in_default-Extended : goal.returns-in_default-Extended
returns-in_default-Extended g c = rw c.in_default-Extended.is-1
    (OnTrue_from c.rests-in_default-Extended.result _
    (λ is begins so_far choice after gains. stays_by _ begins so_far _ choice _ after gains
    c.in_default-Extended.not-Break-0 tt
    (λ to. OnTrue_at is c.rests-in_default-Extended.ensures begins so_far choice to gains)))
