-- What concerns neither machine leaves a state of either.
use Rattle.mdb_cashless.proofs.Words.{OnFalse_at, OnFalse_from, base_state, extended_state, if_some}
use Rattle.mdb_cashless.proofs.ByProfile.{stays_by}
use Rattle.mdb_cashless.proofs.by_profile.ReaderByProfilePair.concerns.Goals as goal

pub returns-else-concerns-clause-still : goal.returns-else-concerns-clause-still
returns-else-concerns-clause-still g c = OnFalse_from c.concerns-else-concerns.result _
    (λ is begins so_far choice before after gains. stays_by _ begins so_far _ choice before
    after gains c.in_default.not-Break
    (if_some (base_state before)
    (λ its to. c.if-concerns.ensures.still begins so_far choice its to gains))
    (if_some (extended_state before)
    (λ its to. OnFalse_at is c.concerns-else-concerns.ensures.still begins so_far choice its to
    gains)))
