-- What changes nothing after any facts changes nothing where not all is known.
use Rattle.mdb_cashless.proofs.Words.{sym, OnFalse_at, stays}
use Rattle.mdb_cashless.proofs.ReaderMoves.{denied}
use Rattle.mdb_cashless.proofs.reader.ReaderPair.concerns.Goals as goal

pub returns-clause-still : goal.returns-clause-still
returns-clause-still g c = denied c.concerns.result (λ is begins acts choice before after gains.
    stays _ _ _ _ _ _ _ (λ facts. rw (sym c.unit_of.ensures)
    (OnFalse_at is c.concerns.ensures.still facts choice before after gains)))
