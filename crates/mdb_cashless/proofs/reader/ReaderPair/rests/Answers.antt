-- What changes nothing after any facts changes nothing where not all is known.
use Rattle.mdb_cashless.proofs.Words.{sym, OnTrue_at, OnTrue_from, stays}
use Rattle.mdb_cashless.proofs.reader.ReaderPair.rests.Goals as goal

pub returns : goal.returns
returns g c = OnTrue_from c.rests.result _ (λ is begins acts choice after gains.
    stays _ _ _ _ _ _ _ (λ facts. rw (sym c.unit_of.ensures)
    (OnTrue_at is c.rests.ensures facts choice after gains)))
