-- The row is kept, or can't be.
use Rattle.mdb_explain.proofs.Words.{append_assoc, arith, length-append, ap, subst, ◌++◌, ◌∙◌, [], ◌∷◌}
use Rattle.mdb_follow.specs.Offences.{IsOffence}
use Rattle.mdb_explain.proofs.keeping.Keeping.keep.Goals as goal

pub returns-in-Err-clause-taken : goal.returns-in-Err-clause-taken
returns-in-Err-clause-taken c scope earlier has =
    rw has.followed.in_scope at
    (c.in-Err.ensures.refused.offence earlier has.followed.stands)
