-- By the base profile no haste excuses a row, and no row counts as out of its time.
use Rattle.mdb_follow.proofs.Words.{sender_of}
use Rattle.mdb_follow.proofs.laws.the_base_profile_stands_alone.Goals as goal

pub returns-clause-acts : goal.returns-clause-acts
returns-clause-acts c scope pieces row act own =
    c.the_base_profile_stands_alone.ensures.haste scope pieces row
    (record { rule = own; blame = sender_of act })

pub returns-clause-reports : goal.returns-clause-reports
returns-clause-reports c scope rows pieces accounts =
    c.the_base_profile_stands_alone.ensures.times scope pieces
