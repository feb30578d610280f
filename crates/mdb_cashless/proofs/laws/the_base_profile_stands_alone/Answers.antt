-- By the base profile, each definition for either profile is the one for the base profile.
use Rattle.mdb_cashless.proofs.Words.{refl}
use Rattle.mdb_cashless.proofs.laws.the_base_profile_stands_alone.Goals as goal

pub returns-clause-starts : goal.returns-clause-starts
returns-clause-starts c unit begins state is = rw is (λ starts. starts, λ starts. starts)

pub returns-clause-steps : goal.returns-clause-steps
returns-clause-steps c unit begins so_far act choice before after gains is =
    rw is (λ step. step, λ step. step)

pub returns-clause-facts : goal.returns-clause-facts
returns-clause-facts c begins unit so_far is = rw is refl

pub returns-clause-unvalued : goal.returns-clause-unvalued
returns-clause-unvalued c unit begins so_far is = rw is refl
