-- What a replay without marks tells.
use Rattle.mdb_page.proofs.Words.{Event, List, None, Offence, Scope, [], ℕ, ◌≡◌}
use Rattle.mdb_run_search.specs.ReplayFaults.{IsReplayFault}
use Rattle.mdb_run_search.specs.declared.replay.ReplayFault.{ReplayFault}
use Rattle.mdb_run_search.specs.declared.replay.ReplayFault.TheVariants as faults
use Rattle.mdb_page.specs.Replays.{IsPlainOffence}

-- without a mark there is none that may not stand
pub no_mark_fault : (scope : Scope) (rows : List Event) (event : Event) (fault : ReplayFault)
    (row : ℕ) → fault ≡ faults.Mark row → IsReplayFault scope rows [] event None fault → ⊥
no_mark_fault scope rows event fault row is told =
    let its : IsReplayFault scope rows [] event None (faults.Mark row) = rw is at told in
    let wrong : None ≡ _ = its.is in absurd (cc wrong)

-- what is told of a replay that is taken so is told of a recording that is taken so
pub plain_offence : (own scope : Scope) (rows : List Event) (event : Event) (fault : ReplayFault)
    (offence : Offence) → own ≡ scope → fault ≡ faults.Offence offence
    → IsReplayFault own rows [] event None fault → IsPlainOffence scope rows event offence
plain_offence own scope rows event fault offence same is told =
    let its : IsPlainOffence own rows event offence = rw is at told in rw same at its
