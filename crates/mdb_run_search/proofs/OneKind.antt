-- Steps of which there is one at most.
use Rattle.mdb_run_search.proofs.Words.{◌≡◌, Option, Some, None, Gains, rules}
use Rattle.mdb_machine.specs.Steps.{ForOwn}

-- two steps of a kind from one state are the same
abbrev pub IsOneStep : {State : Type 0} → (State → Gains → Type 0) → Type 0
IsOneStep {State} Step =
    (one other : State) (gains more : Gains) → Step one gains → Step other more
    → (one ≡ other) × (gains ≡ more)

-- by a command of the device, or of another one
pub own_one : {Own State : Type 0} (own : Option Own) (Step : Own → State → State → Gains → Type 0)
    (before : State) → ((command : Own) → IsOneStep (Step command before))
    → IsOneStep (ForOwn own Step before)
own_one None Step before each = λ one other gains more p q. search rules
own_one (Some command) Step before each = each command
