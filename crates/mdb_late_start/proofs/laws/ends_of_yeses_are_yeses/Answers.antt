-- A no would name a row that is reached.
use Rattle.mdb_late_start.specs.Cuts.{joined_with}
use Rattle.mdb_late_start.proofs.EndVerdicts.{end_says_yes}
use Rattle.mdb_late_start.proofs.laws.ends_of_yeses_are_yeses.Goals as goal

pub returns : goal.returns
returns c = λ scope setups limit front end report answer may whole.
    end_says_yes scope limit front end c.fronts_of_reached_rows_are_reached.ensures report whole
    (joined_with setups scope) (λ rows ends is are reached.
    c.ends_of_reached_rows_are_reached.ensures scope setups rows ends (may rows ends is are)
    reached) answer
