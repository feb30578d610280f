-- So too with the levels told.
use Rattle.mdb_late_start.specs.Told.{told_later}
use Rattle.mdb_late_start.proofs.EndVerdicts.{end_says_yes}
use Rattle.mdb_late_start.proofs.laws.ends_of_yeses_are_yeses_with_the_levels_told_in_front.Goals as goal

pub returns : goal.returns
returns c = λ scope setups levels limit front end report answer may whole told.
    end_says_yes scope limit front end c.fronts_of_reached_rows_are_reached.ensures report whole
    (told_later setups levels scope) (λ rows ends is are reached.
    c.ends_are_reached_with_the_levels_told_in_front.ensures scope setups levels rows ends
    (may rows ends is are) reached (told rows ends is are)) answer
