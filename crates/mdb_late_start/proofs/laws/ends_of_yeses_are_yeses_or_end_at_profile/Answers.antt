-- A no is one of the link, and by `Profile`.
use Rattle.mdb_late_start.proofs.EndVerdicts.{end_says_yes_or_profile}
use Rattle.mdb_late_start.proofs.laws.ends_of_yeses_are_yeses_or_end_at_profile.Goals as goal

pub returns : goal.returns
returns c = λ scope setups limit front end report answer tells whole.
    end_says_yes_or_profile scope limit front end c.fronts_of_reached_rows_are_reached.ensures
    report whole setups (c.ends_of_reached_rows_are_reached.ensures scope setups)
    (c.ends_break_no_rule_of_the_link_but_profile.ensures scope setups) tells answer
