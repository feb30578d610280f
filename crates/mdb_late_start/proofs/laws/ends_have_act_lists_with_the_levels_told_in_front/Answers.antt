-- What the replies of an end say of levels fits those told in front.
use Rattle.mdb_late_start.proofs.ToldCuts.{told_list}
use Rattle.mdb_late_start.proofs.laws.ends_have_act_lists_with_the_levels_told_in_front.Goals as goal

pub returns : goal.returns
returns c = told_list
