-- any wish will do, as that every free act is heard
use Rattle.mdb_bus.proofs.Words.{true}
use Rattle.mdb_bus.proofs.laws.act_lists_have_a_fitting_loss.Goals as goal

pub returns : goal.returns
returns c scope pieces are =
    let free = c.free_acts_may_be_heard_or_not.ensures scope pieces are (λ before. true) in
    (free.0, free.1)
