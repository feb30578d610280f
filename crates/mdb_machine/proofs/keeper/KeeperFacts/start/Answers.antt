-- In a joined recording each type counts as enabled, which is the mask of 16 ones.
use Rattle.mdb_machine.proofs.Words.{◌≡◌, [], subst, sym, Beginning, known_enabled, effect_of}
use Rattle.mdb_machine.proofs.Masks.{all_types, in_mask}
use Rattle.mdb_machine.proofs.keeper.KeeperFacts.start.Goals as goal

pub returns-in-Joined-clause-enabled : goal.returns-in-Joined-clause-enabled
returns-in-Joined-clause-enabled g c =
    subst (λ (b : Beginning). in_mask 65535 ≡ known_enabled b (effect_of g.K.Keeper.tables) [])
    (sym c.in-Joined.is) all_types
