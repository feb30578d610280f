-- A command that enables more types adds its mask to that of the enabled ones.
use Rattle.mdb_machine.proofs.Words.{refl, bit_or}
use Rattle.mdb_machine.proofs.KeeperFacts.{took_mask}
use Rattle.mdb_machine.proofs.keeper.KeeperFacts.take.Goals as goal

pub returns-in-Enable-default : goal.returns-in-Enable-default
returns-in-Enable-default g c =
    let old = c.args.self.now in
    let mask = c.in-Enable-default.mask in
    took_mask old (record old { enabled = bit_or old.enabled mask; past = c.take.new.self })
    c.args.profile c.args.effect mask c.in-Enable-default.is-0 refl refl refl c.take.ensures
