-- Sides that follow an act stay within the limit of the rows, and stand for acts.
use Rattle.mdb_follow.proofs.Words.{arith, ◌*◌, ◌^◌, AreStanding, AreWithin}
use Rattle.mdb_follow.proofs.Sided.{by-stay}
use Rattle.mdb_follow.proofs.Limits.{sides-within-next, sides-within-weaker, standing-next}
use Rattle.mdb_follow.proofs.follower.Follower.follow.Goals as goal

pub lead-requires : goal.lead-requires
lead-requires c =
    let few = c.args.self.now.few in
    sides-within-weaker (c.args.self.now.rows * 2 ^ 32) (2 ^ 62) c.args.self.now.sides
    (omega (arith, few)) c.args.self.now.within

pub invariant_of-self-clause-within : goal.invariant_of-self-clause-within
invariant_of-self-clause-within c =
    sides-within-next c.args.self.now.rows c.args.self.now.sides c.args.self.now.act
    c.lead.new.self c.args.self.now.within c.in-Ok.ensures.followed

pub invariant_of-self-clause-standing : goal.invariant_of-self-clause-standing
invariant_of-self-clause-standing c =
    standing-next c.args.self.now.sides c.args.self.now.act c.lead.new.self
    c.args.self.now.standing c.in-Ok.ensures.followed

pub invariant_of-self-in-Err-clause-standing : goal.invariant_of-self-in-Err-clause-standing
invariant_of-self-in-Err-clause-standing c =
    by-stay (λ sides. ∥ AreStanding sides ∥₁) c.args.self.now.sides c.lead.new.self
    c.args.self.now.standing c.in-Err.ensures.stay c.args.self.now.standing

pub invariant_of-self-in-Err-clause-within : goal.invariant_of-self-in-Err-clause-within
invariant_of-self-in-Err-clause-within c =
    by-stay (AreWithin (c.args.self.now.rows * 2 ^ 32)) c.args.self.now.sides c.lead.new.self
    c.args.self.now.standing c.in-Err.ensures.stay c.args.self.now.within

pub invariant_of-self-clause-few_silences : goal.invariant_of-self-clause-few_silences
invariant_of-self-clause-few_silences c device =
    (c.follow.ensures device).few c.args.self.now.rows (c.args.self.now.few_silences device)
