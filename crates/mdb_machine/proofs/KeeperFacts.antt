-- What a device's facts are after its reply, and after it takes a further mask.
use Rattle.mdb_machine.proofs.Words.{◌≡◌, ◌∙◌, ℕ, false, [], refl, ap, sym, bit_or, Reply, Profile, Effect, Facts, Tables, enabled_after, facts_in, facts_taken, facts_told, PastFacts, or_else, resets, effect_answered, past_after, past_in}
use Rattle.mdb_machine.specs.declared.past.Effect.TheVariants as effects
use Rattle.mdb_machine.specs.declared.keeper.KeeperFacts.{KeeperFacts}
use Rattle.mdb_machine.proofs.Masks.{enabled_more, in_mask}
use Rattle.mdb_machine.proofs.PowerOn.{same_facts}

-- the facts after a reply of the device: its setup table, the command that it takes, its messages
pub replied : {Own Setup Asked M : Type 0} (tables : Tables Own Setup Asked M) (profile : Profile)
    (command : Own) (reply : Reply) (old noted took : Facts Setup Asked M) (kept : PastFacts M)
    (answered effect : Effect)
    → noted ≡ record old { setup = or_else (tables.setup_of reply) old.setup }
    → effect ≡ tables.effect_of command → answered ≡ effect_answered effect reply
    → took ≡ facts_taken profile answered noted
    → kept ≡ past_after false (tables.parts_of reply) took.past
    → record took { past = kept } ≡ facts_told tables profile command reply old
replied tables profile command reply old noted took kept answered effect noted_is effect_is
    answered_is took_is kept_is =
    rw (kept_is, took_is, noted_is, answered_is, effect_is) refl

-- the facts once the device has taken a further mask
pub took_mask : {K Own Setup Asked M Message : Type 0}
    (old new : KeeperFacts K Own Setup Asked M Message) (profile : Profile) (effect : Effect)
    (mask : ℕ) → effect ≡ effects.Enable mask → new.setup ≡ old.setup
    → new.last_asked ≡ old.last_asked → new.enabled ≡ bit_or old.enabled mask
    → past_in new.past ≡ past_after (resets effect) [] (past_in old.past)
    → facts_in new ≡ facts_taken profile effect (facts_in old)
took_mask old new profile effect mask is setup asked enabled past =
    same_facts setup asked
    (ap in_mask enabled ∙ enabled_more profile old.enabled mask
    ∙ ap (λ (e : Effect). enabled_after profile (resets e) e (facts_in old).enabled) (sym is)) past
