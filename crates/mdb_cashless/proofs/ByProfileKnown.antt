-- What is known of a reader by either profile, and its unvalued amounts, are of its own acts.
use Rattle.mdb_cashless.proofs.Words.{ap, refl, sym, ◌∙◌, ◌≡◌, ◌+◌, ℕ, List, [], ◌∷◌, All, zero-add, ReaderUnit, Act, Beginning, Profile, profile_of, IsBreak, own_acts, by_profile, by_base, by_extended, facts_after, of_each, none_unvalued, config_of, unvalued}
use Rattle.mdb_msgs.specs.declared.command.Device.TheVariants as devices
use Rattle.mdb_machine.specs.shared.OwnWays.{IsOfOwn, part_of_none, same_known}
use Rattle.mdb_cashless.specs.ByProfileFacts.{facts_of}
use Rattle.mdb_cashless.specs.ExtendedFacts as extended_facts
use Rattle.mdb_cashless.specs.ExtendedAmounts as extended
use Rattle.mdb_cashless.specs.ReaderFacts as base_facts
use Rattle.mdb_cashless.specs.shared.ApprovalWays as extended_ways
use Rattle.mdb_cashless.specs.shared.ReaderWays as base_ways

module _ (begins : Beginning) (unit : ReaderUnit) where
  abbrev counted : List Act → extended_facts.Facts × ℕ
  counted so_far =
      (extended_facts.facts_of begins unit so_far, extended.unvalued unit begins so_far)

  counted_of_own : IsOfOwn (devices.Reader unit) counted
  counted_of_own = record {
    more = λ act known.
        (facts_after unit act known.0, extended.unvalued_by unit known.0 act + known.1);
    goes_on = λ act so_far. refl;
    still = λ act so_far other.
        ap (λ k. (k, extended.unvalued unit begins so_far))
        ((extended_ways.of_own unit begins).still act so_far other)
        ∙ ap (λ n. (extended_facts.facts_of begins unit (act ∷ so_far), n))
        (sym (extended_ways.untold unit begins so_far act other));
  }

  pub same_facts : (so_far other : List Act)
      → own_acts (devices.Reader unit) so_far ≡ own_acts (devices.Reader unit) other
      → facts_of begins unit so_far ≡ facts_of begins unit other
  same_facts so_far other same =
      ap (λ k. by_profile (profile_of begins) (by_base k)
      (by_extended (extended_facts.facts_of begins unit so_far)))
      (base_ways.same_facts begins unit so_far other same)
      ∙ ap (λ f. by_profile (profile_of begins)
      (by_base (base_facts.known_of begins unit other)) (by_extended f))
      (same_known (extended_facts.facts_of begins unit) (extended_ways.of_own unit begins) so_far
      other same)

  pub same_unvalued : (so_far other : List Act)
      → own_acts (devices.Reader unit) so_far ≡ own_acts (devices.Reader unit) other
      → unvalued unit begins so_far ≡ unvalued unit begins other
  same_unvalued so_far other same =
      of_each (λ (u : List Act → ℕ). u so_far ≡ u other) (profile_of begins)
      (base_ways.same_unvalued begins unit so_far other same)
      (ap (λ known. known.1) (same_known counted counted_of_own so_far other same))

  -- after breaks alone the config message is that of no act
  one_config : (profile : Profile) (known before : base_facts.KnownFacts)
      (facts start : extended_facts.Facts) → known.config ≡ before.config
      → facts.config ≡ start.config
      → config_of (by_profile profile (by_base known) (by_extended facts))
      ≡ config_of (by_profile profile (by_base before) (by_extended start))
  one_config Profile.Base known before facts start one other = one
  one_config Profile.Extended known before facts start one other = other

  pub no_config : (so_far : List Act) → All IsBreak (own_acts (devices.Reader unit) so_far)
      → config_of (facts_of begins unit so_far) ≡ config_of (facts_of begins unit [])
  no_config so_far alone = one_config (profile_of begins) _ _ _ _
      (base_ways.no_config begins unit so_far alone)
      (part_of_none (extended_facts.facts_of begins unit) (λ facts. facts.config)
      (extended_ways.of_own unit begins) (λ length before. refl) so_far alone)

  -- and no amount was told
  pub none_told : (so_far : List Act) → All IsBreak (own_acts (devices.Reader unit) so_far)
      → unvalued unit begins so_far ≡ 0
  none_told so_far alone =
      of_each (λ (u : List Act → ℕ). u so_far ≡ 0) (profile_of begins)
      (base_ways.none_told begins unit so_far alone)
      (part_of_none counted (λ known. known.1) counted_of_own
      (λ length before. ap (λ n. n + extended.unvalued unit begins before)
      (none_unvalued (extended_facts.facts_of begins unit before).config)
      ∙ zero-add (extended.unvalued unit begins before)) so_far alone)
