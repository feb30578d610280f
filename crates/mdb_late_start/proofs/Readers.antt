-- What a reader does in the course of a recording, it may do in the end of that by itself. A reader
-- that holds messages has told a list of them, as a recording begins and after each step.
use Rattle.mdb_late_start.proofs.Words.{Bool, common_steps, ◌≡◌, true, List, [], ◌∷◌, ap, sym, ◌∙◌, arith, ReaderCommand, ReaderUnit, Act, Beginning, PowerOn, Joined, Choice, Gains, holds_after, kept_of, StartsIn, last_list, ReaderState, parts_of, own, HasTold, before_messages, power_on, take, ◌++◌, refl, Setups, profile_of, MayJoinLate, HasToldByProfile, Profile, Machine, Device}
use Rattle.mdb_bus.specs.declared.act.Act.TheVariants as acts
use Rattle.mdb_msgs.specs.declared.command.Device.TheVariants as devices
use Rattle.mdb_bus.specs.declared.scope.Profile.TheVariants as profiles
use Rattle.mdb_cashless.specs.ExtendedAmounts as extended_amounts
use Rattle.mdb_cashless.specs.ExtendedFacts as extended_facts
use Rattle.mdb_cashless.specs.ExtendedReader as extended
use Rattle.mdb_cashless.specs.Reader as base
use Rattle.mdb_cashless.specs.Reader.{ReaderStep}
use Rattle.mdb_cashless.specs.ReaderFacts.{Facts, known_of, parts_by, KnownFacts}
use Rattle.mdb_late_start.proofs.Keepers.{held_acked, held_by_own, told_next, AlsoSteps, allowed_end, kept_end, recorded}
use Rattle.mdb_late_start.proofs.ReaderPrices.{said, known_config, same_prices, IsCounted, counted, known_in_end}
use Rattle.mdb_cashless.proofs.Guesses.{held_before as still_held}
use Rattle.mdb_cashless.specs.declared.by_profile.state.StateByProfile.{StateByProfile}
use Rattle.mdb_cashless.specs.declared.by_profile.state.StateByProfile.TheVariants.{Base, Extended}
use Rattle.mdb_cashless.specs.ReaderAmounts.{unvalued}
use Rattle.mdb_late_start.proofs.ExtendedMoves.{extended_in_end}
use Rattle.mdb_late_start.proofs.ReaderOtherwise.{goes_otherwise, otherwise}
use Rattle.mdb_cashless.specs.ByProfile.{base_state, by_profile, extended_state, machine_in}
use Rattle.mdb_cashless.specs.ByProfileFacts.{FactsByProfile, by_base, by_extended, config_of}

-- so it starts
pub starts_told : (begins : Beginning) (unit : ReaderUnit) (state : ReaderState)
    → StartsIn power_on begins state
    → HasTold state.holds (known_of begins unit []).past.last_kept
starts_told (PowerOn profile) unit state starts = λ held. absurd (cc (starts, held))
starts_told (Joined setups profile) unit state starts = λ held empty. absurd cc

abbrev holding : ReaderState → Bool
holding state = state.holds

-- what a reader holds after taking a command, it held before
take_holds : (facts : Facts) (before : ReaderState) (command : ReaderCommand)
    → (take facts command before).holds ≡ true → before.holds ≡ true
take_holds facts before command held = grind (arith, common_steps)

module _ (unit : ReaderUnit) (facts : Facts) (choice : Choice) (before after : ReaderState)
    (gains : Gains) where
  -- by an act that tells no kept messages it comes to hold none
  held_before : (act : Act) → ReaderStep unit facts act choice before after gains
      → kept_of (parts_by unit act) ≡ [] → after.holds ≡ true → before.holds ≡ true
  held_before (acts.Ask c) step empty =
      held_by_own holding (own unit c) _ (λ its is ask held. sym ask.holds ∙ held) step
  held_before (acts.Ack c) step empty = held_by_own holding (own unit c) _
      (λ its is ack held. take_holds facts before its (rw ack.to at held)) step
  held_before (acts.Reply c r) step empty =
      held_by_own holding (own unit c) _ (λ its is reply held.
      let none = rw (said unit c r its is) at empty in
      let between = before_messages facts its r choice before in
      still_held facts its r choice before
      (sym (reply.holds ∙ ap (λ kept. holds_after kept between.holds) none) ∙ held)) step
  held_before (acts.VmcAck c r) step empty =
      held_by_own holding (own unit c) _ (λ its is ack held.
      held_acked choice (kept_of (parts_of r)) before.holds (rw ack.to at held)) step
  held_before (acts.Break n) step empty = λ held. absurd (cc (step.0, held))
  held_before act step empty = λ held. rw step.0 at held

  -- so what is known after a step has the list that the reader holds
  pub goes_on_told : (begins : Beginning) (so_far : List Act) (act : Act)
      → HasTold before.holds (known_of begins unit so_far).past.last_kept
      → ReaderStep unit facts act choice before after gains
      → HasTold after.holds (known_of begins unit (act ∷ so_far)).past.last_kept
  goes_on_told begins so_far act told step =
      told_next begins (kept_of (parts_by unit act)) (last_list (parts_by unit) so_far) before.holds
      after.holds told (held_before act step)

-- by the base profile each step is one in the end, which gains the same where it has to
module _ (unit : ReaderUnit) (begins : Beginning) (setups : Setups) (later front : List Act) where
  abbrev joined : Beginning
  joined = Joined setups (profile_of begins)

  abbrev end : KnownFacts
  end = known_of joined unit later

  abbrev whole : KnownFacts
  whole = known_of begins unit (later ++ front)

  base_in_end : (act : Act) (choice : Choice) (before after : ReaderState) (gains : Gains)
      → HasTold before.holds whole.past.last_kept
      → base.StepKnowing unit whole act choice before after gains
      → AlsoSteps (base.StepKnowing unit end act choice before after)
      (IsCounted unit begins setups later front act (known_config unit begins front)
      (unvalued unit joined (act ∷ later))) gains
  base_in_end act choice before after gains told step =
      let knows = known_in_end unit begins setups later front in
      let facts = step.facts in
      let allowed = step.allowed in
      let other = goes_otherwise facts end before after gains unit choice
      (λ owed. allowed.past.reset_owed ∙ knows.owed owed) act step.step in
      record {
        other = other.other;
        step = record {
          facts = otherwise facts end;
          allowed = record {
            config = refl;
            asked = allowed_end end.asked whole.asked facts.asked knows.asked allowed.asked;
            taken = allowed_end end.taken whole.taken facts.taken knows.taken allowed.taken;
            amount = refl;
            past = record {
              reset_owed = refl;
              last_kept = kept_end end.past.last_kept whole.past.last_kept before.holds
                  facts.past.last_kept knows.kept told allowed.past.last_kept;
            };
          };
          step = other.step;
        };
        same = λ when. other.same (rw (same_prices allowed.config allowed.amount)
            (counted unit begins setups later front act when));
      }

-- ---- by either profile

-- the machine of a reader by a profile
abbrev MachineBy : ReaderUnit → Beginning → Profile → Machine StateByProfile
MachineBy unit begins profile = by_profile profile
    (machine_in base_state (Base base.power_on) (base.machine unit begins))
    (machine_in extended_state (Extended extended.power_on) (extended.machine unit begins))

module _ (unit : ReaderUnit) (begins : Beginning) where
  -- what is known of it
  abbrev FactsBy : Profile → List Act → FactsByProfile
  FactsBy profile so_far = by_profile profile (by_base (known_of begins unit so_far))
      (by_extended (extended_facts.facts_of begins unit so_far))

  starts_by : (profile : Profile) (state : StateByProfile)
      → (MachineBy unit begins profile).Starts state
      → HasToldByProfile (FactsBy profile []) state
  starts_by profiles.Base (Base state) starts = starts_told begins unit state starts
  starts_by profiles.Extended (Extended state) starts = tt
  starts_by profile state starts = absurd starts

  goes_on_by : (profile : Profile) (so_far : List Act) (act : Act) (choice : Choice)
      (before after : StateByProfile) (gains : Gains)
      → HasToldByProfile (FactsBy profile so_far) before
      → (MachineBy unit begins profile).Step so_far act choice before after gains
      → HasToldByProfile (FactsBy profile (act ∷ so_far)) after
  goes_on_by profiles.Base so_far act choice (Base before) (Base after) gains told step =
      goes_on_told unit step.facts choice before after gains begins so_far act told step.step
  goes_on_by profiles.Extended _ _ _ (Extended before) (Extended after) _ _ _ = tt
  goes_on_by profile so_far act choice before after gains told step = absurd assumption

  module _ (setups : Setups) where
    abbrev late : Beginning
    late = Joined setups (profile_of begins)

    anew_by : (profile : Profile) (so_far : List Act) (state : StateByProfile)
        → HasToldByProfile (FactsBy profile so_far) state
        → (MachineBy unit late profile).Starts state
    anew_by profiles.Base so_far (Base state) told = tt
    anew_by profiles.Extended so_far (Extended state) told = tt
    anew_by profile so_far state told = absurd told

    step_by : (profile : Profile) (later front : List Act) (act : Act) (choice : Choice)
        (before after : StateByProfile) (gains : Gains)
        → HasToldByProfile (FactsBy profile (later ++ front)) before
        → (MachineBy unit begins profile).Step (later ++ front) act choice before after gains
        → AlsoSteps ((MachineBy unit late profile).Step later act choice before after)
        (IsCounted unit begins setups later front act (config_of (FactsBy profile front))
        (by_profile profile (unvalued unit late) (extended_amounts.unvalued unit late)
        (act ∷ later))) gains
    step_by profiles.Base later front act choice (Base before) (Base after) gains told step =
        base_in_end unit begins setups later front act choice before after gains told step
    step_by profiles.Extended later front act choice (Extended before) (Extended after) gains told
        step =
        extended_in_end unit begins setups later front act choice before after gains step
    step_by profile later front act choice before after gains told step = absurd assumption

-- this answers the law
pub stays : (begins : Beginning) (setups : Setups) (unit : ReaderUnit)
    → MayJoinLate begins setups (devices.Reader unit)
stays begins setups unit =
    let profile = profile_of begins in
    record {
      starts = starts_by unit begins profile;
      starts_anew = anew_by unit begins setups profile;
      goes_on = goes_on_by unit begins profile;
      step = λ later front act choice before after gains names told step.
          recorded begins setups (devices.Reader unit) later front act choice before after gains
          (step_by unit begins setups profile later front act choice before after gains told step);
    }

-- what each device does, it may do in mid-session
pub each_stays :
    ((begins : Beginning) (setups : Setups) → MayJoinLate begins setups devices.Changer)
    → ((begins : Beginning) (setups : Setups) → MayJoinLate begins setups devices.Bill)
    → ((begins : Beginning) (setups : Setups) (unit : ReaderUnit)
    → MayJoinLate begins setups (devices.Reader unit))
    → (begins : Beginning) (setups : Setups) (device : Device)
    → MayJoinLate begins setups device
each_stays changer bill reader begins setups devices.Changer = changer begins setups
each_stays changer bill reader begins setups devices.Bill = bill begins setups
each_stays changer bill reader begins setups (devices.Reader unit) = reader begins setups unit
