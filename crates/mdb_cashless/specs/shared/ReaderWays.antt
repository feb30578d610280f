-- That acts of other devices change nothing and tell nothing, so that a reader's facts and steps
-- depend on its own acts alone. This proves laws of the trait `Pair` for the readers.
use Rattle.std.specs.Prelude.{◌≡◌, ◌↔◌, ℕ, ◌+◌, Bool, true, false, ◌&&◌, List, [], ◌∷◌, sum_by, Option, Some, None, option_map, refl, if◌then◌else◌}
use Rattle.std.specs.List.{All}
use Rattle.std.proofs.Common.{ap, subst, sym, ◌∙◌}
use Rattle.std.proofs.Math.Nat.{zero-add}
use Rattle.mdb_msgs.specs.declared.command.Command.{Command}
use Rattle.mdb_msgs.specs.declared.command.Command.TheVariants as commands
use Rattle.mdb_msgs.specs.declared.command.Device.TheVariants as devices
use Rattle.mdb_msgs.specs.declared.command.ReaderCommand.{ReaderCommand}
use Rattle.mdb_msgs.specs.declared.command.ReaderUnit.{ReaderUnit}
use Rattle.mdb_msgs.specs.declared.command.ReaderUnit.TheVariants.{First, Second}
use Rattle.mdb_msgs.specs.declared.reply.Reply.{Reply}
use Rattle.mdb_msgs.specs.declared.reply.reader.ReaderMsg.{ReaderMsg}
use Rattle.mdb_msgs.specs.declared.setups.ReaderConfig.{ReaderConfig}
use Rattle.mdb_msgs.specs.Setups.{config_known}
use Rattle.mdb_bus.specs.declared.act.Act.{Act}
use Rattle.mdb_bus.specs.declared.act.Act.TheVariants as acts
use Rattle.mdb_bus.specs.declared.scope.Beginning.{Beginning}
use Rattle.mdb_machine.specs.declared.choice.Choice.{Choice}
use Rattle.mdb_machine.specs.declared.choice.Choice.TheVariants.{Plain, Restart, Again}
use Rattle.mdb_machine.specs.declared.gains.Gains.{Gains}
use Rattle.mdb_machine.specs.Choices.{is_approval}
use Rattle.mdb_machine.specs.Gains.{no_gains}
use Rattle.mdb_machine.specs.Known.{known_before, known_by}
use Rattle.mdb_machine.specs.Pair.{IsActOf, IsBreak, IsMachineOf, own_acts}
use Rattle.mdb_machine.specs.Past.{last_told, or_else, powers_on, resets, taken_by, tells_out_of_sequence}
use Rattle.mdb_machine.specs.Unvalued as amounts
use Rattle.mdb_machine.specs.Unvalued.{one_if}
use Rattle.mdb_machine.specs.shared.OwnWays.{IsOfOwn, part_of_none, same_known}
use Rattle.mdb_machine.specs.shared.PastWays as past_ways
use Rattle.mdb_cashless.specs.declared.reader.state.ReaderState.{ReaderState}
use Rattle.mdb_cashless.specs.declared.reader.transaction.Transaction.{Transaction}
use Rattle.mdb_cashless.specs.inner.KnowingReader.{as_choice, some_facts, starts_in, stays}
use Rattle.mdb_cashless.specs.inner.PlainReader.{as_plain, restarts}
use Rattle.mdb_machine.specs.shared.StepWays as step_ways
use Rattle.mdb_machine.specs.shared.StepWays.{IsOwnOf}
use Rattle.mdb_cashless.specs.Reader.{ReaderStep, StepKnowing, machine, power_on}
use Rattle.mdb_cashless.specs.ReaderAmounts.{asks_sale, is_unpriced, unvalued, unvalued_by}
use Rattle.mdb_cashless.specs.ReaderFacts.{Facts, KnownFacts, asked_by, config_by, effect_of, effect_of_own, known_of, messages_by, own_of, own_transaction, parts_by, taken_told}
use Rattle.mdb_cashless.specs.ReaderMessages.{config_in, last_said, messages_of}
use Rattle.mdb_cashless.specs.ReaderValues.{known_with}
use Rattle.mdb_cashless.specs.Units.{own}

-- a command to another device is none to this reader
pub no_own : (unit : ReaderUnit) → IsOwnOf (devices.Reader unit) (own unit)
no_own First (commands.Changer c) other = refl
no_own First (commands.Bill c) other = refl
no_own First (commands.Reader First c) other = absurd (other refl)
no_own First (commands.Reader Second c) other = refl
no_own Second (commands.Changer c) other = refl
no_own Second (commands.Bill c) other = refl
no_own Second (commands.Reader First c) other = refl
no_own Second (commands.Reader Second c) other = absurd (other refl)

-- and changes nothing
pub elsewhere : (unit : ReaderUnit) (facts : Facts) (act : Act) (choice : Choice)
    (before after : ReaderState) (gains : Gains)
    → (IsActOf (devices.Reader unit) act → ⊥)
    → ReaderStep unit facts act choice before after gains
    ↔ (after ≡ before) × (gains ≡ no_gains)
elsewhere unit facts = step_ways.elsewhere (own unit) _ (no_own unit)

-- an act that is nothing to the reader leaves what is known
still_known : (unit : ReaderUnit) (act : Act) (known : KnownFacts) → messages_by unit act ≡ []
    → asked_by unit act ≡ None → own_of unit (taken_by act) ≡ None
    → powers_on (effect_of unit) act ≡ false → known ≡ known_with unit act known
still_known unit act known messages asked taken powers = rw (messages, asked, taken, powers) refl

-- the reader takes no command to another device, whatever the answer tells
answered_none : (unit : ReaderUnit) (command : Command) (reply : Reply) → own unit command ≡ None
    → own_of unit (taken_by (acts.Reply command reply)) ≡ None
answered_none unit command reply none = either (tells_out_of_sequence reply)
  where
    either : (refused : Bool) → own_of unit (if refused then None else Some command) ≡ None
    either true = refl
    either false = none

known_still : (unit : ReaderUnit) (known : KnownFacts) (act : Act)
    → (IsActOf (devices.Reader unit) act → ⊥) → known ≡ known_with unit act known
known_still unit known (acts.Ask c) other =
    still_known unit (acts.Ask c) known refl (ap own_transaction (no_own unit c other)) refl refl
known_still unit known (acts.Ack c) other =
    let none = no_own unit c other in
    still_known unit (acts.Ack c) known refl refl none (ap (λ o. resets (effect_of_own o)) none)
known_still unit known (acts.Reply c r) other =
    let none = no_own unit c other in
    let effect = past_ways.answered_still (effect_of unit) c r (ap effect_of_own none) in
    still_known unit (acts.Reply c r) known
    (ap (λ found. elim found [ Some c ↦ messages_of r | None ↦ [] ]) none) refl
    (answered_none unit c r none) (ap resets effect)
known_still unit known (acts.Break n) other = absurd (other tt)
known_still unit known act other = still_known unit act known refl refl refl refl

-- what is known is the same where its fields are
pub same_fields : {one other : KnownFacts} → one.config ≡ other.config → one.asked ≡ other.asked
    → one.taken ≡ other.taken → one.amount ≡ other.amount → one.past ≡ other.past → one ≡ other
same_fields {one} {other} config asked taken amount past =
    let same : record one { config = one.config } ≡ record other { config = other.config } =
    cc (config, asked, taken, amount, past) in
    same

pub first_of_three : {X : Type 0} (first second third : Option X)
    → or_else first (or_else second third) ≡ or_else (or_else first second) third
first_of_three (Some x) second third = refl
first_of_three None second third = refl

asked_more : (first second : Option Transaction)
    → or_else (option_map (λ (t : Transaction). Some t) first)
    (option_map (λ (t : Transaction). Some t) second)
    ≡ option_map (λ (t : Transaction). Some t) (or_else first second)
asked_more (Some x) second = refl
asked_more None second = refl

-- what is known after one act more, from what was known before it
pub goes_on : (unit : ReaderUnit) (begins : Beginning) (act : Act) (so_far : List Act)
    → known_with unit act (known_of begins unit so_far) ≡ known_of begins unit (act ∷ so_far)
goes_on unit begins act so_far = same_fields
    (first_of_three (config_by unit act) (last_told (config_by unit) so_far)
    (known_before (λ setups. config_known setups unit) begins))
    (past_ways.known_by_more begins None
    (option_map (λ (t : Transaction). Some t) (asked_by unit act))
    (option_map (λ (t : Transaction). Some t) (last_told (asked_by unit) so_far))
    ∙ ap (λ o. known_by begins None o)
    (asked_more (asked_by unit act) (last_told (asked_by unit) so_far)))
    (past_ways.known_by_more begins None (taken_told unit act) (last_told (taken_told unit) so_far))
    refl
    (past_ways.known_past_more begins (effect_of unit) (parts_by unit) act so_far)

pub unmoved : (unit : ReaderUnit) (begins : Beginning) (known : KnownFacts) (before : List Act)
    (act : Act) → (IsActOf (devices.Reader unit) act → ⊥) → known ≡ known_of begins unit before
    → known ≡ known_of begins unit (act ∷ before)
unmoved unit begins known before act other is =
    is ∙ known_still unit (known_of begins unit before) act other
    ∙ goes_on unit begins act before

-- so what is known depends on the reader's own acts alone
of_own : (unit : ReaderUnit) (begins : Beginning)
    → IsOfOwn (devices.Reader unit) (known_of begins unit)
of_own unit begins = record {
  more = known_with unit;
  goes_on = goes_on unit begins;
  still = λ act so_far other.
      unmoved unit begins (known_of begins unit so_far) so_far act other refl;
}

pub same_facts : (begins : Beginning) (unit : ReaderUnit) (so_far other : List Act)
    → own_acts (devices.Reader unit) so_far ≡ own_acts (devices.Reader unit) other
    → known_of begins unit so_far ≡ known_of begins unit other
same_facts begins unit = same_known (known_of begins unit) (of_own unit begins)

-- an act of another device tells no amount
pub none_unvalued : (config : Option ReaderConfig) → amounts.unvalued_by config 0 ≡ 0
none_unvalued None = refl
none_unvalued (Some config) = refl

no_amount : (unit : ReaderUnit) (known : KnownFacts) (act : Act)
    → (IsActOf (devices.Reader unit) act → ⊥) → unvalued_by unit known act ≡ 0
no_amount unit known (acts.Ask c) other =
    ap (λ o. one_if (asks_sale o && is_unpriced known)) (no_own unit c other)
no_amount unit known (acts.Reply c r) other =
    ap (λ (o : Option ReaderCommand).
    let messages : List ReaderMsg = elim o [ Some c ↦ messages_of r | None ↦ [] ] in
    amounts.unvalued_by (or_else (last_said config_in messages) known.config)
    (sum_by (λ message. one_if (is_approval message)) messages)) (no_own unit c other)
    ∙ none_unvalued known.config
no_amount unit known (acts.Break n) other = absurd (other tt)
no_amount unit known act other = none_unvalued known.config

pub untold : (unit : ReaderUnit) (begins : Beginning) (so_far : List Act) (act : Act)
    → (IsActOf (devices.Reader unit) act → ⊥)
    → unvalued unit begins (act ∷ so_far) ≡ unvalued unit begins so_far
untold unit begins so_far act other =
    ap (λ n. n + unvalued unit begins so_far)
    (no_amount unit (known_of begins unit so_far) act other)
    ∙ zero-add (unvalued unit begins so_far)

-- so the amounts without a value are of the reader's own acts
abbrev counted : ReaderUnit → Beginning → List Act → KnownFacts × ℕ
counted unit begins so_far = (known_of begins unit so_far, unvalued unit begins so_far)

counted_of_own : (unit : ReaderUnit) (begins : Beginning)
    → IsOfOwn (devices.Reader unit) (counted unit begins)
counted_of_own unit begins = record {
  more = λ act known. (known_with unit act known.0, unvalued_by unit known.0 act + known.1);
  goes_on = λ act so_far. ap (λ k. (k, unvalued unit begins (act ∷ so_far)))
      (goes_on unit begins act so_far);
  still = λ act so_far other.
      ap (λ k. (k, unvalued unit begins so_far))
      (unmoved unit begins (known_of begins unit so_far) so_far act other refl)
      ∙ ap (λ n. (known_of begins unit (act ∷ so_far), n))
      (sym (untold unit begins so_far act other));
}

pub same_unvalued : (begins : Beginning) (unit : ReaderUnit) (so_far other : List Act)
    → own_acts (devices.Reader unit) so_far ≡ own_acts (devices.Reader unit) other
    → unvalued unit begins so_far ≡ unvalued unit begins other
same_unvalued begins unit so_far other same =
    ap (λ (known : KnownFacts × ℕ). known.1)
    (same_known (counted unit begins) (counted_of_own unit begins) so_far other same)

-- after breaks alone the config message is that of no act, and no amount was told
pub no_config : (begins : Beginning) (unit : ReaderUnit) (so_far : List Act)
    → All IsBreak (own_acts (devices.Reader unit) so_far)
    → (known_of begins unit so_far).config ≡ (known_of begins unit []).config
no_config begins unit =
    part_of_none (known_of begins unit) (λ known. known.config) (of_own unit begins)
    (λ length so_far. refl)

pub none_told : (begins : Beginning) (unit : ReaderUnit) (so_far : List Act)
    → All IsBreak (own_acts (devices.Reader unit) so_far) → unvalued unit begins so_far ≡ 0
none_told begins unit =
    part_of_none (counted unit begins) (λ known. known.1) (counted_of_own unit begins)
    (λ length so_far. ap (λ n. n + unvalued unit begins so_far)
    (none_unvalued (known_of begins unit so_far).config) ∙ zero-add (unvalued unit begins so_far))

-- the machine is one of the device
pub is_machine : (unit : ReaderUnit) (begins : Beginning)
    → IsMachineOf (devices.Reader unit) (machine unit begins)
is_machine unit begins = record {
  elsewhere = λ so_far act choice before after gains other.
      stays unit (known_of begins unit so_far) act choice before after gains
      (λ facts. elsewhere unit facts act choice before after gains other);
  own = λ so_far other act choice before after gains same step.
      subst (λ known. StepKnowing unit known act choice before after gains)
      (same_facts begins unit so_far other same) step;
  breaks = λ so_far length choice before.
      let some = some_facts (known_of begins unit so_far) before.holds in
      (power_on, no_gains, record { facts = some.0; allowed = some.1; step = (refl, refl) });
  starts_over = λ so_far length choice before after gains step.
      (starts_in begins after step.step.0, step.step.1);
  as_plain = λ so_far act choice before after gains barred.
      as_choice unit (known_of begins unit so_far) act choice Plain before after gains
      (λ facts. as_plain unit facts act choice before after gains barred);
  restarts = λ so_far act before after gains approving.
      as_choice unit (known_of begins unit so_far) act Restart Again before after gains
      (λ facts. restarts unit facts act before after gains approving);
}

pub some_start : (unit : ReaderUnit) (begins : Beginning)
    → (state : ReaderState) × (machine unit begins).Starts state
some_start unit begins = (power_on, starts_in begins power_on refl)
