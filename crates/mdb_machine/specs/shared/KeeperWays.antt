-- That acts of other devices tell nothing of a device that keeps messages, so that its facts and
-- steps depend on its own acts alone. This proves laws of the trait `Pair` and of machines.
use Rattle.std.specs.Prelude.{◌≡◌, ◌+◌, ℕ, sum_by, List, [], ◌∷◌, Option, Some, None, option_and_then, option_map, refl}
use Rattle.std.specs.List.{All}
use Rattle.std.specs.Option.{option_map_or}
use Rattle.std.proofs.Common.{arith, ap, subst, sym, ◌∙◌}
use Rattle.mdb_msgs.specs.declared.command.Device.{Device}
use Rattle.mdb_msgs.specs.declared.reply.Reply.{Reply}
use Rattle.mdb_bus.specs.declared.act.Act.{Act}
use Rattle.mdb_bus.specs.declared.act.Act.TheVariants as acts
use Rattle.mdb_machine.specs.declared.choice.Choice.{Choice}
use Rattle.mdb_machine.specs.declared.gains.Gains.{Gains}
use Rattle.mdb_machine.specs.declared.past.Effect.{Effect}
use Rattle.mdb_machine.specs.declared.past.Effect.TheVariants as effects
use Rattle.mdb_bus.specs.declared.scope.Beginning.{Beginning}
use Rattle.mdb_machine.specs.Keeper.{KnownFacts, Tables, asked_by, effect_of, known_of, parts_by, setup_by}
use Rattle.mdb_machine.specs.Known.{known_before, known_by}
use Rattle.mdb_machine.specs.KeeperConduct.{Conduct, StepKnowing}
use Rattle.mdb_machine.specs.KeeperValues.{enabled_after, known_with}
use Rattle.mdb_machine.specs.PastValues.{known_past_after}
use Rattle.mdb_machine.specs.KnownMore.{known_more}
use Rattle.mdb_machine.specs.Pair.{IsActOf, IsBreak, own_acts}
use Rattle.mdb_machine.specs.Past.{effect_taken, last_told, or_else, resets}
use Rattle.mdb_machine.specs.Kept.{kept_of}
use Rattle.mdb_machine.specs.Unvalued.{amounts_in, one_if, unvalued, unvalued_by}
use Rattle.mdb_machine.specs.shared.OwnWays.{IsOfOwn, part_of_none, same_known}
use Rattle.mdb_machine.specs.shared.PastWays.{answered_still, known_by_more, known_enabled_more, known_past_more}
use Rattle.mdb_machine.specs.shared.StepWays.{IsOwnOf}

-- what is known after one act more, by what it asks, what the device takes by it, and its reply
abbrev more : {Own Setup Asked M : Type 0} → Tables Own Setup Asked M → KnownFacts Setup Asked M
    → Option Asked → Effect → Option Reply → KnownFacts Setup Asked M
more tables known asked effect reply = record {
  setup = or_else (option_and_then tables.setup_of reply) known.setup;
  last_asked = known_more (option_map (λ a. Some a) asked) known.last_asked;
  profile = known.profile;
  enabled = enabled_after known.profile (resets effect) effect known.enabled;
  past = known_past_after (resets effect) (option_map_or tables.parts_of reply [])
      known.past;
}

-- an act of another device tells nothing
still : {Own Setup Asked M : Type 0} {device : Device} (tables : Tables Own Setup Asked M)
    → IsOwnOf device tables.own → (known : KnownFacts Setup Asked M) (act : Act)
    → (IsActOf device act → ⊥) → known ≡ known_with tables act known
still tables own known (acts.Ask c) other =
    ap (λ o. more tables known (option_and_then tables.asked_of o) effects.Other None)
    (sym (own c other))
still tables own known (acts.Ack c) other =
    ap (λ o. more tables known None (effect_taken tables.effect_of o) None) (sym (own c other))
still tables own known (acts.Reply c r) other =
    let none = ap (effect_taken tables.effect_of) (own c other) in
    let reply = option_map (λ own. r) (tables.own c) in
    sym (ap (λ e. more tables known None e reply) (answered_still (effect_of tables) c r none)
    ∙ ap (λ o. more tables known None effects.Other (option_map (λ own. r) o)) (own c other))
still tables own known (acts.Break n) other = absurd (other tt)
still tables own known act other = refl

-- what is known is the same where its fields are
pub same_fields : {Setup Asked M : Type 0} {one other : KnownFacts Setup Asked M}
    → one.setup ≡ other.setup → one.last_asked ≡ other.last_asked → one.profile ≡ other.profile
    → one.enabled ≡ other.enabled → one.past ≡ other.past → one ≡ other
same_fields {Setup} {Asked} {M} {one} {other} setup asked profile enabled past =
    let same : record one { setup = one.setup } ≡ record other { setup = other.setup } =
    cc (setup, asked, profile, enabled, past) in
    same

first_of_three : {X : Type 0} (first second third : Option X)
    → or_else first (or_else second third) ≡ or_else (or_else first second) third
first_of_three (Some x) second third = refl
first_of_three None second third = refl

asked_more : {Asked : Type 0} (first second : Option Asked)
    → or_else (option_map (λ (a : Asked). Some a) first) (option_map (λ (a : Asked). Some a) second)
    ≡ option_map (λ (a : Asked). Some a) (or_else first second)
asked_more (Some x) second = refl
asked_more None second = refl

-- what is known after one act more, from what was known before it
pub known_more_of : {Own Setup Asked M : Type 0} (tables : Tables Own Setup Asked M)
    (begins : Beginning) (act : Act) (acts : List Act)
    → known_with tables act (known_of tables begins acts) ≡ known_of tables begins (act ∷ acts)
known_more_of {Asked = Asked} tables begins act acts =
    same_fields (first_of_three (setup_by tables act) (last_told (setup_by tables) acts)
    (known_before tables.setup_known begins))
    (known_by_more begins None (option_map (λ (a : Asked). Some a) (asked_by tables act))
    (option_map (λ (a : Asked). Some a) (last_told (asked_by tables) acts))
    ∙ ap (λ o. known_by begins None o)
    (asked_more (asked_by tables act) (last_told (asked_by tables) acts)))
    refl (known_enabled_more begins (effect_of tables) act acts)
    (known_past_more begins (effect_of tables) (parts_by tables) act acts)

pub unmoved : {Own Setup Asked M : Type 0} {device : Device} (tables : Tables Own Setup Asked M)
    → IsOwnOf device tables.own → (begins : Beginning) (known : KnownFacts Setup Asked M)
    (before : List Act) (act : Act) → (IsActOf device act → ⊥)
    → known ≡ known_of tables begins before → known ≡ known_of tables begins (act ∷ before)
unmoved tables own begins known before act other is =
    is ∙ still tables own (known_of tables begins before) act other
    ∙ known_more_of tables begins act before

-- so what is known depends on the device's own acts alone
of_own : {Own Setup Asked M : Type 0} {device : Device} (tables : Tables Own Setup Asked M)
    → IsOwnOf device tables.own → (begins : Beginning) → IsOfOwn device (known_of tables begins)
of_own tables own begins = record {
  more = known_with tables;
  goes_on = known_more_of tables begins;
  still = λ act so_far other.
      unmoved tables own begins (known_of tables begins so_far) so_far act other refl;
}

pub same_facts : {Own Setup Asked M : Type 0} {device : Device} (tables : Tables Own Setup Asked M)
    → IsOwnOf device tables.own → (begins : Beginning) (so_far other : List Act)
    → own_acts device so_far ≡ own_acts device other
    → known_of tables begins so_far ≡ known_of tables begins other
same_facts tables own begins = same_known (known_of tables begins) (of_own tables own begins)

-- and so does what the device does after acts
pub own_steps : {Own Setup Asked M State : Type 0} {device : Device}
    (tables : Tables Own Setup Asked M) (conduct : Conduct Own Setup Asked M State)
    → IsOwnOf device tables.own → (begins : Beginning) (so_far other : List Act) (act : Act)
    (choice : Choice) (before after : State) (gains : Gains)
    → own_acts device so_far ≡ own_acts device other
    → StepKnowing tables conduct (known_of tables begins so_far) act choice before after gains
    → StepKnowing tables conduct (known_of tables begins other) act choice before after gains
own_steps tables conduct own begins so_far other act choice before after gains same step =
    subst (λ known. StepKnowing tables conduct known act choice before after gains)
    (same_facts tables own begins so_far other same) step

-- what is known with the amounts that have no value, which goes on act by act
abbrev pub counted : {Own Setup Asked M State : Type 0} → Tables Own Setup Asked M
    → Conduct Own Setup Asked M State → Beginning → List Act → KnownFacts Setup Asked M × ℕ
counted tables conduct begins acts =
    (known_of tables begins acts, unvalued tables conduct begins acts)

no_amount : {Own Setup Asked M State : Type 0} {device : Device} (tables : Tables Own Setup Asked M)
    (conduct : Conduct Own Setup Asked M State) → IsOwnOf device tables.own → (act : Act)
    → (IsActOf device act → ⊥) → amounts_in tables conduct act ≡ 0
no_amount tables conduct own (acts.Ask c) other =
    ap (λ o. option_map_or (λ a. one_if (conduct.asks_amount a)) o 0) (own c other)
no_amount tables conduct own (acts.Reply c r) other =
    ap (λ o. sum_by (λ message. one_if (conduct.tells_amount message))
    (kept_of (option_map_or tables.parts_of (option_map (λ a. r) o) []))) (own c other)
no_amount tables conduct own (acts.Break n) other = absurd (other tt)
no_amount tables conduct own act other = refl

none_unvalued : {Setup : Type 0} (setup : Option Setup) → unvalued_by setup 0 ≡ 0
none_unvalued None = refl
none_unvalued (Some setup) = refl

-- an act of another device tells no amount
pub untold : {Own Setup Asked M State : Type 0} {device : Device}
    (tables : Tables Own Setup Asked M) (conduct : Conduct Own Setup Asked M State)
    → IsOwnOf device tables.own → (begins : Beginning) (so_far : List Act) (act : Act)
    → (IsActOf device act → ⊥)
    → unvalued tables conduct begins (act ∷ so_far) ≡ unvalued tables conduct begins so_far
untold tables conduct own begins so_far act other =
    let setup = (known_of tables begins so_far).setup in
    let none : unvalued_by setup (amounts_in tables conduct act) ≡ 0 =
    ap (unvalued_by setup) (no_amount tables conduct own act other) ∙ none_unvalued setup in
    omega (arith, none)

counted_of_own : {Own Setup Asked M State : Type 0} {device : Device}
    (tables : Tables Own Setup Asked M) (conduct : Conduct Own Setup Asked M State)
    → IsOwnOf device tables.own → (begins : Beginning)
    → IsOfOwn device (counted tables conduct begins)
counted_of_own tables conduct own begins = record {
  more = λ act known. (
    known_with tables act known.0,
    unvalued_by known.0.setup (amounts_in tables conduct act) + known.1,
  );
  goes_on = λ act so_far. ap (λ k. (k, unvalued tables conduct begins (act ∷ so_far)))
      (known_more_of tables begins act so_far);
  still = λ act so_far other.
      ap (λ k. (k, unvalued tables conduct begins so_far))
      (unmoved tables own begins (known_of tables begins so_far) so_far act other refl)
      ∙ ap (λ n. (known_of tables begins (act ∷ so_far), n))
      (sym (untold tables conduct own begins so_far act other));
}

-- amounts without a value are of the device's own acts
pub same_unvalued : {Own Setup Asked M State : Type 0} {device : Device}
    (tables : Tables Own Setup Asked M) (conduct : Conduct Own Setup Asked M State)
    → IsOwnOf device tables.own → (begins : Beginning) (so_far other : List Act)
    → own_acts device so_far ≡ own_acts device other
    → unvalued tables conduct begins so_far ≡ unvalued tables conduct begins other
same_unvalued tables conduct own begins so_far other same =
    ap (λ known. known.1) (same_known (counted tables conduct begins)
    (counted_of_own tables conduct own begins) so_far other same)

-- after breaks alone the setup table is that of no act, and no amount was told
pub no_setup : {Own Setup Asked M : Type 0} {device : Device} (tables : Tables Own Setup Asked M)
    → IsOwnOf device tables.own → (begins : Beginning) (so_far : List Act)
    → All IsBreak (own_acts device so_far)
    → (known_of tables begins so_far).setup ≡ known_before tables.setup_known begins
no_setup tables own begins =
    part_of_none (known_of tables begins) (λ known. known.setup) (of_own tables own begins)
    (λ length so_far. refl)

pub none_told : {Own Setup Asked M State : Type 0} {device : Device}
    (tables : Tables Own Setup Asked M) (conduct : Conduct Own Setup Asked M State)
    → IsOwnOf device tables.own → (begins : Beginning) (so_far : List Act)
    → All IsBreak (own_acts device so_far) → unvalued tables conduct begins so_far ≡ 0
none_told tables conduct own begins =
    part_of_none (counted tables conduct begins) (λ known. known.1)
    (counted_of_own tables conduct own begins)
    (λ length so_far.
    let none = none_unvalued (known_of tables begins so_far).setup in
    omega (arith, none))
