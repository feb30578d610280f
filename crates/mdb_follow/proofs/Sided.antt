-- Sides go on by an act: the side of one device, those of all, and those that have no part in it.
use Rattle.mdb_follow.proofs.Words.{◌≡◌, inl, inr, ◌+◌, ◌^◌, ◌<◌, ◌∙◌, ℕ, List, Option, ap, arith, get_or, refl, sym, Ok, Err, Result, ◌∷◌, ∥∥₁_elim, IfErr, IfOk, OnErr, Device, First, Second, Act, Rule, Beginning, Plain, IsActOf, IsBreak, DEVICES, Sides, reported_of, machine_of, HasNoStep, rule_of, decimals_of, unvalued_of, SideOf, side_in, stands_for, AreStanding, AreWithin, FollowsOf, IsWithin, OneFollows, SidesFollow, SidesStay, SidesStop, Stops, FactsOf, IsSideOf, code_of, side_spec_of}
use Rattle.mdb_msgs.specs.declared.command.Device.TheVariants as devices
use Rattle.mdb_bus.specs.declared.act.Act.TheVariants as told
use Rattle.mdb_cash.specs.BillValues as bill_values
use Rattle.mdb_cash.specs.ChangerValues as changer_values
use Rattle.mdb_cash.specs.shared.BillWays as bill_ways
use Rattle.mdb_cash.specs.shared.ChangerWays as changer_ways
use Rattle.mdb_cashless.specs.ByProfileValues as reader_values
use Rattle.mdb_cashless.specs.shared.ByProfileWays as reader_ways
use Rattle.mdb_follow.proofs.ByDevice.{Front, front-next, same_or_not}
use Rattle.mdb_follow.proofs.Machines.{is_machine_of}
use Rattle.mdb_follow.proofs.Ways.{table-same}
use Rattle.mdb_follow.proofs.Limits.{side-within-weaker}

-- an act in which a device has no part leaves its facts
pub unmoved : (begins : Beginning) (device : Device) (facts : FactsOf device) (acts : List Act)
    (act : Act) → (IsActOf device act → ⊥) → stands_for begins device facts acts
    → stands_for begins device facts (act ∷ acts)
unmoved begins devices.Changer facts = changer_ways.unmoved begins (changer_values.known_in facts)
unmoved begins devices.Bill facts = bill_ways.unmoved begins (bill_values.known_in facts)
unmoved begins (devices.Reader unit) facts =
    reader_ways.unmoved unit begins (reader_values.known_in facts)

-- and tells no amount of it
pub untold : (begins : Beginning) (device : Device) (acts : List Act) (act : Act)
    → (IsActOf device act → ⊥)
    → unvalued_of begins device (act ∷ acts) ≡ unvalued_of begins device acts
untold begins devices.Changer = changer_ways.untold begins
untold begins devices.Bill = bill_ways.untold begins
untold begins (devices.Reader unit) = reader_ways.untold unit begins

-- and its side
still : (device : Device) (side : SideOf device) (act : Act) → (IsActOf device act → ⊥)
    → FollowsOf act device side side
still device side act other = record {
  stands = λ begins acts on. record {
    facts = unmoved begins device side.facts acts act other on.facts;
    table = table-same (code_of device) (machine_of begins device) act acts side.table
        (λ acts choice before after gains.
        (is_machine_of begins device).elsewhere acts act choice before after gains other) on.table;
    counted = on.counted ∙ sym (untold begins device acts act other);
  };
  within = λ limit. side-within-weaker limit (limit + 2 ^ 32) side (omega arith);
}

-- sides with one in place of a device's
abbrev pub with_side : (device : Device) → SideOf device → Sides → Sides
with_side devices.Changer side sides = record sides { changer = side }
with_side devices.Bill side sides = record sides { bill = side }
with_side (devices.Reader First) side sides = record sides { first_reader = side }
with_side (devices.Reader Second) side sides = record sides { second_reader = side }

its : (device : Device) (side : SideOf device) (sides : Sides)
    → side_in (with_side device side sides) device ≡ side
its (devices.Reader First) side sides = refl
its device side sides = refl

others : (device : Device) (side : SideOf device) (sides : Sides) (other : Device)
    → (other ≡ device → ⊥) → side_in (with_side device side sides) other ≡ side_in sides other
others devices.Changer side sides devices.Changer not = absurd (not refl)
others devices.Bill side sides devices.Bill not = absurd (not refl)
others (devices.Reader First) side sides (devices.Reader First) not = absurd (not refl)
others (devices.Reader Second) side sides (devices.Reader Second) not = absurd (not refl)
others _ side sides _ not = refl

-- its own side in its place changes nothing
same-side : (device : Device) (sides : Sides)
    → with_side device (side_in sides device) sides ≡ sides
same-side (devices.Reader First) sides = refl
same-side device sides = refl

-- The side of the device that an arm is of goes on, or it has no step and is what it was.
pub one-led : {T : Type 0} (r : Result T Rule) (device which : Device) (sides : Sides)
    (side : SideOf which) (act : Act) → device ≡ which
    → IfOk r (λ _. FollowsOf act which (side_in sides which) side)
    → OnErr r ((begins : Beginning) (acts : List Act)
    → IsSideOf begins which (side_in sides which) acts
    → HasNoStep (machine_of begins which) act acts)
    → IfErr r (λ broken. broken ≡ rule_of which) → OnErr r (side ≡ side_in sides which)
    → record {
      followed : IfOk r (λ _. OneFollows device sides act (with_side which side sides));
      stopped : IfErr r (Stops device sides act);
      same : OnErr r (with_side which side sides ≡ sides);
    }
one-led (Ok x) device which sides side act is goes none rule same =
    let on : OneFollows which sides act (with_side which side sides) =
    record { own = rw its goes; others = others which side sides } in
    rw is (record { followed = on; stopped = tt; same = tt })
one-led (Err broken) device which sides side act is goes none rule same =
    let stops : Stops which sides act broken = record { rule = rule; none = none } in
    rw is (record { followed = tt; stopped = stops; same = rw same (same-side which sides) })

-- By a break each side has a step.
pub break-stops-none : (sides : Sides) (act : Act) (broken : Rule) → IsBreak act
    → SidesStop sides act broken → AreStanding sides → ⊥
break-stops-none sides (told.Break length) broken is stops on =
    let side = on.stand stops.0 in
    let some = side.table.some in
    let step = (is_machine_of on.begins stops.0).breaks on.acts length Plain some.0 in
    stops.1.none on.begins on.acts side some.0 some.1 some.2 Plain tt step.0 step.1 step.2
break-stops-none sides act broken is stops on = absurd is

-- All go on by an act that is of no other device than one that goes on.
pub all-follow : (device : Device) (old new : Sides) (act : Act)
    → ((other : Device) → IsActOf other act → other ≡ device)
    → OneFollows device old act new → SidesFollow old act new
all-follow device old new act only follows other =
    elim (same_or_not other device) [
      | inl same ↦ rw same follows.own
      | inr apart ↦ rw (follows.others other apart)
          (still other (side_in old other) act (λ of. apart (only other of)))
    ]

-- All stay where the act is no device's.
pub none-follows : (sides : Sides) (act : Act) → ((other : Device) → IsActOf other act → ⊥)
    → SidesFollow sides act sides
none-follows sides act none device = still device (side_in sides device) act (none device)

-- the devices before a place have followed
abbrev pub FrontFollows : ℕ → Sides → Act → Sides → Type 0
FrontFollows count old act new = Front SideOf (FollowsOf act) count (side_in old) (side_in new)

-- the next side is what it was
module _ (count : ℕ) (old : Sides) (act : Act) (mid : Sides) (d : Device) (within : count < 4)
    (front : FrontFollows count old act mid) where
  next : side_in mid (get_or DEVICES count d) ≡ side_in old (get_or DEVICES count d)
  next = front-next SideOf (FollowsOf act) count (side_in old) (side_in mid) d within front

  -- it has no step where it had none before
  pub front-stops : (broken : Rule) → Stops (get_or DEVICES count d) mid act broken
      → SidesStop old act broken
  front-stops broken stops =
      (get_or DEVICES count d, record { rule = stops.rule; none = rw next at stops.none })

  -- and is as far from 0 as it was
  pub front-fits : (limit : ℕ) → AreWithin limit old → IsWithin (get_or DEVICES count d) limit mid
  front-fits limit on = rw next (on (get_or DEVICES count d))

-- the decimal places that the facts of a device have
abbrev pub decimals_in : (device : Device) → FactsOf device → Option ℕ
decimals_in device facts = (reported_of device).decimals ((side_spec_of device).known_in facts)

pub decimals-are : (begins : Beginning) (device : Device) (facts : FactsOf device) (acts : List Act)
    → stands_for begins device facts acts
    → decimals_in device facts ≡ decimals_of begins device acts
decimals-are begins device facts acts on = ap (reported_of device).decimals on

-- what holds of sides that stand for acts holds of what they are then
pub by-stay : (P : Sides → Type 0) (old new : Sides) → ∥ AreStanding old ∥₁ → SidesStay old new
    → P old → P new
by-stay P old new standing (inl same) holds = rw same holds
by-stay P old new standing (inr none) holds =
    absurd (∥∥₁_elim standing (λ one other. absurd one) none)
