-- What new messages of the validator leave in escrow, for the functions of its code.
use Rattle.mdb_cash.proofs.Words.{◌≡◌, ◌∙◌, ◌↔◌, ℕ, true, List, [], ◌∷◌, Some, refl, ap, sym, BillActivity, BillType, Escrow, MayReturn, MayStack, MovesBill, MovesBills, StacksBill, same_type}
use Rattle.mdb_cash.specs.declared.bill.activity.BillActivity.TheVariants as activity
use Rattle.mdb_cash.specs.declared.bill.state.Escrow.TheVariants.{Empty, Waiting}
use Rattle.mdb_cash.specs.BillFacts.{Facts}
use Rattle.mdb_machine.specs.Pair.{IsOnly}

-- a message that can be new
pub stacks : (facts : Facts) {escrow : Escrow} (bill : BillType) {number : ℕ}
    → bill.number ≡ number → facts.enabled number ≡ true → MayStack bill escrow
    → IsOnly (StacksBill facts number escrow) (Some Empty)
stacks facts bill same enabled may = ((bill, same, enabled, may, refl), λ x takes. takes.4)

pub puts : (facts : Facts) {message : BillActivity} {escrow : Escrow} (bill : BillType) {number : ℕ}
    → message ≡ activity.Escrow number → bill.number ≡ number
    → facts.enabled number ≡ true → escrow ≡ Empty
    → IsOnly (MovesBill facts message escrow) (Some (Waiting bill))
puts facts bill is same enabled may =
    rw is (
      (bill, same, enabled, may, refl),
      λ x takes. takes.4 ∙ ap Waiting (same_type takes.0 bill (takes.1 ∙ sym same)),
    )

pub returns : (facts : Facts) {message : BillActivity} {escrow : Escrow} (bill : BillType)
    {number : ℕ} → message ≡ activity.Returned number → bill.number ≡ number
    → MayReturn bill escrow → IsOnly (MovesBill facts message escrow) (Some Empty)
returns facts bill is same may = rw is ((bill, same, may, refl), λ x takes. takes.3)

-- and one that can't
pub stacks_not : (facts : Facts) {escrow : Escrow} (bill : BillType) {number : ℕ}
    → bill.number ≡ number → (facts.enabled number ≡ true → MayStack bill escrow → ⊥)
    → (x : Escrow) → StacksBill facts number escrow x → ⊥
stacks_not facts bill same denied x takes =
    denied takes.2 (rw (same_type takes.0 bill (takes.1 ∙ sym same)) at takes.3)

pub returns_not : (facts : Facts) {message : BillActivity} {escrow : Escrow} (bill : BillType)
    {number : ℕ} → message ≡ activity.Returned number → bill.number ≡ number
    → (MayReturn bill escrow → ⊥) → (x : Escrow) → MovesBill facts message escrow x → ⊥
returns_not facts bill is same denied =
    rw is (λ x takes. denied (rw (same_type takes.0 bill (takes.1 ∙ sym same)) at takes.2))

-- what messages leave in escrow is what the rest of them leaves after those that are done
pub record Leaves (facts : Facts) (all rest : List BillActivity) (from now : Escrow) : Type 0 where
  pub as_rest : (to : Escrow) → MovesBills facts all from to ↔ MovesBills facts rest now to

module _ {facts : Facts} {all rest : List BillActivity} {from now : Escrow} where
  pub leaves_more : {tail : List BillActivity} {next : Escrow} {message : BillActivity}
      → rest ≡ message ∷ tail → IsOnly (MovesBill facts message now) (Some next)
      → Leaves facts all rest from now → Leaves facts all tail from next
  leaves_more is only leaves = record {
    as_rest = λ to. (
      λ takes.
          let more = rw is at ((leaves.as_rest to).0 takes) in
          rw (only.1 more.0 more.1) at more.2,
      λ takes. (leaves.as_rest to).1 (rw is (_, only.0, takes)),
    );
  }

  pub leaves_none : {tail : List BillActivity} {message : BillActivity} → rest ≡ message ∷ tail
      → ((x : Escrow) → MovesBill facts message now x → ⊥)
      → Leaves facts all rest from now → (to : Escrow) → MovesBills facts all from to → ⊥
  leaves_none is none leaves to takes =
      let more = rw is at ((leaves.as_rest to).0 takes) in none more.0 more.1

  pub leaves_all : rest ≡ [] → Leaves facts all rest from now
      → IsOnly (MovesBills facts all from) (Some now)
  leaves_all is leaves =
      ((leaves.as_rest now).1 (rw is refl), λ to takes. rw is at ((leaves.as_rest to).0 takes))
