-- The first broken rule by its place is the first by the order.
use Rattle.mdb_bus.proofs.Words.{[], All-from_recursion, AllByRecursion, arith, drop, Event, IsFirstBroken, IsFirstByPlace, List, order, place_of, refl, RowBreaks, Rule, Situation, suc, take, zero, ℕ, ◌++◌, ◌+◌, ◌-◌, ◌∷◌, ◌≡◌, ◌≤◌}
use Rattle.mdb_bus.specs.declared.fault.Rule.TheVariants as rule

-- rules that stand one after the other from a place on
abbrev StandFrom : ℕ → List Rule → Type 0
StandFrom place [] = Unit {0}
StandFrom place (r ∷ rules) = (place_of r ≡ place) × StandFrom (place + 1) rules

-- so many of them are kept, where those that are broken have no place below a bound
kept : (Breaks : Rule → Type 0) (bound : ℕ)
    → ((other : Rule) → Breaks other → bound ≤ place_of other) → (count place : ℕ)
    (rules : List Rule) → place + count ≤ bound → StandFrom place rules
    → AllByRecursion (λ r. Breaks r → ⊥) (take count rules)
kept Breaks bound first zero place rules few stand = tt
kept Breaks bound first (suc count) place [] few stand = tt
kept Breaks bound first (suc count) place (r ∷ rules) few stand = (
  λ breaks. omega (arith, few, stand.0, first r breaks),
  kept Breaks bound first count (place + 1) rules (omega (arith, few)) stand.1,
)

-- each rule stands at its place
at_place : (r : Rule) → order ≡ take (place_of r - 1) order ++ r ∷ drop (place_of r) order
at_place rule.Order = refl
at_place r = refl

some_place : (r : Rule) → 1 ≤ place_of r
some_place rule.Order = omega arith
some_place r = omega arith

pub by_place : (s : Situation) (row : Event) (broken : Rule) → IsFirstByPlace s row broken
    → IsFirstBroken s row broken
by_place s row broken first = record {
  before = take (place_of broken - 1) order;
  after = drop (place_of broken) order;
  stands = at_place broken;
  breaks = first.breaks;
  keeps = All-from_recursion _ (take (place_of broken - 1) order)
      (kept (RowBreaks s row) (place_of broken) first.first (place_of broken - 1) 1 order
      (omega (arith, some_place broken)) (omega arith));
}
