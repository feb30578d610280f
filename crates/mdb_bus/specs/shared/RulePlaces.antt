-- The rules by their places in the order. This serves private functions.
use Rattle.std.specs.Prelude.{ℕ, ◌≤◌}
use Rattle.mdb_words.specs.declared.event.Event.{Event}
use Rattle.mdb_bus.specs.declared.fault.Rule.{Rule}
use Rattle.mdb_bus.specs.declared.fault.Rule.TheVariants as rule
use Rattle.mdb_bus.specs.LinkFaults.{RowBreaks, Situation}

-- a rule's place in the order
abbrev pub place_of : Rule → ℕ
place_of rule.Order = 1
place_of rule.Speaker = 2
place_of rule.Mode = 3
place_of rule.Early = 4
place_of rule.Late = 5
place_of rule.Spacing = 6
place_of rule.Length = 7
place_of rule.Sum = 8
place_of rule.Break = 9
place_of rule.Answer = 10
place_of rule.Message = 11
place_of rule.Same = 12
place_of rule.Profile = 13
place_of rule.Changer = 14
place_of rule.Bill = 15
place_of rule.Cashless = 16

-- a row breaks a rule, and none that has a place before it
pub record IsFirstByPlace (s : Situation) (row : Event) (broken : Rule) : Type 0 where
  pub breaks : RowBreaks s row broken
  pub first : (other : Rule) → RowBreaks s row other → place_of broken ≤ place_of other
