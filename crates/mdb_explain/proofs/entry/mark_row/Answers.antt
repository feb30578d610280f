-- A mark row is refused for its number, or for its third field.
use Rattle.mdb_explain.proofs.Words.{IsForMark, List, Mark, [], mark_letter, refl, ℕ, ◌∷◌}
use Rattle.mdb_explain.proofs.entry.mark_row.Goals as goal

abbrev own : (number value : List ℕ) (mark : Mark)
    → IsForMark (number ∷ (mark_letter mark ∷ []) ∷ value ∷ [])
own number value mark = record { number = number; mark = mark; value = value; are = refl }

pub returns-in_default : goal.returns-in_default
returns-in_default c =
    (own c.args.number.now c.args.value.now c.args.mark, c.in_default.ensures.none)

pub returns-else-is_dash : goal.returns-else-is_dash
returns-else-is_dash c = (
  own c.args.number.now c.args.value.now c.args.mark,
  c.in-Some.row,
  c.in-Some.ensures.some,
  λ same. absurd (cc (c.if-is_dash.ensures.1 same)),
)
