-- A letter that is neither a line's nor a break's is refused.
use Rattle.mdb_words.proofs.Rows.{refuses_letter}
use Rattle.mdb_words.proofs.event.Event.read_at.Goals as goal

pub returns-else-is_break : goal.returns-else-is_break
returns-else-is_break c =
    refuses_letter c.args.letter.now c.args.value.now c.args.at c.in_default.ensures.none
    (λ is. let never = c.if-is_break.ensures.1 is in cc)
