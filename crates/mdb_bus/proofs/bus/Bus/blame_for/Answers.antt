-- A word is blamed as its line is at this place, and a break on the controller.
use Rattle.mdb_bus.proofs.bus.Bus.blame_for.Goals as goal

pub returns-in-Word : goal.returns-in-Word
returns-in-Word c = rw c.in-Word.is (c.blame.ensures c.in-Word.at c.in-Word.word)
