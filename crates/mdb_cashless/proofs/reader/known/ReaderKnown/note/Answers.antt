-- An act changes a reader's facts, and what is known of them, as it tells.
use Rattle.mdb_cashless.proofs.Words.{◌∙◌, ap, told_in, told_with}
use Rattle.mdb_cashless.proofs.KnownAfter.{known_after}
use Rattle.mdb_cashless.proofs.reader.known.ReaderKnown.note.Goals as goal

pub returns : goal.returns
returns c =
    known_after c.args.unit c.args.act.now c.args.self.now (record {
      facts = c.note.new.self;
      knows_asked = c.note_known.new.self.knows_asked;
      knows_taken = c.note_known.new.self.knows_taken;
      knows_kept = c.note_known.new.self.knows_kept;
    }) c.note_known.ensures.asked c.note_known.ensures.taken c.note_known.ensures.kept
    (c.note.ensures
    ∙ ap (λ f. told_with c.args.unit c.args.act.now (told_in f)) c.note_known.ensures.facts)
