-- No message so far is a reset or kept, so the rest decides both questions.
use Rattle.mdb_run_search.proofs.Words.{◌≡◌, map, has_reset, keeps_early}
use Rattle.mdb_cashless.specs.ReaderMessages as reader
use Rattle.mdb_run_search.proofs.mark.reader_may_tell_of_restart.Given as goal

abbrev pub invariant-loop-message : goal.invariant-loop-message
invariant-loop-message l =
    record {
      next : (goal.iterator-loop-message).can_next l.message-iterator;
      finite : (goal.iterator-loop-message).is_finite l.message-iterator;
      reset : has_reset (reader.parts_of l.reply)
          ≡ has_reset (map reader.part_of l.message-iterator);
      early : keeps_early (reader.parts_of l.reply)
          ≡ keeps_early (map reader.part_of l.message-iterator);
    }
