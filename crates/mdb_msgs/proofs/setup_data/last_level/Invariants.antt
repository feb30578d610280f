-- The last level reported is in the rest, or else it is the last one seen.
use Rattle.mdb_msgs.proofs.Words.{◌≡◌, last_level, option_or}
use Rattle.mdb_msgs.proofs.setup_data.last_level.Given as goal

-- what the messages that are left say goes before what was said
abbrev pub invariant-loop-message : goal.invariant-loop-message
invariant-loop-message l =
    record {
      next : (goal.iterator-loop-message).can_next l.message-iterator;
      finite : (goal.iterator-loop-message).is_finite l.message-iterator;
      said : option_or (last_level l.message-iterator) l.last ≡ last_level l.fn.list.messages;
    }
