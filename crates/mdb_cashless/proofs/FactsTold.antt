-- What acts tell of the facts of a reader, for the function that keeps them.
use Rattle.mdb_cashless.proofs.Words.{◌≡◌, ◌∙◌, ◌||◌, Bool, true, false, List, Option, Some, None, refl, sym, map, if◌then◌else◌, Command, ReaderCommand, ReaderUnit, Reply, ReaderMsg, effect_taken, or_else, resets, tells_out_of_sequence, past_after, Transaction, amount_in, begin_session, config_in, last_said, messages_of, part_of, ToldFacts, told_with, transaction_of, own, effect_of, effect_of_own, own_messages, own_of, own_transaction, last_after, Act, ap}
use Rattle.mdb_cashless.specs.ReaderValues.{taken, told}

-- the facts after a reply, where it is known whether it refuses its command
abbrev answered : ReaderUnit → Command → Bool → List ReaderMsg → ToldFacts → ToldFacts
answered unit command refused messages old =
    record {
      config = or_else (last_said config_in (own_messages unit command messages)) old.config;
      asked = old.asked;
      taken =
          if resets (effect_taken (effect_of unit) (if refused then None else Some command))
          || begin_session (own_messages unit command messages)
          then None
          else or_else (own_transaction (own_of unit (if refused then None else Some command)))
          old.taken;
      amount = or_else (last_said amount_in (own_messages unit command messages)) old.amount;
      past =
          past_after
          (resets (effect_taken (effect_of unit) (if refused then None else Some command)))
          (map part_of (own_messages unit command messages)) old.past;
    }

-- the last transaction after a command that is taken by an answer
last_is : (command : ReaderCommand) (begins : Bool) (last : Option Transaction)
    → (if resets (effect_of_own (Some command)) || begins then None
    else or_else (transaction_of command) last)
    ≡ (if begins then None else last_after command last)
last_is ReaderCommand.Reset true last = refl
last_is ReaderCommand.Reset false last = refl
last_is command begins last = refl

own_answer : (unit : ReaderUnit) (command : Command) (its : ReaderCommand) (refused : Bool)
    (messages : List ReaderMsg) (old : ToldFacts) → own unit command ≡ Some its
    → told messages (taken (if refused then None else Some its) old)
    ≡ answered unit command refused messages old
own_answer unit command its true messages old found = rw (found, own_messages) refl
own_answer unit command its false messages old found =
    rw (found, own_messages) (ap (λ last. record (told messages (taken (Some its) old)) {
      taken = last;
    }) (sym (last_is its (begin_session messages) old.taken)))

-- the facts after a reply of this reader: it has taken its command or not, and has told messages
pub replied : (unit : ReaderUnit) (command : Command) (its : ReaderCommand) (reply : Reply)
    (old new : ToldFacts) → own unit command ≡ Some its
    → new ≡ told (messages_of reply) (taken (if tells_out_of_sequence reply then None
    else Some its) old)
    → new ≡ told_with unit (Act.Reply command reply) old
replied unit command its reply old new found new_is = new_is
    ∙ own_answer unit command its (tells_out_of_sequence reply) (messages_of reply) old found
