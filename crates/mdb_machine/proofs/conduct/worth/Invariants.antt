-- Each account has the gains of the messages so far, with a bound for each message.
use Rattle.mdb_machine.proofs.Words.{◌≡◌, ◌*◌, ◌≤◌, take, AllByRecursion, by_slot, worth, facts_in}
use Rattle.mdb_machine.proofs.conduct.worth.Given as goal

abbrev pub invariant-loop-message : goal.invariant-loop-message
invariant-loop-message g l =
    record {
      value : l.worth
          ≡ by_slot (worth g.K.Conduct.conduct (facts_in l.facts)
          (take l.message-index l.messages));
      small : AllByRecursion (λ amount. amount ≤ 268435455 * l.message-index) l.worth;
    }
