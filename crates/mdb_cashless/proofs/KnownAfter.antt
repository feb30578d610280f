-- What is known goes on act by act.
use Rattle.mdb_cashless.proofs.Words.{common_steps, arith, ◌≡◌, ℕ, ◌&&◌, ◌||◌, not, Bool, true, false, List, [], Option, Some, None, refl, ap, unwrap_or, if◌then◌else◌, is_some, Command, ReaderCommand, ReaderUnit, Reply, Act, Beginning, PowerOn, Joined, Part, kept_of, known_before, effect_taken, or_else, powers_on, resets, tells_out_of_sequence, unless_empty, if_known, past_after, ReaderKnown, Transaction, drops, known_of, begin_session, messages_of, ToldFacts, known_with, told_in, told_with, transaction_of, own, same_fields, first_past, from_power_on, known_past_after, past_in, past_known, same_known_past, asked_by, effect_of, effect_of_own, ends_transactions, own_messages, own_of, own_transaction, parts_by, taken_told, transaction_taken_by, tells_taken, option_map, known_in}
use Rattle.mdb_msgs.specs.Setups.{config_known}
use Rattle.mdb_machine.specs.declared.past.Past.{Past}
use Rattle.mdb_machine.specs.KnownMore.{known_more}
use Rattle.mdb_cashless.specs.declared.reader.facts.ReaderFacts.{ReaderFacts}

-- what an act tells becomes known, and what was known stays so
asked_after : {X : Type 0} (knows : Bool) (told old : Option X)
    → if_known (knows || is_some told) (or_else told old)
    ≡ known_more (option_map (λ (x : X). Some x) told) (if_known knows old)
asked_after knows told old = grind (arith, common_steps)

taken_after : {X : Type 0} (knows ends : Bool) (told old : Option X)
    → if_known (knows || is_some (if ends then Some None
    else option_map (λ (x : X). Some x) told)) (if ends then None else or_else told old)
    ≡ known_more (if ends then Some None else option_map (λ (x : X). Some x) told)
    (if_known knows old)
taken_after knows ends told old = grind (arith, common_steps)

kept_after : {M : Type 0} (knows : Bool) (kept old : List M)
    → if_known (knows || is_some (unless_empty kept)) (unwrap_or (unless_empty kept) old)
    ≡ known_more (unless_empty kept) (if_known knows old)
kept_after knows kept old = grind (arith, common_steps)

past_more : {M : Type 0} {CAP : ℕ} (was is : Bool) (old new : Past M CAP) (powers : Bool)
    (parts : List (Part M)) → is ≡ (was || is_some (unless_empty (kept_of parts)))
    → past_in new ≡ past_after powers parts (past_in old)
    → past_known is new ≡ known_past_after powers parts (past_known was old)
past_more was is old new powers parts knows same = same_known_past
    (ap (λ past. past.reset_owed) same)
    (rw (knows, ap (λ past. past.last_kept) same)
    (kept_after was (kept_of parts) old.last_kept.items))

pub known_after : (unit : ReaderUnit) (act : Act) (old new : ReaderKnown)
    → new.knows_asked ≡ (old.knows_asked || is_some (asked_by unit act))
    → new.knows_taken ≡ (old.knows_taken || is_some (taken_told unit act))
    → new.knows_kept ≡ (old.knows_kept || is_some (unless_empty (kept_of (parts_by unit act))))
    → told_in new.facts ≡ told_with unit act (told_in old.facts)
    → known_in new ≡ known_with unit act (known_in old)
known_after unit act old new asked taken kept same = same_fields
    (ap (λ (t : ToldFacts). t.config) same)
    (rw (asked, ap (λ (t : ToldFacts). t.asked) same)
    (asked_after old.knows_asked (asked_by unit act) old.facts.asked))
    (rw (taken, ap (λ (t : ToldFacts). t.taken) same) (taken_after old.knows_taken
    (ends_transactions unit act) (transaction_taken_by unit act) old.facts.taken))
    (ap (λ (t : ToldFacts). t.amount) same)
    (past_more old.knows_kept new.knows_kept old.facts.past new.facts.past
    (powers_on (effect_of unit) act) (parts_by unit act) kept
    (ap (λ (t : ToldFacts). t.past) same))

-- what is known of no act
pub known_first : (unit : ReaderUnit) (begins : Beginning) (facts : ReaderFacts) (knows : Bool)
    → knows ≡ from_power_on begins
    → facts.config ≡ known_before (λ setups. config_known setups unit) begins
    → facts.asked ≡ None → facts.taken ≡ None → facts.amount ≡ None
    → past_in facts.past ≡ first_past begins
    → known_in (record {
      facts = facts;
      knows_asked = knows;
      knows_taken = knows;
      knows_kept = knows;
    })
    ≡ known_of begins unit []
known_first unit (PowerOn profile) facts knows so config asked taken amount past =
    rw (so, config, asked, taken, amount, ap (λ p. p.reset_owed) past, ap (λ p. p.last_kept) past)
    refl
known_first unit (Joined setups profile) facts knows so config asked taken amount past =
    rw (so, config, amount, ap (λ p. p.reset_owed) past) refl

-- what a reply tells of the last transaction, where the command to the reader is known
told_its : (its : ReaderCommand) (begins : Bool)
    → (begins || drops its) ≡ is_some (if resets (effect_of_own (Some its)) || begins then Some None
    else option_map (λ (t : Transaction). Some t) (transaction_of its))
told_its ReaderCommand.Reset true = refl
told_its its false = refl
told_its its begins = refl

pub answered_told : (unit : ReaderUnit) (act : Act) (command : Command) (its : ReaderCommand)
    (reply : Reply) → act ≡ Act.Reply command reply → own unit command ≡ Some its
    → tells_taken its reply ≡ is_some (taken_told unit act)
answered_told unit act command its reply is found =
    rw (is, found, own_messages)
    (by (tells_out_of_sequence reply) (begin_session (messages_of reply)))
  where
    by : (refused begins : Bool) → (begins || (not refused && drops its))
        ≡ is_some (if resets (effect_taken (effect_of unit) (if refused then None
        else Some command)) || begins then Some None
        else option_map (λ (t : Transaction). Some t)
        (own_transaction (own_of unit (if refused then None else Some command))))
    by true true = refl
    by true false = refl
    by false begins = rw found (told_its its begins)
