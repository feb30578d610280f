-- A row leads to one step at most.
use Rattle.mdb_bus.proofs.Words.{[], ap, arith, Asked, Asks, Break, Command, Controller, Event, Foreign, GoesOnAsking, GoesOnForeign, Grammar, InAsk, InForeign, inl, inr, InRepeat, InReply, IsAskFront, IsForeignOpening, IsRepeatFront, Leads, length, Levels, Line, List, needed_in, Opens, Option, Peripheral, Position, Quiet, refl, Replied, Reply, reply_words, Returned, Scope, Situation, Step, sym, Word, WordLeads, ℕ, ◌++◌, ◌∙◌, ◌∷◌, ◌≡◌, ◌≤◌}
use Rattle.mdb_bus.specs.shared.Step as step
use Rattle.mdb_bus.proofs.Lists.{nothing_after, some_length}
use Rattle.mdb_bus.proofs.Stops.{front_short}

-- what opens a foreign block is foreign
opening_foreign : (scope : Scope) (bytes : List ℕ) → IsForeignOpening scope bytes
    → needed_in scope bytes ≡ Foreign
opening_foreign scope (first ∷ []) opening = opening
opening_foreign scope (first ∷ second ∷ []) opening = opening.1
opening_foreign scope bytes opening = absurd opening

-- the words of a reply don't go on
repeat_not_whole : (reply : Reply) (words : List ℕ) → IsRepeatFront reply words
    → words ≡ reply_words reply → ⊥
repeat_not_whole reply words front whole =
    front.open_end (nothing_after words front.rest (ap length (whole ∙ sym front.same)))

module _ (scope : Scope) (grammar : Grammar scope) where
  -- no front of a command opens a foreign block
  front_not_foreign : (bytes : List ℕ) → IsAskFront scope bytes → IsForeignOpening scope bytes → ⊥
  front_not_foreign bytes front opening =
      rw (opening_foreign scope bytes opening) at (grammar.tells bytes front.rest front.command
      (some_length bytes front.some) front.spelled)

  -- nor does a command
  command_not_foreign : (bytes : List ℕ) (command : Command) → Asks scope command bytes
      → IsForeignOpening scope bytes → ⊥
  command_not_foreign bytes command asks opening =
      cc (grammar.needs bytes command asks, opening_foreign scope bytes opening)

  module _ (from : Option Event) (levels : Levels) (to : Event) (word : ℕ) where
    -- a word leads to one step from a position
    abbrev LeadsOnce : Position → Line → Type 0
    LeadsOnce position line = (one other : Step)
        → WordLeads scope position from levels to line word one
        → WordLeads scope position from levels to line word other → one ≡ other

    -- a block begins with one step
    opens_apart : (position : Position) (byte : ℕ)
        → Opens scope position from to word (step.AskByte byte)
        → Opens scope position from to word step.Foreign → ⊥
    opens_apart position byte p q =
        let same : q.0 ≡ byte = omega (arith, p.0, q.1) in
        front_not_foreign (byte ∷ []) p.1 (rw same at q.2)

    one_opening : (position : Position) (one other : Step) → Opens scope position from to word one
        → Opens scope position from to word other → one ≡ other
    one_opening position (step.AskByte byte) (step.AskByte other) p q =
        let same : byte ≡ other = omega (arith, p.0, q.0) in ap step.AskByte same
    one_opening position (step.AskByte byte) step.Foreign p q =
        absurd (opens_apart position byte p q)
    one_opening position step.Foreign (step.AskByte byte) p q =
        absurd (opens_apart position byte q p)
    one_opening position one other p q = search

    -- the word that begins a block is marked
    opens_marked : (position : Position) (next : Step) → Opens scope position from to word next
        → 256 ≤ word
    opens_marked position (step.AskByte byte) p = omega (arith, p.0)
    opens_marked position step.Foreign p = omega (arith, p.1)
    opens_marked position next p = absurd p

    -- a block goes on with one step
    byte_or_command : (bytes : List ℕ) (byte : ℕ) (command : Command)
        → GoesOnAsking scope bytes from to word (step.AskByte byte)
        → GoesOnAsking scope bytes from to word (step.Ask command) → ⊥
    byte_or_command bytes byte command p q =
        front_short scope grammar (bytes ++ byte ∷ []) p.2 command (rw p.0 at q.1)

    byte_or_foreign : (bytes : List ℕ) (byte : ℕ)
        → GoesOnAsking scope bytes from to word (step.AskByte byte)
        → GoesOnAsking scope bytes from to word step.Foreign → ⊥
    byte_or_foreign bytes byte p q = front_not_foreign (bytes ++ byte ∷ []) p.2 (rw p.0 at q.1)

    one_asking : (bytes : List ℕ) → LeadsOnce (InAsk bytes) Controller
    one_asking bytes (step.AskByte byte) (step.Ask command) p q =
        absurd (byte_or_command bytes byte command p q)
    one_asking bytes (step.Ask command) (step.AskByte byte) p q =
        absurd (byte_or_command bytes byte command q p)
    one_asking bytes (step.AskByte byte) step.Foreign p q = absurd (byte_or_foreign bytes byte p q)
    one_asking bytes step.Foreign (step.AskByte byte) p q = absurd (byte_or_foreign bytes byte q p)
    one_asking bytes (step.Ask command) (step.Ask other) p q =
        ap step.Ask (grammar.one_command (bytes ++ word ∷ []) command other p.1 q.1)
    one_asking bytes (step.Ask command) step.Foreign p q =
        absurd (command_not_foreign (bytes ++ word ∷ []) command p.1 q.1)
    one_asking bytes step.Foreign (step.Ask command) p q =
        absurd (command_not_foreign (bytes ++ word ∷ []) command q.1 p.1)
    one_asking bytes one other p q = search arith

    -- a command is answered with one step
    one_answer : (command : Command) → LeadsOnce (Asked command) Peripheral
    one_answer command one other p q = search arith

    -- a reply goes on with one step
    one_replying : (command : Command) (bytes : List ℕ)
        → LeadsOnce (InReply command bytes) Peripheral
    one_replying command bytes (step.Reply reply) (step.Reply other) p q =
        ap step.Reply (grammar.one_reply _ command reply other p.3.0 q.3.0 p.1.answers q.1.answers
        (sym p.2 ∙ q.2))
    one_replying command bytes one other p q = search arith

    -- the controller answers a reply with one step
    one_vmc_answer : (command : Command) (reply : Reply)
        → LeadsOnce (Replied command reply) Controller
    one_vmc_answer command reply step.VmcAck other p q = search arith
    one_vmc_answer command reply one step.VmcAck p q = search arith
    one_vmc_answer command reply one other p q = search (arith, one_opening)

    -- a repeat goes on with one step
    one_repeating : (command : Command) (reply : Reply) (words : List ℕ)
        → LeadsOnce (InRepeat command reply words) Peripheral
    one_repeating command reply words (step.RepeatWord said) step.Repeat p q =
        absurd (repeat_not_whole reply (words ++ word ∷ []) p.1 q.0)
    one_repeating command reply words step.Repeat (step.RepeatWord said) p q =
        absurd (repeat_not_whole reply (words ++ word ∷ []) q.1 p.0)
    one_repeating command reply words one other p q = search arith

    -- foreign traffic goes on with one step
    is_foreign : (next : Step) → GoesOnForeign from to next → next ≡ step.Foreign
    is_foreign step.Foreign p = refl
    is_foreign next p = absurd p

    one_foreign : LeadsOnce InForeign Controller
    one_foreign one other (inl p) (inl q) = one_opening InForeign one other p q
    one_foreign one other (inl p) (inr q) =
        absurd (omega (arith, q.0, opens_marked InForeign one p))
    one_foreign one other (inr p) (inl q) =
        absurd (omega (arith, p.0, opens_marked InForeign other q))
    one_foreign one other (inr p) (inr q) = is_foreign one p.1 ∙ sym (is_foreign other q.1)

    -- a word leads to one step
    one_word : (position : Position) (line : Line) → LeadsOnce position line
    one_word Quiet Controller = one_opening Quiet
    one_word (InAsk bytes) Controller = one_asking bytes
    one_word (Asked command) Controller = one_opening (Asked command)
    one_word (Asked command) Peripheral = one_answer command
    one_word (InReply command bytes) Peripheral = one_replying command bytes
    one_word (Replied command reply) Controller = one_vmc_answer command reply
    one_word (Returned command reply) Controller = one_opening (Returned command reply)
    one_word (Returned command reply) Peripheral = λ one other p q. search arith
    one_word (InRepeat command reply words) Peripheral = one_repeating command reply words
    one_word InForeign Controller = one_foreign
    one_word InForeign Peripheral = λ one other p q. is_foreign one p ∙ sym (is_foreign other q)
    one_word position line = λ one other p q. absurd p

-- a break leads to one step
is_break : (s : Situation) (at length : ℕ) (next : Step) → Leads s (Break at length) next
    → next ≡ step.Break length
is_break s at length (step.Break lasted) p = ap step.Break p.0
is_break s at length next p = absurd p

-- a row leads to one step
pub one_step : (s : Situation) (grammar : Grammar s.scope) (row : Event) (one other : Step)
    → Leads s row one → Leads s row other → one ≡ other
one_step s grammar (Word at line word) one other p q =
    one_word s.scope grammar s.last s.levels (Word at line word) word s.position line one other p q
one_step s grammar (Break at length) one other p q =
    is_break s at length one p ∙ sym (is_break s at length other q)
