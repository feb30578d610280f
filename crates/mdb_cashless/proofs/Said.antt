-- What messages of a reader say, one after another.
use Rattle.mdb_cashless.proofs.Words.{common_steps, arith, ◌≡◌, ◌∙◌, ◌||◌, ◌++◌, Bool, List, [], ◌∷◌, Option, None, refl, ap, sym, map, list_any, option_or, ReaderMsg, Part, IsSummary, or_else, ReaderActivity, amount_in, config_in, last_said, part_of, IsSaid, map-append, list_any-append, is_out_of_sequence, begins_session}
use Rattle.mdb_cashless.specs.declared.reader.messages.Said.{Said}

-- two words for one thing
pub or_is : {X : Type 0} (one other : Option X) → option_or one other ≡ or_else one other
or_is one other = grind (arith, common_steps)

pub or_none : {X : Type 0} (one : Option X) → or_else one None ≡ one
or_none one = grind (arith, common_steps)

-- what the last of messages says, with one message more
last_said-more : {X : Type 0} (says : ReaderMsg → Option X) (messages : List ReaderMsg)
    (m : ReaderMsg)
    → last_said says (messages ++ m ∷ []) ≡ or_else (says m) (last_said says messages)
last_said-more says [] m = sym (or_none (says m))
last_said-more says (message ∷ messages) m =
    ap (λ o. or_else o (says message)) (last_said-more says messages m)
    ∙ grind (arith, common_steps)

any_last : (f : ReaderMsg → Bool) (messages : List ReaderMsg) (m : ReaderMsg)
    → list_any f (messages ++ m ∷ []) ≡ (f m || list_any f messages)
any_last f messages m = list_any-append f messages (m ∷ []) ∙ grind (arith, common_steps)

-- what messages say with one message more
pub said_more : (old new : Said) (messages : List ReaderMsg) (m : ReaderMsg) → IsSaid old messages
    → ((parts : List (Part ReaderActivity))
    → IsSummary old.summary.kept.items old.summary.reset old.summary.early parts
    → IsSummary new.summary.kept.items new.summary.reset new.summary.early
    (parts ++ part_of m ∷ []))
    → new.config ≡ or_else (config_in m) old.config → new.amount ≡ or_else (amount_in m) old.amount
    → new.begins ≡ (begins_session m || old.begins)
    → new.refused ≡ (is_out_of_sequence m || old.refused)
    → IsSaid new (messages ++ m ∷ [])
said_more old new messages m said summary config amount begins refused = record {
  summary_is = rw (map-append part_of messages (m ∷ []))
      (summary (map part_of messages) said.summary_is);
  config_is = rw (config, said.config_is, last_said-more config_in) refl;
  amount_is = rw (amount, said.amount_is, last_said-more amount_in) refl;
  begins_is = rw (begins, said.begins_is, any_last begins_session) refl;
  refused_is = rw (refused, said.refused_is, any_last is_out_of_sequence) refl;
}
