-- Where an act isn't settled, the steps by approvals are those of three guesses of the unknown.
use Rattle.mdb_cashless.proofs.Words.{common_steps, ◌≡◌, ◌≢◌, ◌↔◌, ◌⊎◌, ◌∙◌, ◌∷◌, ◌++◌, ◌||◌, ◌&&◌, ◌-◌, not, ℕ, Bool, true, false, List, [], Option, Some, None, refl, ap, sym, inl, inr, length, drop, arith, if◌then◌else◌, is_none, or-true, take-append_seam, and_parts, eqb-true, Decides-eqb, ReaderCommand, ReaderUnit, Reply, Act, Choice, Again, Gains, Is, Known, Allows, if_known, ForOwn, Sale, Unawaited, Awaited, ApprovalState, approvals_in, IsEarlier, MaySell, messages_of, own, either_parts, told_again, append-nil, Nothing, Sold, IsSale, approve, may_be_again, may_be_either, news, assuming, front_of, guess, is_awaiting_known, is_sale_known, is_success, sold_again, told_by, length-append}
use Rattle.std.proofs.lemmas.Slice.Eq.{starts_is}
use Rattle.mdb_cashless.specs.declared.approvals.facts.ApprovalFacts.{ApprovalFacts}
use Rattle.mdb_cashless.specs.declared.approvals.sale.Sale.TheVariants.{Unknown}
use Rattle.mdb_cashless.specs.ExtendedFacts.{Facts}
use Rattle.mdb_cashless.specs.ExtendedReader.{AskStep, ReaderStep, ReplyStep, VmcAckStep, before_messages, read}
use Rattle.mdb_cashless.specs.inner.Approvals.{facts_in, settled}

-- what may be told again: nothing, all of a reply's messages 05, or all but the last
all_new : (choice : Choice) (before : ApprovalState) (told : List ℕ) → choice ≢ Again
    → news choice before [] told ≡ Some told
all_new Again before told plain = absurd (plain refl)
all_new choice before told plain = grind (arith, common_steps)

front_is : (last told : List ℕ) (amount : ℕ) → told ≡ last ++ (amount ∷ []) → last ≡ front_of told
front_is last told amount begins =
    let count : length (last ++ (amount ∷ [])) - 1 ≡ length last =
    simp length-append (omega arith) in
    rw (begins, count, take-append_seam) refl

begins : (before : ApprovalState) (last told : List ℕ) → may_be_again before last told ≡ true
    → told ≡ last ++ drop (length last) told
begins before last told is =
    (starts_is Decides-eqb told last _ refl).0 (and_parts _ _ is).1

either_is : (before : ApprovalState) (last told : List ℕ) → may_be_either before last told ≡ true
    → last ≡ told
either_is before last told is =
    let parts = either_parts before last told is in
    by (eqb-true (length last) 1 parts.0) (eqb-true (length told) 1 parts.1)
    (drop (length last) told) (begins before last told parts.3)
  where
    by : length last ≡ 1 → length told ≡ 1 → (rest : List ℕ) → told ≡ last ++ rest → last ≡ told
    by one single [] is = sym (is ∙ append-nil last)
    by one single (amount ∷ rest) is =
        absurd (omega (arith, one, single, ap length is, length-append last (amount ∷ rest)))

-- so the news are those after one of the three
after_last : (before after : ApprovalState) (last told rest : List ℕ) → told ≡ last ++ rest
    → approve rest before ≡ Some after → (last ≡ front_of told) ⊎ (last ≡ told)
after_last before after last told [] is to = inr (sym (is ∙ append-nil last))
after_last before after last told (amount ∷ []) is to = inl (front_is last told amount is)
after_last before after last told (one ∷ other ∷ rest) is to = absurd cc

one_of_three : (choice : Choice) (before after : ApprovalState) (last told new : List ℕ)
    → news choice before last told ≡ Some new → approve new before ≡ Some after
    → (news choice before [] told ≡ Some new) ⊎ ((last ≡ front_of told) ⊎ (last ≡ told))
one_of_three Again before after last told new is to =
    inr (inr (either_is before last told (told_again before last told new is)))
one_of_three choice before after last told new is to =
    by (may_be_again before last told) (may_be_either before last told) refl refl is
  where
    by : (again either : Bool) → may_be_again before last told ≡ again
        → may_be_either before last told ≡ either
        → (if again && not either then Some (drop (length last) told) else Some told) ≡ Some new
        → (news choice before [] told ≡ Some new) ⊎ ((last ≡ front_of told) ⊎ (last ≡ told))
    by true false again either same =
        let rest : new ≡ drop (length last) told = cc in
        inr (after_last before after last told _ (begins before last told again) (rw rest at to))
    by again true is either same = inr (inr (either_is before last told either))
    by false either is other same = inl (all_new choice before told (λ e. absurd cc) ∙ same)

module _ (unit : ReaderUnit) (facts : ApprovalFacts) (choice : Choice)
    (before after : ApprovalState) (gains : Gains) where
  abbrev known : Facts
  known = facts_in facts

  -- three ways
  abbrev Three : (Sale → List ℕ → Type 0) → Sale → List ℕ → Type 0
  Three Way sale told = (Way Nothing [] ⊎ Way sale (front_of told)) ⊎ Way sale told

  from_three : {One Two Three X : Type 0} → (One → X) → (Two → X) → (Three → X)
      → (One ⊎ Two) ⊎ Three → X
  from_three one two three (inl (inl is)) = one is
  from_three one two three (inl (inr is)) = two is
  from_three one two three (inr is) = three is

  -- VEND SUCCESS, where it isn't known if it is the same again
  vague : (item worth : ℕ) (sale : Sale) → (is_sale_known sale || false) ≡ false
      → MaySell known item sale worth ↔ ((worth ≡ 0) ⊎ IsEarlier known worth)
  vague item worth Unknown is = (λ may. may, λ may. may)
  vague item worth Unawaited is = (λ may. may, λ may. may)
  vague item worth sale is = absurd cc

  asks : (found : Option ReaderCommand)
      → (is_sale_known facts.sale || not (is_success found)) ≡ false
      → ForOwn found (AskStep known) before after gains
      ↔ Three (λ sale last. ForOwn found (AskStep (assuming sale last known)) before after gains)
      (sold_again found) []
  asks (Some (ReaderCommand.VendSuccess item)) unsettled = (
    λ step. elim ((vague item step.0 facts.sale unsettled).0 step.1) [
      | inl none ↦ inr (step.0, inl (refl, none), step.2, step.3)
      | inr is ↦ inl (inl (step.0, is, step.2, step.3))
    ],
    from_three
        (λ step. (step.0, (vague item step.0 facts.sale unsettled).1 (inr step.1), step.2, step.3))
        sold sold,
  )
    where
      sold : AskStep (assuming (Sold item) [] known) (ReaderCommand.VendSuccess item) before after
          gains
          → AskStep known (ReaderCommand.VendSuccess item) before after gains
      sold step = (
        step.0,
        (vague item step.0 facts.sale unsettled).1 (elim step.1 [
          | inl same ↦ inl same.1
          | inr other ↦ absurd (other.0 refl)
        ]),
        step.2,
        step.3,
      )
  asks found unsettled = let never = sym (or-true (is_sale_known facts.sale))
      ∙ unsettled in absurd cc

  -- the controller's ACK, where it isn't known if it awaits an approval
  either : (known sale : Sale) → (is_awaiting_known known || false) ≡ false
      → IsSale known sale ↔ ((sale ≡ Nothing) ⊎ (sale ≡ Awaited))
  either Unknown sale is = (λ may. may, λ may. may)
  either known sale is = absurd cc

  acks : (reply : Reply) (found : Option ReaderCommand)
      → (is_awaiting_known facts.sale || is_none found) ≡ false
      → ForOwn found (λ c. VmcAckStep known reply choice) before after gains
      ↔ Three (λ sale last. ForOwn found (λ c. VmcAckStep (assuming sale last known) reply choice)
      before after gains) Awaited []
  acks reply None unsettled = let never = sym (or-true (is_awaiting_known facts.sale))
      ∙ unsettled in absurd cc
  acks reply (Some its) unsettled = (
    λ step. elim ((either facts.sale step.0 unsettled).0 step.1) [
      | inl none ↦ inl (inl (step.0, none, step.2, step.3))
      | inr awaited ↦ inr (step.0, awaited, step.2, step.3)
    ],
    from_three
        (λ step. (step.0, (either facts.sale step.0 unsettled).1 (inl step.1), step.2, step.3))
        (λ step. (step.0, (either facts.sale step.0 unsettled).1 (inr step.1), step.2, step.3))
        (λ step. (step.0, (either facts.sale step.0 unsettled).1 (inr step.1), step.2, step.3)),
  )

  -- a reply, where it isn't known what the reader told last
  allows : (knows : Bool) (told last : List ℕ) → (knows || false) ≡ false
      → Allows (if_known knows told) last
  allows knows told last is = grind arith

  replies : (reply : Reply) (found : Option ReaderCommand)
      → (facts.knows_told || is_none found) ≡ false
      → ForOwn found (λ c. ReplyStep known c reply choice) before after gains
      ↔ Three (λ sale last. ForOwn found (λ c. ReplyStep (assuming sale last known) c reply choice)
      before after gains) Awaited (approvals_in (messages_of reply))
  replies reply None unsettled = let never = sym (or-true facts.knows_told) ∙ unsettled in absurd cc
  replies reply (Some its) unsettled = (
    λ step. elim (one_of_three choice middle after step.last told step.new step.is_new
        step.to) [
          | inl is ↦ inl (inl (retold (Is []) Nothing step [] refl is))
          | inr again ↦ elim again [
            | inl front ↦
                inl (inr (retold (Is (front_of told)) Awaited step (front_of told) refl
                (rw front at step.is_new)))
            | inr whole ↦ inr (retold (Is told) Awaited step told refl (rw whole at step.is_new))
          ]
        ],
    from_three as_known as_known as_known,
  )
    where
      told : List ℕ
      told = approvals_in (messages_of reply)

      middle : ApprovalState
      middle = before_messages its reply (read choice before)

      retold : {one : Facts} (approvals : Known (List ℕ)) (sale : Sale)
          (step : ReplyStep one its reply choice before after gains) (last : List ℕ)
          → Allows approvals last → news choice middle last told ≡ Some step.new
          → ReplyStep (record one { approvals = approvals; sale = sale }) its reply choice before
          after gains
      retold approvals sale step last may is = record {
        last = last;
        may_be_last = may;
        may_be_read = step.may_be_read;
        new = step.new;
        is_new = is;
        to = step.to;
        gained = step.gained;
      }

      as_known : {sale : Sale} {last : List ℕ}
          → ReplyStep (assuming sale last known) its reply choice before after gains
          → ReplyStep known its reply choice before after gains
      as_known step = retold known.approvals known.sale step step.last
          (allows facts.knows_told facts.told.items step.last unsettled) step.is_new

  pub ways : (act : Act) → settled unit facts act ≡ false
      → ReaderStep unit known act choice before after gains
      ↔ Three (λ sale last. ReaderStep unit (assuming sale last known) act choice before after
      gains)
      (guess unit act) (told_by act)
  ways (Act.Ask command) unsettled = asks (own unit command) unsettled
  ways (Act.Reply command reply) unsettled = replies reply (own unit command) unsettled
  ways (Act.VmcAck command reply) unsettled = acks reply (own unit command) unsettled
  ways act unsettled = absurd cc

  pub ways_of : (act : Act) (none front whole : Facts) → none ≡ assuming Nothing [] known
      → front ≡ assuming (guess unit act) (front_of (told_by act)) known
      → whole ≡ assuming (guess unit act) (told_by act) known → settled unit facts act ≡ false
      → ReaderStep unit known act choice before after gains
      ↔ ((ReaderStep unit none act choice before after gains
      ⊎ ReaderStep unit front act choice before after gains)
      ⊎ ReaderStep unit whole act choice before after gains)
  ways_of act none front whole one two three unsettled =
      rw one (rw two (rw three (ways act unsettled)))

-- three steps that are added to none
pub three_added : {none one two three First Second Third All : Type 0} → (none → ⊥)
    → one ↔ (none ⊎ First) → two ↔ (one ⊎ Second) → three ↔ (two ⊎ Third)
    → All ↔ ((First ⊎ Second) ⊎ Third) → three ↔ All
three_added empty first second third all = grind arith
