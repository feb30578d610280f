-- A row has one fault.
use Rattle.mdb_bus.proofs.Words.{[], AllByRecursion, ap, Blame, Event, fault_of, IsLinkFault, List, Piece, recursion_from_All, RowBreaks, Rule, Scope, situation_of, subst, sym, ◌++◌, ◌∙◌, ◌∷◌, ◌≡◌}

-- of rules in an order, one is the first that is broken
one_first : (Breaks : Rule → Type 0) (r s : Rule) (before other after rest : List Rule)
    → before ++ r ∷ after ≡ other ++ s ∷ rest → Breaks r → Breaks s
    → AllByRecursion (λ x. Breaks x → ⊥) before → AllByRecursion (λ x. Breaks x → ⊥) other → r ≡ s
one_first Breaks r s [] [] after rest same breaks too keeps also = cc
one_first Breaks r s [] (x ∷ other) after rest same breaks too keeps also =
    let is : r ≡ x = cc in
    absurd (also.0 (subst Breaks is breaks))
one_first Breaks r s (x ∷ before) [] after rest same breaks too keeps also =
    let is : s ≡ x = cc in
    absurd (keeps.0 (subst Breaks is too))
one_first Breaks r s (x ∷ before) (y ∷ other) after rest same breaks too keeps also =
    let others : before ++ r ∷ after ≡ other ++ s ∷ rest = cc in
    one_first Breaks r s before other after rest others breaks too keeps.1 also.1

pub one_fault : (scope : Scope) (pieces : List Piece) (row : Event) (r s : Rule) (a b : Blame)
    → IsLinkFault scope pieces row r a → IsLinkFault scope pieces row s b → (r ≡ s) × (a ≡ b)
one_fault scope pieces row r s a b first second =
    let p = first.rule in
    let q = second.rule in
    let one : first.first ≡ second.first =
    one_first (RowBreaks (situation_of scope pieces) row) first.first second.first p.before
    q.before p.after q.after (sym p.stands ∙ q.stands) p.breaks q.breaks
    (recursion_from_All _ p.before p.keeps) (recursion_from_All _ q.before q.keeps) in (
      first.counts ∙ (ap (λ x. (fault_of scope pieces row x).rule) one ∙ sym second.counts),
      first.blame ∙ (ap (λ x. (fault_of scope pieces row x).blame) one ∙ sym second.blame),
    )
