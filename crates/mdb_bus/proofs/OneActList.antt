-- A transcript has at most one act list, and with an act list each of its fronts has one.
use Rattle.mdb_bus.proofs.Words.{[], act_after, acts_of, ap, append-nil, append_assoc, ArePieces, arith, Event, events_of, GoesOnFrom, Grammar, HasActList, IsActList, length, length-append, List, Piece, position_of, refl, RowBreaks, Rule, Scope, situation_of, subst, sym, ◌++◌, ◌∙◌, ◌∷◌, ◌≡◌}
use Rattle.mdb_bus.proofs.Backward.{Before, backward}
use Rattle.mdb_bus.proofs.Forward.{forward}
use Rattle.mdb_bus.proofs.OneStep.{one_step}
use Rattle.mdb_bus.proofs.Sound.{is_sound, last_is_long}
use Rattle.mdb_bus.proofs.Stops.{stops}

-- a transcript without rows has the empty act list alone
none_of_none : (scope : Scope) (pieces : List Piece) → IsActList scope pieces [] → pieces ≡ []
none_of_none scope [] list = refl
none_of_none scope (piece ∷ pieces) list =
    let stands = list.in_order.1 in
    absurd (omega (
      arith,
      length-append (events_of pieces) (stands.first ∷ stands.others),
      ap length (rw stands.begins at list.whole),
    ))

-- a list, its last element first
by_last : (P : List Event → Type 0) → P []
    → ((rows : List Event) (row : Event) → P rows → P (rows ++ row ∷ []))
    → (rows : List Event) → P rows
by_last P none more rows = all rows [] none
  where
    all : (rest done : List Event) → P done → P (done ++ rest)
    all [] done here = subst P (sym (append-nil done)) here
    all (row ∷ rest) done here =
        subst P (append_assoc done (row ∷ []) rest)
        (all rest (done ++ row ∷ []) (more done row here))

module _ (scope : Scope) (grammar : Grammar scope) where
  module _ (rows : List Event) (row : Event) where
    -- an act list of one row more is one of the rows, led on by that row
    back : (pieces : List Piece) → IsActList scope pieces (rows ++ row ∷ [])
        → Before scope pieces rows row
    back pieces list = backward scope grammar.open_front pieces rows row list.in_order list.whole

    -- what was before that row is an act list
    its_list : (pieces : List Piece) (b : Before scope pieces rows row)
        → IsActList scope b.before rows
    its_list pieces b = record { in_order = b.in_order; whole = b.rows_before }

    -- from one act list before a row, one after it
    one_more : ((one other : List Piece) → IsActList scope one rows → IsActList scope other rows
        → one ≡ other) → (one other : List Piece) → IsActList scope one (rows ++ row ∷ [])
        → IsActList scope other (rows ++ row ∷ []) → one ≡ other
    one_more known one other first second =
        let a = back one first in
        let b = back other second in
        let before : a.before ≡ b.before =
        known a.before b.before (its_list one a) (its_list other b) in
        let next : a.next ≡ b.next = one_step (situation_of scope a.before) grammar row a.next
        b.next a.leads (rw before b.leads) in
        a.is ∙ rw (before, next) (sym b.is)

    -- an act list of one row more goes on from one of the rows
    pub goes_on_from : (pieces : List Piece) → IsActList scope pieces (rows ++ row ∷ [])
        → GoesOnFrom scope rows pieces
    goes_on_from pieces list =
        let b = back pieces list in
        record {
          before = b.before;
          act = act_after (position_of scope b.before) b.next;
          act_list = its_list pieces b;
          acts = ap acts_of b.is ∙ (forward scope b.before row b.next b.in_order b.leads).acts;
        }

  -- a transcript has at most one act list
  pub one_act_list : (rows : List Event) (one other : List Piece) → IsActList scope one rows
      → IsActList scope other rows → one ≡ other
  one_act_list =
      by_last (λ rows. (one other : List Piece) → IsActList scope one rows
      → IsActList scope other rows → one ≡ other)
      (λ one other first second. none_of_none scope one first
      ∙ sym (none_of_none scope other second)) one_more

  -- what has an act list has one at each of its fronts
  pub fronts : (rows more : List Event) → HasActList scope (rows ++ more) → HasActList scope rows
  fronts rows =
      by_last (λ more. HasActList scope (rows ++ more) → HasActList scope rows)
      (λ list. subst (HasActList scope) (append-nil rows) list) (λ more row known list.
      let longer = subst (HasActList scope) (sym (append_assoc rows more (row ∷ []))) list in
      let b = back (rows ++ more) row longer.0 longer.1 in
      known (b.before, its_list (rows ++ more) row longer.0 b))

  -- no act list goes on with a row that breaks a rule
  pub ends : (pieces : List Piece) (row : Event) (broken : Rule) → ArePieces scope pieces
      → RowBreaks (situation_of scope pieces) row broken
      → HasActList scope (events_of pieces ++ row ∷ []) → ⊥
  ends pieces row broken order breaks list =
      let b = back (events_of pieces) row list.0 list.1 in
      let same : b.before ≡ pieces = one_act_list (events_of pieces) b.before pieces
      (its_list (events_of pieces) row list.0 b) (record { in_order = order; whole = refl }) in
      stops (situation_of scope pieces) grammar row broken b.next (is_sound scope pieces order)
      (last_is_long scope pieces order) breaks (rw same at b.leads)
