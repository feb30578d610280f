-- A fault of the link that `show` ends with is that of the verdict, unless a machine ends the
-- verdict before.
use Rattle.mdb_show.proofs.Words.{AreRead, BadRow, Bool, Err, Event, HasActList, IsActList, IsAnswer, IsImpossible, IsLinkFault, IsOwnAnswer, IsRow, IsShownToFaultIn, LineForm, LinkFault, List, Ok, Piece, Profile, ROWS_MAX, Result, RunFault, Scope, TooLong, Whole, [], ap, append-nil, append_assoc, arith, compared, events_of, false, if◌then◌else◌, inl, inr, length, length-append, refl, row_not_refused, row_one, subst, sym, true, ℕ, ◌&&◌, ◌++◌, ◌+◌, ◌∙◌, ◌∷◌, ◌≡◌, ◌⊎◌}
use Rattle.mdb_verdict.proofs.OneAnswer.{GoesOn}
use Rattle.mdb_bus.specs.declared.fault.Blame.TheVariants as blame
use Rattle.mdb_bus.specs.declared.fault.Rule.TheVariants as rules
use Rattle.mdb_bus.specs.declared.scope.Profile.TheVariants.{Base, Extended}
use Rattle.mdb_bus.specs.ExtendedHaste.{counted_in, haste_by, is_excused, is_in_haste}
use Rattle.mdb_follow.specs.declared.offence.Offence.{Offence}
use Rattle.mdb_follow.specs.Offences.{IsOffence}
use Rattle.mdb_bus.specs.Scopes.{profile_of}
use Rattle.mdb_follow.specs.Runs.{IsReached}
use Rattle.mdb_follow.specs.Senders.{sender_of}
use Rattle.mdb_text.specs.declared.outcome.Outcome.{Outcome}
use Rattle.mdb_text.specs.declared.outcome.Outcome.TheVariants.{Yes, No}
use Rattle.mdb_show.specs.ShownFault.{IsNoUpTo, IsOfMachine}
use Rattle.mdb_show.proofs.OneShowing.{BusLaws}

-- what counts of a fault is the fault, or by the extended profile that the controller was early
counted_or_early : (profile : Profile) (haste : Bool) (row : Event) (fault : LinkFault)
    → (counted_in (haste_by profile haste) row fault ≡ fault)
    ⊎ ((profile ≡ Extended) × (counted_in (haste_by profile haste) row fault
    ≡ record { rule = rules.Early; blame = blame.Controller }))
counted_or_early Base haste row fault = inl refl
counted_or_early Extended haste row fault = either (haste && is_excused row fault.rule)
  where
    early : LinkFault
    early = record { rule = rules.Early; blame = blame.Controller }

    either : (is : Bool) → ((if is then early else fault) ≡ fault)
        ⊎ ((Extended ≡ Extended) × ((if is then early else fault) ≡ early))
    either true = inr (refl, refl)
    either false = inl refl

module _ (scope : Scope) (laws : BusLaws scope) where
  -- rows that have an act list have one up to each row
  up_to : (rows longer more : List Event) (row : Event) → longer ≡ rows ++ row ∷ more
      → HasActList scope longer → HasActList scope (rows ++ row ∷ [])
  up_to rows longer more row is list =
      let split : longer ≡ (rows ++ row ∷ []) ++ more =
      is ∙ sym (append_assoc rows (row ∷ []) more) in
      laws.fronts (rows ++ row ∷ []) more (rw split at list)

  -- where rows have an act list with the next row, the offence of that row is a machine's
  earlier_row : (rows : List Event) (row : Event) (offence : Offence)
      → HasActList scope (rows ++ row ∷ []) → IsOffence scope rows row offence
      → IsOfMachine (profile_of scope.begins) offence
  earlier_row rows row offence list why_not = elim why_not.why [
    | inl link ↦ absurd (laws.stops link.pieces row link.fault.first link.act_list.in_order
        link.fault.rule.breaks (rw link.act_list.whole list))
    | inr machine ↦
        let longer = Whole machine.act (machine.begun ++ row ∷ []) ∷ machine.earlier in
        elim (counted_or_early (profile_of scope.begins) (is_in_haste longer) row
        (record { rule = machine.own; blame = sender_of machine.act })) [
          | inl own ↦ inl (
            machine.no_step.device,
            machine.counts ∙ (ap (λ (it : LinkFault). it.rule) own ∙ machine.no_step.rule),
          )
          | inr early ↦ inr (
            early.0,
            machine.counts ∙ ap (λ (it : LinkFault). it.rule) early.1,
            machine.blame ∙ ap (λ (it : LinkFault). it.blame) early.1,
          )
        ]
  ]

  -- at the row of a fault, an offence has its rule and its blame
  at_the_row : (pieces : List Piece) (rows : List Event) (row : Event) (fault : LinkFault)
      (offence : Offence) → IsActList scope pieces rows
      → IsLinkFault scope pieces row fault.rule fault.blame → IsOffence scope rows row offence
      → (offence.rule ≡ fault.rule) × (offence.blame ≡ fault.blame)
  at_the_row pieces rows row fault offence list is why_not = elim why_not.why [
    | inl link ↦
        let one : link.pieces ≡ pieces =
        laws.one_list rows link.pieces pieces link.act_list list in
        laws.one_fault pieces row offence.rule fault.rule offence.blame fault.blame
        (subst (λ l. IsLinkFault scope l row offence.rule offence.blame) one link.fault) is
    | inr machine ↦ absurd (laws.stops pieces row is.first list.in_order is.rule.breaks
        (rw list.whole
        (Whole machine.act (machine.begun ++ row ∷ []) ∷ machine.earlier, machine.act_list)))
  ]

  module _ (form : LineForm) (records : List (List (List ℕ))) (fault : LinkFault) (text : List ℕ)
      (shown : IsShownToFaultIn form scope records fault text) where
    -- no rows that are reached go on with the row of the fault
    none_beyond : (rows : List Event) → GoesOn shown.rows rows (shown.fields ∷ shown.rest)
        → IsReached scope rows → ⊥
    none_beyond rows on reached =
        let at = shown.stops in
        let same : on.fields ≡ shown.fields = cc (on.record_is) in
        let one : on.event ≡ shown.row =
        row_one shown.fields on.event shown.row (rw same at on.row) shown.told in
        laws.stops at.pieces shown.row at.is.first at.list.in_order at.is.rule.breaks
        (rw at.list.whole (up_to shown.rows rows on.more shown.row (rw one at on.longer_is)
        (reached.1.pieces, reached.1.act_list)))

    -- so where rows lead up to a record, that is a row too: the row of the fault, or one before it
    abbrev Next : List Event → List (List ℕ) → Type 0
    Next rows fields = (row : Event) × IsRow fields row
        × (((rows ≡ shown.rows) × (row ≡ shown.row))
        ⊎ ((more : List Event) × (shown.rows ≡ rows ++ row ∷ more)))

    next : (rows : List Event) (fields : List (List ℕ)) (rest : List (List (List ℕ)))
        → AreRead IsRow records rows (fields ∷ rest) → IsReached scope rows → Next rows fields
    next rows fields rest read reached =
        elim (compared read.done shown.read.done (fields ∷ rest) (shown.fields ∷ shown.rest) rows
        shown.rows read.told shown.read.told (sym read.split ∙ shown.read.split)) [
          | inl same ↦
              let one : shown.fields ≡ fields = cc (same.1) in
              (shown.row, rw one at shown.told, inl (same.0, refl))
          | inr (inl on) ↦
              let one : on.fields ≡ fields = cc (on.record_is) in
              (on.event, rw one at on.row, inr (on.more, on.longer_is))
          | inr (inr on) ↦ absurd (none_beyond rows on reached)
        ]

    no_up_to : (offence : Offence) → IsImpossible scope ROWS_MAX records offence
        → IsNoUpTo (profile_of scope.begins) (length shown.rows + 1) fault (Ok (No offence))
    no_up_to offence is =
        let (row, told, at) = next is.rows is.fields is.rest is.read is.stops.reached in
        let one : is.row ≡ row = row_one is.fields is.row row is.told told in
        by row (rw one at is.stops) at
      where
        by : (row : Event) → IsOffence scope is.rows row offence
            → ((is.rows ≡ shown.rows) × (row ≡ shown.row))
            ⊎ ((more : List Event) × (shown.rows ≡ is.rows ++ row ∷ more))
            → IsNoUpTo (profile_of scope.begins) (length shown.rows + 1) fault (Ok (No offence))
        by row why (inl same) =
            let here = rw (same.0, same.1) at why in
            let both = at_the_row shown.stops.pieces shown.rows shown.row fault offence
            shown.stops.list shown.stops.is here in
            inr (here.number, both.0, both.1)
        by row why (inr (more, longer)) =
            let long = length-append is.rows (row ∷ more) in
            inl (
              omega (arith, ap length longer, long, why.number),
              earlier_row is.rows row offence
                  (up_to is.rows shown.rows more row longer (shown.stops.pieces, shown.stops.list))
                  why,
            )

    -- the verdict is a no, at that row or before it
    pub verdict_up_to : (answer : Result Outcome RunFault) → IsAnswer scope ROWS_MAX records answer
        → IsOwnAnswer answer
        → IsNoUpTo (profile_of scope.begins) (length shown.rows + 1) fault answer
    verdict_up_to (Ok (Yes report)) is own =
        elim (compared records shown.read.done [] (shown.fields ∷ shown.rest) is.rows shown.rows
        is.told shown.read.told (append-nil records ∙ shown.read.split)) [
          | inl same ↦ cc (same.1)
          | inr (inl on) ↦ cc (on.record_is)
          | inr (inr on) ↦ none_beyond is.rows on is.has.0.reached
        ]
    verdict_up_to (Ok (No offence)) is own = no_up_to offence is
    verdict_up_to (Err (BadRow row why)) is own =
        let (event, told, at) = next is.rows is.fields is.rest is.read is.has in
        row_not_refused is.fields event why told is.refused
    verdict_up_to (Err TooLong) is own =
        let (event, told, at) = next is.rows is.fields is.rest is.read is.has in
        elim at [
          | inl same ↦ omega (arith, ap length same.0, is.full, shown.few)
          | inr on ↦ omega (
            arith,
            ap length on.1,
            length-append is.rows (event ∷ on.0),
            is.full,
            shown.few,
          )
        ]
    verdict_up_to (Err fault) is own = own
