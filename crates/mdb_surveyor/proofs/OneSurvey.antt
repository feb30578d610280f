-- Rows have one survey.
use Rattle.mdb_surveyor.proofs.Words.{arith, refl, ap, sym, ◌∙◌, ◌≡◌, ◌+◌, ◌<◌, ℕ, List, [], ◌∷◌, ◌++◌, Option, Some, None, length, append_assoc, get_or, take, take_more, IfNone, IfSome, Event, Scope, position_of, open_block, Offence, Report, IsOffence, IsReport, Ended, Stretch, EndsBy, IsSurvey, LeadFrom, StretchStart, fault_at, first_fault, first_place, stretch_at, Surveyor, StandsFor, rows_of}
use Rattle.mdb_follow.specs.FirstOffences.{HasOffence}
use Rattle.mdb_follow.specs.Runs.{IsReached}
use Rattle.mdb_surveyor.proofs.Leading.{carried}
use Rattle.mdb_surveyor.proofs.Asked.{one_asked}
use Rattle.mdb_surveyor.proofs.Standing.{OneActList}

-- any first rows of reached ones are reached
abbrev pub Fronts : Type 0
Fronts = (scope : Scope) (rows more : List Event) → IsReached scope (rows ++ more)
    → IsReached scope rows

-- what the laws of acts and runs say
pub record RunLaws : Type 0 where
  pub one : OneActList
  pub fronts : Fronts
  pub one_report : (scope : Scope) (rows : List Event) (a b : Report) → IsReport scope rows a
      → IsReport scope rows b → a ≡ b
  pub one_offence : (scope : Scope) (rows : List Event) (row : Event) (a b : Offence)
      → IsOffence scope rows row a → IsOffence scope rows row b → a ≡ b

-- two places in a list are one, or one comes first
data Places (one other : List Event) (row last : Event) (rest tail : List Event) : Type 0 where
  alike : one ≡ other → row ≡ last → rest ≡ tail → Places one other row last rest tail
  comes_first : (between : List Event) → other ≡ one ++ row ∷ between
      → rest ≡ between ++ last ∷ tail → Places one other row last rest tail
  comes_later : (between : List Event) → one ≡ other ++ last ∷ between
      → tail ≡ between ++ row ∷ rest → Places one other row last rest tail

places : (one other : List Event) (row last : Event) (rest tail : List Event)
    → one ++ row ∷ rest ≡ other ++ last ∷ tail → Places one other row last rest tail
places [] [] row last rest tail e = alike refl (cc) (cc)
places [] (x ∷ other) row last rest tail e = comes_first other (cc) (cc)
places (x ∷ one) [] row last rest tail e = comes_later one (cc) (cc)
places (x ∷ one) (y ∷ other) row last rest tail e = by (places one other row last rest tail cc)
  where
    by : Places one other row last rest tail → Places (x ∷ one) (y ∷ other) row last rest tail
    by (alike fronts rows rests) = alike (cc) rows rests
    by (comes_first between front rests) = comes_first between (cc) rests
    by (comes_later between front rests) = comes_later between (cc) rests

-- two leads come to the same
abbrev AreAlike : List Ended → List Ended → List Event → List Event → StretchStart → StretchStart
    → Type 0
AreAlike one other running left place at =
    (one ≡ other) × (running ≡ left) × (place ≡ at)

module _ (laws : RunLaws) where
  -- the rows of a stretch that a row ends don't go on by it
  stops : (running left : List Event) (place at : StretchStart) (row : Event) (more : List Event)
      (it : Ended) (next : StretchStart) → running ≡ left → place ≡ at
      → EndsBy at left row it next → IsReached place.scope (running ++ row ∷ more) → ⊥
  stops running left place at row more it next same_rows same_place ends reached =
      ends.is.not_reached (laws.fronts at.scope (left ++ row ∷ []) more
      (rw append_assoc (rw (same_rows, same_place) at reached)))

  -- a row ends a stretch in one way
  ended_alike : (from : StretchStart) (before : List Event) (row : Event) (it also : Ended)
      (place at : StretchStart) → EndsBy from before row it place → EndsBy from before row also at
      → (it ≡ also) × (place ≡ at)
  ended_alike from before row it also place at p q =
      let report = laws.one_report from.scope before _ _ p.stretch.is q.stretch.is in
      let offence = laws.one_offence from.scope before row _ _ p.is q.is in
      let pieces = laws.one from.scope before p.pieces q.pieces p.act_list q.act_list in
      let stretch : it.stretch ≡ also.stretch =
      p.stretch.begins ∙ ap (stretch_at from) report ∙ sym q.stretch.begins in
      let fault : it.fault ≡ also.fault =
      p.row_is ∙ ap (fault_at from) offence ∙ sym q.row_is in
      let asked = one_asked q.offence.rule (open_block (position_of from.scope q.pieces)) p.asked
      q.asked (rw (offence, pieces) at p.asked_is) q.asked_is in
      (rw (stretch, fault) refl, p.on ∙ rw (offence, pieces, asked) refl ∙ sym q.on)

  -- any rows that lead over these faults to reached ones lead over no others
  abbrev AreOnly : StretchStart → List Ended → Type 0
  AreOnly start one = (other : List Ended) (rows running left : List Event)
      (place at : StretchStart) → LeadFrom start rows one running place
      → LeadFrom start rows other left at → IsReached place.scope running
      → IsReached at.scope left → AreAlike one other running left place at

  module _ (start : StretchStart) where
    only_none : AreOnly start []
    only_none [] rows running left place at p q reached also =
        (refl, sym p.0 ∙ q.0, p.1 ∙ sym q.1)
    only_none (it ∷ earlier) rows running left place at p q reached also =
        let all = rw (p.1, sym p.0 ∙ q.parts) at reached in
        let before = only_none earlier q.front q.front q.before start q.from (refl, refl) q.lead
        (laws.fronts start.scope q.front (q.row ∷ left) all) q.ends.is.reached in
        absurd (stops q.front q.before start q.from q.row left it at before.1 before.2 q.ends all)

    only_more : (it : Ended) (earlier : List Ended) → AreOnly start earlier
        → AreOnly start (it ∷ earlier)
    only_more it earlier only [] rows running left place at p q reached also =
        let none = only_none (it ∷ earlier) rows left running at place q p also reached in
        (sym none.0, sym none.1, sym none.2)
    only_more it earlier only (that ∷ others) rows running left place at p q reached also =
        elim (places p.front q.front p.row q.row running left (sym p.parts ∙ q.parts)) [
          | alike fronts same_row rests ↦
              let before = only others q.front p.before q.before p.from q.from
              (rw fronts at p.lead) q.lead p.ends.is.reached q.ends.is.reached in
              let ends = ended_alike q.from q.before q.row it that place at
              (rw (before.2, before.1, same_row) at p.ends) q.ends in
              (rw (ends.0, before.0) refl, rests, ends.1)
          | comes_first between front rests ↦
              let all = rw rests at reached in
              let before = only_more it earlier only others q.front between q.before place q.from
              (carried p p.front p.lead front) q.lead
              (laws.fronts place.scope between (q.row ∷ left) all) q.ends.is.reached in
              absurd (stops between q.before place q.from q.row left that at before.1 before.2
              q.ends all)
          | comes_later between front rests ↦
              let all = rw rests at also in
              let before = only (that ∷ others) p.front p.before between p.from at p.lead
              (carried q q.front q.lead front) p.ends.is.reached
              (laws.fronts at.scope between (p.row ∷ running) all) in
              absurd (stops between p.before at p.from p.row running it place (sym before.1)
              (sym before.2) p.ends all)
        ]

    only_these : (one : List Ended) → AreOnly start one
    only_these [] = only_none
    only_these (it ∷ earlier) = only_more it earlier (only_these earlier)

pub one_survey : RunLaws → (scope : Scope) (rows : List Event) (one other : List Ended)
    (last also : Stretch) → IsSurvey scope rows one last → IsSurvey scope rows other also
    → (one ≡ other) × (last ≡ also)
one_survey laws scope rows one other last also p q =
    let same = only_these laws (first_place scope) one other rows p.running q.running p.place
    q.place p.lead q.lead p.is.is.reached q.is.is.reached in
    let report = laws.one_report q.place.scope q.running last.report also.report
    (rw (same.2, same.1) at p.is.is) q.is.is in
    (same.0, p.is.begins ∙ rw (same.2, report) refl ∙ sym q.is.begins)

-- a survey with no fault is the report
pub no_fault : (scope : Scope) (rows : List Event) (last : Stretch) → IsSurvey scope rows [] last
    → IsReport scope rows last.report × (last ≡ stretch_at (first_place scope) last.report)
no_fault scope rows last on =
    (rw on.lead.0 (rw on.lead.1 at on.is.is), rw on.lead.1 at on.is.begins)

-- a fault of the first stretch has the offence's own number
own_number : (scope : Scope) (offence : Offence) → fault_at (first_place scope) offence ≡ offence
own_number scope offence =
    let made : ℕ → Offence = λ n. record offence { row = n } in
    let same : 0 + offence.row ≡ offence.row = omega arith in
    ap made same

-- the first fault is the offence of some row
pub fault_is : (scope : Scope) (rows : List Event) (ended : List Ended) (running : List Event)
    (place : StretchStart) (fault : Offence) → LeadFrom (first_place scope) rows ended running place
    → first_fault ended ≡ Some fault → HasOffence scope [] rows fault
fault_is scope rows [] running place fault on same = absurd (cc same)
fault_is scope rows (it ∷ []) running place fault on same =
    let offence : on.ends.offence ≡ fault =
    sym (own_number scope on.ends.offence)
    ∙ sym (rw on.lead.1 at on.ends.row_is) ∙ cc same in
    record {
      front = on.front;
      row = on.row;
      rest = running;
      parts = on.parts;
      is = rw (on.lead.0, ← offence) (rw on.lead.1 at on.ends.is);
    }
fault_is scope rows (it ∷ more ∷ earlier) running place fault on same =
    let before = fault_is scope on.front (more ∷ earlier) on.before on.from fault on.lead same in
    record {
      front = before.front;
      row = before.row;
      rest = before.rest ++ on.row ∷ running;
      parts = on.parts ∙ ap (λ rs. rs ++ on.row ∷ running) before.parts
          ∙ append_assoc before.front (before.row ∷ before.rest) (on.row ∷ running);
      is = before.is;
    }

-- faults have a first one
some_first : (it : Ended) (earlier : List Ended)
    → (fault : Offence) × (first_fault (it ∷ earlier) ≡ Some fault)
some_first it [] = (it.fault, refl)
some_first it (more ∷ earlier) = some_first more earlier

-- and it is the offence that the rows have
pub offence_is : Fronts → ((scope : Scope) (earlier rows : List Event) (a b : Offence)
    → HasOffence scope earlier rows a → HasOffence scope earlier rows b → a ≡ b)
    → (scope : Scope) (rows : List Event) (ended : List Ended) (last : Stretch) (offence : Offence)
    → IsSurvey scope rows ended last → HasOffence scope [] rows offence
    → first_fault ended ≡ Some offence
offence_is fronts one scope rows [] last offence on has =
    let all = rw (has.parts, ← append_assoc has.front (has.row ∷ []) has.rest) at
    (no_fault scope rows last on).0.reached in
    absurd (has.is.not_reached (fronts scope (has.front ++ has.row ∷ []) has.rest all))
offence_is fronts one scope rows (it ∷ earlier) last offence on has =
    let first = some_first it earlier in
    let is = fault_is scope rows (it ∷ earlier) on.running on.place first.0 on.lead first.1 in
    first.1 ∙ ap Some (one scope [] rows first.0 offence is has)

-- a surveyor has been fed these rows
pub record HasSurveyed (surveyor : Surveyor) (scope : Scope) (rows : List Event) (count : ℕ)
    : Type 0 where
  pub ended : List Ended
  pub stands : StandsFor surveyor scope rows ended
  pub counted : rows_of surveyor ≡ count

-- and one more
pub surveyed_more : (old new : Surveyor) (scope : Scope) (events : List Event) (i : ℕ)
    (event : Event) (result : Option Ended) → i < length events
    → event ≡ get_or events i event → HasSurveyed old scope (take i events) i
    → IfNone result ((scope : Scope) (rows : List Event) (ended : List Ended)
    → StandsFor old scope rows ended → StandsFor new scope (rows ++ event ∷ []) ended)
    → IfSome result (λ it. (scope : Scope) (rows : List Event) (ended : List Ended)
    → StandsFor old scope rows ended → StandsFor new scope (rows ++ event ∷ []) (it ∷ ended))
    → rows_of new ≡ rows_of old + 1 → HasSurveyed new scope (take (i + 1) events) (i + 1)
surveyed_more old new scope events i event None within item has taken ends counted = record {
  ended = has.ended;
  stands = rw (take_more events i event within, ← item)
      (taken scope (take i events) has.ended has.stands);
  counted = omega (arith, counted, has.counted);
}
surveyed_more old new scope events i event (Some it) within item has taken ends counted = record {
  ended = it ∷ has.ended;
  stands = rw (take_more events i event within, ← item)
      (ends scope (take i events) has.ended has.stands);
  counted = omega (arith, counted, has.counted);
}
