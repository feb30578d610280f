-- How rows lead over faults to the stretch that runs.
use Rattle.mdb_surveyor.proofs.Words.{arith, refl, ap, ◌∙◌, ◌≡◌, ◌+◌, List, [], ◌∷◌, ◌++◌, length, length-append, append_assoc, Event, Ended, GoesOnAfter, EndsBy, LeadFrom, StretchStart}

-- the same fault after other first rows, or before other last ones
pub carried : {Lead Other : List Event → List Event → StretchStart → Type 0}
    {rows others running left : List Event} {it : Ended} {place : StretchStart}
    (goes : GoesOnAfter Lead rows it running place) (front : List Event)
    → Other front goes.before goes.from → others ≡ front ++ goes.row ∷ left
    → GoesOnAfter Other others it left place
carried goes front lead parts = record {
  front = front;
  before = goes.before;
  from = goes.from;
  row = goes.row;
  lead = lead;
  parts = parts;
  ends = goes.ends;
}

module _ (start : StretchStart) where
  -- more rows of the stretch that runs
  pub lead_further : (rows : List Event) (ended : List Ended) (running : List Event)
      (place : StretchStart) (more : List Event) → LeadFrom start rows ended running place
      → LeadFrom start (rows ++ more) ended (running ++ more) place
  lead_further rows [] running place more lead = (rw lead.0 refl, lead.1)
  lead_further rows (it ∷ earlier) running place more goes = carried goes goes.front goes.lead
      (ap (λ l. l ++ more) goes.parts ∙ append_assoc goes.front (goes.row ∷ running) more)

  -- a row that ends it
  pub lead_on : (rows : List Event) (ended : List Ended) (running : List Event)
      (place : StretchStart) (row : Event) (it : Ended) (next : StretchStart)
      → LeadFrom start rows ended running place → EndsBy place running row it next
      → LeadFrom start (rows ++ row ∷ []) (it ∷ ended) [] next
  lead_on rows ended running place row it next lead ends = record {
    front = rows;
    before = running;
    from = place;
    row = row;
    lead = lead;
    parts = refl;
    ends = ends;
  }

  -- how many rows and faults there are
  pub lead_rows : (rows : List Event) (ended : List Ended) (running : List Event)
      (place : StretchStart) → LeadFrom start rows ended running place
      → start.rows + length rows ≡ place.rows + length running
  lead_rows rows [] running place lead = rw (lead.0, lead.1) refl
  lead_rows rows (it ∷ earlier) running place goes =
      let before = lead_rows goes.front earlier goes.before goes.from goes.lead in
      let on = ap (λ (p : StretchStart). p.rows) goes.ends.on in
      omega (
        arith,
        before,
        on,
        ap length goes.parts,
        length-append goes.front (goes.row ∷ running),
      )

  pub lead_faults : (rows : List Event) (ended : List Ended) (running : List Event)
      (place : StretchStart) → LeadFrom start rows ended running place
      → place.faults ≡ start.faults + length ended
  lead_faults rows [] running place lead = rw lead.1 (omega arith)
  lead_faults rows (it ∷ earlier) running place goes =
      let before = lead_faults goes.front earlier goes.before goes.from goes.lead in
      let on = ap (λ (p : StretchStart). p.faults) goes.ends.on in
      omega (arith, before, on)
