-- However rows are cut into slices, the same is told of them: a list of rows has one offence, since
-- no two places in it end at one.
use Rattle.mdb_follow.proofs.Words.{IsOffence, IsReached, sym, ap, refl, ◌∙◌, ◌≡◌, ◌⊎◌, inl, inr, List, [], ◌∷◌, ◌++◌, append_assoc, append-nil, Result, Ok, Err, Event, Offence, Report, HasOffence, IsReport, Scope}
use Rattle.mdb_follow.specs.Slices.{AnswersRows, AnswersInSlices, joined}

-- a list that goes on after a front and a row of another
record Longer (front : List Event) (row : Event) (other : List Event) : Type 0 where
  more : List Event
  is : other ≡ front ++ row ∷ more

-- a place in rows after a slice of them: what stands between the slice and the place
record After (slice more front : List Event) (row : Event) (rest : List Event) : Type 0 where
  between : List Event
  front_is : front ≡ slice ++ between
  more_is : more ≡ between ++ row ∷ rest

-- a place in two lists joined is one in the first or one in the second
parted : (slice more front : List Event) (row : Event) (rest : List Event)
    → slice ++ more ≡ front ++ row ∷ rest → Longer front row slice ⊎ After slice more front row rest
parted [] more front row rest same =
    inr (record { between = front; front_is = refl; more_is = same })
parted (x ∷ slice) more [] row rest same = inl (record { more = slice; is = cc })
parted (x ∷ slice) more (y ∷ front) row rest same = elim (parted slice more front row rest cc) [
  | inl longer ↦ inl (record { more = longer.more; is = cc longer.is })
  | inr place ↦ inr (record {
    between = place.between;
    front_is = cc place.front_is;
    more_is = place.more_is;
  })
]

-- two places in one list: they are one, or either comes first
places : (one other : List Event) (row last : Event) (rest tail : List Event)
    → one ++ row ∷ rest ≡ other ++ last ∷ tail
    → ((one ≡ other) × (row ≡ last)) ⊎ (Longer one row other ⊎ Longer other last one)
places [] [] row last rest tail same = inl (refl, cc)
places [] (x ∷ other) row last rest tail same = inr (inl (record { more = other; is = cc }))
places (x ∷ one) [] row last rest tail same = inr (inr (record { more = one; is = cc }))
places (x ∷ one) (y ∷ other) row last rest tail same =
    elim (places one other row last rest tail cc) [
      | inl both ↦ inl (cc both.0, both.1)
      | inr (inl longer) ↦ inr (inl (record { more = longer.more; is = cc longer.is }))
      | inr (inr longer) ↦ inr (inr (record { more = longer.more; is = cc longer.is }))
    ]

-- no row stands in an empty list
not_empty : (front : List Event) (row : Event) (rest : List Event) → [] ≡ front ++ row ∷ rest → ⊥
not_empty [] row rest same = cc
not_empty (x ∷ front) row rest same = cc

abbrev pub Fronts : (scope : Scope) → Type 0
Fronts scope = (rows more : List Event) → IsReached scope (rows ++ more) → IsReached scope rows

module _ (scope : Scope) where
  -- the offence of a list is one of each list that goes on after its row
  at_front : (earlier rows : List Event) (o : Offence) (p : HasOffence scope earlier rows o)
      (other : List Event) → Longer p.front p.row other → HasOffence scope earlier other o
  at_front earlier rows o p other longer = record {
    front = p.front;
    row = p.row;
    rest = longer.more;
    parts = longer.is;
    is = p.is;
  }

  -- what is told of slices is told of the whole
  pub whole : (earlier : List Event) (slices : List (List Event)) (answer : Result Report Offence)
      → AnswersInSlices scope earlier slices answer
      → AnswersRows scope earlier (joined slices) answer
  whole earlier [] (Ok report) told = rw append-nil told
  whole earlier [] (Err offence) told = absurd told
  whole earlier (slice ∷ slices) (Ok report) told =
      rw append_assoc at (whole (earlier ++ slice) slices (Ok report) told.1)
  whole earlier (slice ∷ slices) (Err offence) (inl p) = at_front earlier slice offence p _
      (record { more = p.rest ++ joined slices; is = rw (p.parts, append_assoc) })
  whole earlier (slice ∷ slices) (Err offence) (inr told) =
      let p = whole (earlier ++ slice) slices (Err offence) told.1 in
      record {
        front = slice ++ p.front;
        row = p.row;
        rest = p.rest;
        parts = rw (p.parts, append_assoc);
        is = rw append_assoc at p.is;
      }

  module _ (fronts : Fronts scope) where
    -- and what is told of the whole is told of the slices
    pub in-slices : (earlier : List Event) (slices : List (List Event))
        (answer : Result Report Offence) → AnswersRows scope earlier (joined slices) answer
        → AnswersInSlices scope earlier slices answer
    in-slices earlier [] (Ok report) told = rw append-nil at told
    in-slices earlier [] (Err offence) told = not_empty told.front told.row told.rest told.parts
    in-slices earlier (slice ∷ slices) (Ok report) told =
        let longer : IsReport scope ((earlier ++ slice) ++ joined slices) report =
        rw append_assoc told in (
          fronts (earlier ++ slice) (joined slices) longer.reached,
          in-slices (earlier ++ slice) slices (Ok report) longer,
        )
    in-slices earlier (slice ∷ slices) (Err offence) told =
        elim (parted slice (joined slices) told.front told.row told.rest told.parts) [
          | inl longer ↦ inl (at_front earlier _ offence told slice longer)
          | inr place ↦
              let is : IsOffence scope ((earlier ++ slice) ++ place.between) told.row offence =
              rw append_assoc (rw place.front_is at told.is) in
              let later : HasOffence scope (earlier ++ slice) (joined slices) offence = record {
                front = place.between;
                row = told.row;
                rest = told.rest;
                parts = place.more_is;
                is = is;
              } in
              inr (
                fronts (earlier ++ slice) place.between is.reached,
                in-slices (earlier ++ slice) slices (Err offence) later,
              )
        ]

    -- rows after a row that isn't reached aren't either
    later : (earlier rows : List Event) (o : Offence) → HasOffence scope earlier rows o
        → IsReached scope (earlier ++ rows) → ⊥
    later earlier rows o p reached =
        p.is.not_reached (fronts ((earlier ++ p.front) ++ p.row ∷ []) p.rest
        (simp append_assoc (rw p.parts at reached)))

    pub one-of-rows : ((rows : List Event) (row : Event) (a b : Offence)
        → IsOffence scope rows row a → IsOffence scope rows row b → a ≡ b)
        → (earlier rows : List Event) (a b : Offence) → HasOffence scope earlier rows a
        → HasOffence scope earlier rows b → a ≡ b
    one-of-rows one earlier rows a b p q =
        elim (places p.front q.front p.row q.row p.rest q.rest (sym p.parts ∙ q.parts)) [
          | inl same ↦ one (earlier ++ q.front) q.row a b (rw (same.0, same.1) at p.is) q.is
          | inr (inl longer) ↦ absurd (later earlier q.front a
              (at_front earlier rows a p q.front longer) q.is.reached)
          | inr (inr longer) ↦ absurd (later earlier p.front b
              (at_front earlier rows b q p.front longer) p.is.reached)
        ]

    -- one answer is told of rows
    pub one-answer : ((rows : List Event) (a b : Report) → IsReport scope rows a
        → IsReport scope rows b → a ≡ b)
        → ((earlier rows : List Event) (a b : Offence) → HasOffence scope earlier rows a
        → HasOffence scope earlier rows b → a ≡ b)
        → (earlier rows : List Event) (a b : Result Report Offence)
        → AnswersRows scope earlier rows a → AnswersRows scope earlier rows b → a ≡ b
    one-answer reports offences earlier rows (Ok a) (Ok b) p q =
        ap Ok (reports (earlier ++ rows) a b p q)
    one-answer reports offences earlier rows (Err a) (Err b) p q =
        ap Err (offences earlier rows a b p q)
    one-answer reports offences earlier rows (Ok a) (Err b) p q =
        absurd (later earlier rows b q p.reached)
    one-answer reports offences earlier rows (Err a) (Ok b) p q =
        absurd (later earlier rows a p q.reached)
