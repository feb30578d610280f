-- The lists of asks to a device, and its silences, where further devices are left out.
use Rattle.mdb_follow.proofs.Words.{rules, ap, cond, refl, sym, ◌∙◌, ◌≡◌, Bool, true, false, not, List, [], ◌∷◌, Some, sum_by-cons, AllByRecursion, count_by, Event, has, same_device, Device, is_one, Act, Beginning, Scope, ArePieces, Piece, Whole, acts_of, piece_events, device_in, is_left_out, leave_out, with_foreign, IsLeftOut, IsFollowed, TimedAsk, asks_of, counts_of, is_silence, limit_of, no_counts, false≢true, false_from_ne_true}
use Rattle.mdb_bus.specs.declared.act.Act.TheVariants as acts

differs : (b : Bool) → b ≡ not b → ⊥
differs true is = cc
differs false is = cc

-- acts of pieces name devices that are followed
abbrev pub NamesFollowed : Scope → Type 0
NamesFollowed scope = (act : Act) (events : List Event) (pieces : List Piece) (device : Device)
    → ArePieces scope (Whole act events ∷ pieces) → device_in act ≡ Some device
    → IsFollowed scope device

-- The limit of a device that is followed is the same without further devices, after any pieces.
abbrev pub LimitsStay : Beginning → Scope → Device → Type 0
LimitsStay begins scope device = (pieces : List Piece)
    → limit_of begins device (acts_of (leave_out scope pieces))
    ≡ limit_of begins device (acts_of pieces)

-- empty lists are no silences
abbrev AreEmpty : List (List TimedAsk) → Type 0
AreEmpty = AllByRecursion (λ list. list ≡ [])

none_among : (lists : List (List TimedAsk)) → AreEmpty lists → count_by is_silence lists ≡ 0
none_among [] empty = refl
none_among (list ∷ lists) empty =
    rw (sum_by-cons (λ list. cond (is_silence list) 1 0) list lists)
    (rw (empty.0, none_among lists empty.1))

module _ (begins : Beginning) (scope : Scope) where
  module _ (device : Device) where
    -- devices of which one is left out and one isn't are two
    two_devices : (is : Bool) → has scope.without device ≡ is → (other : Device)
        → has scope.without other ≡ not is → same_device device other ≡ false
    two_devices is holds other lacks = false_from_ne_true _ (λ same.
        differs is (sym holds ∙ ap (has scope.without) (is_one device other same) ∙ lacks))

    -- foreign acts leave the lists
    over_foreign : (events : List Event) (pieces : List Piece)
        → asks_of begins device (with_foreign events pieces) ≡ asks_of begins device pieces
    over_foreign [] pieces = refl
    over_foreign (event ∷ events) pieces =
        over_foreign events (Whole acts.Foreign (event ∷ []) ∷ pieces)

    module _ (followed : IsFollowed scope device) where
      -- and so does a piece of a device that is left out
      of_other : (piece : Piece) (pieces : List Piece) → is_left_out scope piece ≡ true
          → asks_of begins device (piece ∷ pieces) ≡ asks_of begins device pieces
      of_other (Whole (acts.Break length) events) pieces left = absurd (false≢true left)
      of_other (Whole act events) pieces left =
          let apart = two_devices false followed in search rules
      of_other piece pieces left = refl

      module _ (stay : LimitsStay begins scope device) where
        -- so the lists of a device that is followed are the same without further devices
        lists_stay : (pieces : List Piece)
            → asks_of begins device (leave_out scope pieces) ≡ asks_of begins device pieces
        lists_stay [] = refl
        lists_stay (piece ∷ pieces) =
            newest piece (is_left_out scope piece) refl (lists_stay pieces)
          where
            newest : (piece : Piece) (left : Bool) → is_left_out scope piece ≡ left
                → asks_of begins device (leave_out scope pieces) ≡ asks_of begins device pieces
                → asks_of begins device (cond left
                (with_foreign (piece_events piece) (leave_out scope pieces))
                (piece ∷ leave_out scope pieces)) ≡ asks_of begins device (piece ∷ pieces)
            newest piece true left earlier = over_foreign (piece_events piece) _ ∙ earlier
                ∙ sym (of_other piece pieces left)
            newest (Whole act events) false left earlier = rw (earlier, stay pieces)
            newest tail false left earlier = earlier

        -- and so is what is counted of them
        pub counts_stay : (pieces : List Piece)
            → counts_of (asks_of begins device (leave_out scope pieces))
            ≡ counts_of (asks_of begins device pieces)
        counts_stay pieces = ap counts_of (lists_stay pieces)

  module _ (names : NamesFollowed scope) (device : Device) (left : IsLeftOut scope device) where
    -- a device that is left out is never asked
    never_asked : (pieces : List Piece) → ArePieces scope pieces
        → AreEmpty (asks_of begins device pieces)
    never_asked [] are = (refl, tt)
    never_asked (Whole (acts.Break length) events ∷ pieces) are = (refl, never_asked pieces are.2)
    never_asked (Whole act events ∷ pieces) are =
        let earlier = never_asked pieces are.2 in
        let apart : (other : Device) → device_in act ≡ Some other
        → same_device device other ≡ false = λ other its.
        two_devices device true left other (names act events pieces other are its) in
        search rules
    never_asked (piece ∷ pieces) are = never_asked pieces are.2

    -- so nothing is counted of it
    pub nothing_counted : (pieces : List Piece) → ArePieces scope pieces
        → counts_of (asks_of begins device pieces) ≡ no_counts
    nothing_counted pieces are = rw (none_among _ (never_asked pieces are))
