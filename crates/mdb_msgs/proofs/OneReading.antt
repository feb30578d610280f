-- Bytes have one reading as a list of messages.
use Rattle.mdb_msgs.proofs.Words.{◌≡◌, flat_map, AllByRecursion, nat_tests, MsgFault, BillMsg, ChangerMsg, bill_msg_bytes, IsBillMsg, NoBillMsg, changer_msg_bytes, IsChangerMsg, NoChangerMsg, StopsAt, ℕ, ◌-◌, ◌/◌, ◌%◌, ◌⊎◌, inl, inr, nat_lt, nat_le, ◌&&◌, ◌||◌, not, Option, Some, None, Result, Ok, Err, nat_eq, if◌then◌else◌, Bool, List, [], ◌∷◌, ◌++◌, refl, sym, ap, ◌∙◌, arith, append-nil, subst, append_cancel_left}
use Rattle.mdb_msgs.proofs.Standing.{NoEndBefore, OneBefore, one_standing, stand_all}

-- where messages end: nothing is left, or no message stands there
abbrev pub Ends : (List ℕ → MsgFault → Type 0) → List ℕ → Type 0
Ends No rest = (rest ≡ []) ⊎ ((fault : MsgFault) × No rest fault)

module _ {M : Type 0} (f : M → List ℕ) (Is : M → Type 0) (No : List ℕ → MsgFault → Type 0) where
  -- what stands at the front of bytes is found: a message, or a fault, or nothing
  pub record OneWay : Type 0 where
    find : List ℕ → Option (Result M MsgFault)
    none : find [] ≡ None
    found : (a : M) (x : List ℕ) → Is a → find (f a ++ x) ≡ Some (Ok a)
    blamed : (rest : List ℕ) (fault : MsgFault) → No rest fault → find rest ≡ Some (Err fault)

module _ {M : Type 0} {f : M → List ℕ} {Is : M → Type 0} {No : List ℕ → MsgFault → Type 0}
    (way : OneWay f Is No) where
  -- two lists of messages with the same bytes are one, and so is where reading stops
  pub one_list : (xs ys : List M) (p q : List ℕ) → AllByRecursion Is xs → AllByRecursion Is ys
      → flat_map f xs ++ p ≡ flat_map f ys ++ q → Ends No p → Ends No q → (xs ≡ ys) × (p ≡ q)
  one_list xs ys p q hs ks =
      one_standing f f (λ m x. Is m) (λ m x. Is m) (Ends No) one on on xs ys p q
      (stand_all f Is xs p hs) (stand_all f Is ys q ks)
    where
      one : OneBefore f f (λ m x. Is m) (λ m x. Is m)
      one a b x y ha hb e =
          let same : a ≡ b = cc (way.found a x ha, ap way.find e, way.found b y hb) in
          (same, append_cancel_left (f a) x y (e ∙ ap (λ m. f m ++ y) (sym same)))

      on : NoEndBefore f (λ m x. Is m) (Ends No)
      on m x h (inl e) = cc (way.found m x h, ap way.find e, way.none)
      on m x h (inr none) = cc (way.found m x h, way.blamed (f m ++ x) none.0 none.1)

  -- a list of messages isn't one where reading stops
  pub no_stop : (xs : List M) (fault : MsgFault) → AllByRecursion Is xs
      → StopsAt f Is No (flat_map f xs) fault → ⊥
  no_stop xs fault h stop =
      let one = one_list xs stop.0 [] stop.1 h stop.2 (append-nil (flat_map f xs) ∙ stop.3)
      (inl refl) (inr (fault, stop.4)) in
      cc (way.none, way.blamed [] fault (rw (← one.1) at stop.4))

  -- and reading stops with one fault
  pub one_stop : (bytes : List ℕ) (a b : MsgFault) → StopsAt f Is No bytes a
      → StopsAt f Is No bytes b → a ≡ b
  one_stop bytes a b h k =
      let one = one_list h.0 k.0 h.1 k.1 h.2 k.2 (sym h.3 ∙ k.3) (inr (a, h.4)) (inr (b, k.4)) in
      cc (way.blamed k.1 a (subst (λ x. No x a) one.1 h.4), way.blamed k.1 b k.4)

-- the changer's message that begins with these two bytes, if one does
unfoldable pub changer_front : ℕ → ℕ → ChangerMsg
changer_front b c =
    if nat_lt b 27 then (if nat_eq b 11 then ChangerMsg.Reset else ChangerMsg.Status b)
    else (if nat_lt b 64 then ChangerMsg.Slugs (b - 32)
    else (if nat_lt b 80 then ChangerMsg.CashBox (b - 64) c
    else (if nat_lt b 96 then ChangerMsg.Tube (b - 80) c
    else (if nat_lt b 128 then ChangerMsg.Rejected (b - 112) c
    else ChangerMsg.ManualDispense ((b - 128) / 16) (b % 16) c))))

changer_find : List ℕ → Option (Result ChangerMsg MsgFault)
changer_find [] = None
changer_find (b ∷ x) =
    if nat_lt b 64 then (if nat_lt b 32 && nat_le 27 b then Some (Err MsgFault.Profile)
    else Some (Ok (changer_front b 0)))
    else (if nat_lt b 112 && nat_le 96 b then Some (Err MsgFault.Message) else second x)
  where
    second : List ℕ → Option (Result ChangerMsg MsgFault)
    second [] = Some (Err MsgFault.Message)
    second (c ∷ x) = Some (Ok (changer_front b c))

changer_found : (m : ChangerMsg) (x : List ℕ) → IsChangerMsg m
    → changer_find (changer_msg_bytes m ++ x) ≡ Some (Ok m)
unfolding changer_find changer_front
changer_found ChangerMsg.Reset x h = refl
changer_found m x h = grind (arith, nat_tests)

changer_blamed : (rest : List ℕ) (fault : MsgFault) → NoChangerMsg rest fault
    → changer_find rest ≡ Some (Err fault)
unfolding changer_find
changer_blamed (b ∷ []) MsgFault.Message h = grind (arith, nat_tests)
changer_blamed (b ∷ c ∷ x) MsgFault.Message h = grind (arith, nat_tests)
changer_blamed rest fault h = grind (arith, nat_tests)

pub changer_way : OneWay changer_msg_bytes IsChangerMsg NoChangerMsg
unfolding changer_find
changer_way = record {
  find = changer_find;
  none = refl;
  found = changer_found;
  blamed = changer_blamed;
}

-- the validator's message that is this byte, if one is
unfoldable pub bill_find : List ℕ → BillMsg
bill_find [] = BillMsg.Reset
bill_find (b ∷ x) =
    if nat_lt b 64 then (if nat_eq b 6 then BillMsg.Reset else BillMsg.Status b)
    else (if nat_lt b 96 then BillMsg.Attempts (b - 64)
    else (if nat_lt b 144 then BillMsg.Stacked (b - 128)
    else (if nat_lt b 160 then BillMsg.Escrow (b - 144)
    else (if nat_lt b 176 then BillMsg.Returned (b - 160)
    else (if nat_lt b 192 then BillMsg.Recycled (b - 176)
    else (if nat_lt b 208 then BillMsg.Rejected (b - 192)
    else BillMsg.RecyclerStatus b))))))

module _ (r : Bool) where
  bill_at : List ℕ → Option (Result BillMsg MsgFault)
  bill_at [] = None
  bill_at (b ∷ x) =
      if nat_lt b 128 && nat_le 96 b then Some (Err MsgFault.Message)
      else (if nat_lt b 32 && nat_le 27 b then Some (Err MsgFault.Profile)
      else (if (nat_le 208 b || nat_lt b 192 && nat_le 176 b) && not r
      then Some (Err MsgFault.Profile) else Some (Ok (bill_find (b ∷ [])))))

  bill_found : (m : BillMsg) (x : List ℕ) → IsBillMsg r m
      → bill_at (bill_msg_bytes m ++ x) ≡ Some (Ok m)
  unfolding bill_at bill_find
  bill_found BillMsg.Reset x h = refl
  bill_found (BillMsg.Recycled b) x h = grind (arith, nat_tests, h.0, h.1)
  bill_found (BillMsg.RecyclerStatus byte) x h = grind (arith, nat_tests, h.0, h.1)
  bill_found m x h = grind (arith, nat_tests)

  bill_blamed : (rest : List ℕ) (fault : MsgFault) → NoBillMsg r rest fault
      → bill_at rest ≡ Some (Err fault)
  unfolding bill_at
  bill_blamed (b ∷ x) MsgFault.Message h = grind (arith, nat_tests)
  bill_blamed rest fault h = grind (arith, nat_tests)

  pub bill_way : OneWay bill_msg_bytes (IsBillMsg r) (NoBillMsg r)
  unfolding bill_at
  bill_way = record { find = bill_at; none = refl; found = bill_found; blamed = bill_blamed }
