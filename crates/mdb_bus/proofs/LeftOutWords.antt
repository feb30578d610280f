-- What is said where further devices are left out: the words of a piece that stays, and those of
-- one that becomes foreign acts.
use Rattle.mdb_bus.proofs.Words.{[], All, AllByRecursion, ap, arith, begin_left_out, BlockMayCome, Break, Controller, controller_words, Device, Event, false, false_from_ne_true, ForeignMayCome, has, InForeign, inl, inr, is_to_one_of, IsByte, IsForeign, IsForeignOpening, IsForeignWord, le-leb, LeavesOutMore, List, nat_le, needed_by, needed_in, None, NotBefore, Option, Peripheral, Position, profile_of, recursion_from_All, refl, rest_after, said_by, Say, Scope, slice_index, Some, subst, sym, true, Word, WORD_GAP_MIN, ℕ, ◌+◌, ◌-◌, ◌<◌, ◌∙◌, ◌∷◌, ◌≡◌}
use Rattle.mdb_msgs.specs.Needs.{device_at}
use Rattle.mdb_bus.proofs.Followed.{AreFollowed, needed_followed}
use Rattle.mdb_bus.proofs.Lists.{heard, begins_block}

-- events are foreign words
abbrev pub AreForeignWords : List Event → Type 0
AreForeignWords [] = Unit {0}
AreForeignWords (event ∷ events) = IsForeignWord event × AreForeignWords events

-- the controller's words after the first of a block are foreign words
pub low_words : (bytes : List ℕ) (events : List Event) → AllByRecursion IsByte bytes
    → Say Controller bytes events → AreForeignWords events
low_words bytes [] low says = tt
low_words [] (event ∷ events) low says = cc
low_words (byte ∷ bytes) (event ∷ events) low says =
    let is = heard event Controller byte (cc) in
    (rw is.1 low.0, low_words bytes events low.1 (cc))

-- and so are all words of a peripheral
pub peripheral_foreign : (words : List ℕ) (events : List Event) → Say Peripheral words events
    → AreForeignWords events
peripheral_foreign words [] says = tt
peripheral_foreign [] (event ∷ events) says = cc
peripheral_foreign (word ∷ words) (event ∷ events) says =
    let is = heard event Peripheral word (cc) in
    (rw is.1 tt, peripheral_foreign words events (cc))

-- an answer of the controller is a foreign word
pub answer_foreign : (word : ℕ) (events : List Event) → word < 256
    → Say Controller (word ∷ []) events → AreForeignWords events
answer_foreign word events low says = low_words (word ∷ []) events (low, tt) says

-- whose block events begin is told by the byte of their first word
begin_to : (scope : Scope) (byte : ℕ) (bytes : List ℕ) (events : List Event)
    → Say Controller ((256 + byte) ∷ bytes) events
    → begin_left_out scope events ≡ is_to_one_of scope.without byte
begin_to scope byte bytes [] says = cc
begin_to scope byte bytes (event ∷ events) says =
    let is = heard event Controller (256 + byte) (cc) in
    let marked : nat_le 256 (256 + byte) ≡ true = le-leb 256 (256 + byte) (omega arith) in
    let rest : 256 + byte - 256 ≡ byte = omega arith in
    rw is.1 (rw (marked, rest))

-- a word waits for another no less than for a break
pub word_waits : (from : Option Event) (to : Event) → NotBefore WORD_GAP_MIN from to
    → NotBefore (rest_after from) from to
word_waits None to late = tt
word_waits (Some (Word at line word)) to late = late
word_waits (Some (Break at length)) to late = omega (arith, late)

module _ (less more : Scope) (wider : LeavesOutMore less more) where
  -- what is followed without further devices is followed with them, by its first byte
  to_more : (first : ℕ) → is_to_one_of more.without first ≡ false
      → is_to_one_of less.without first ≡ false
  to_more first none = by_device (device_at first) none
    where
      by_device : (device : Option Device)
          → (elim device [ Some device ↦ has more.without device | None ↦ false ]) ≡ false
          → (elim device [ Some device ↦ has less.without device | None ↦ false ]) ≡ false
      by_device (Some device) followed = false_from_ne_true (has less.without device)
          (λ out. let also = wider.left_out device out in cc)
      by_device None followed = refl

  -- bytes to a device that stays followed need what they needed
  same_need : (bytes : List ℕ) → AreFollowed more bytes
      → needed_in less bytes ≡ needed_in more bytes
  same_need bytes followed =
      needed_followed less bytes (to_more (slice_index bytes 0) followed)
      ∙ (ap (λ begins. needed_by (profile_of begins) bytes) wider.begins
      ∙ sym (needed_followed more bytes followed))

  -- so what opened a foreign block opens one
  opening_stays : (bytes : List ℕ) → AreFollowed more bytes → IsForeignOpening less bytes
      → IsForeignOpening more bytes
  opening_stays (first ∷ []) followed opening = sym (same_need (first ∷ []) followed) ∙ opening
  opening_stays (first ∷ second ∷ []) followed opening =
      let one = same_need (first ∷ []) followed in
      let two = same_need (first ∷ second ∷ []) followed in
      (sym one ∙ opening.0, sym two ∙ opening.1, opening.2)
  opening_stays bytes followed opening = absurd opening

  -- a foreign act that doesn't begin a block to a device that is left out is foreign as it was
  pub foreign_stays : (events : List Event) → begin_left_out more events ≡ false
      → IsForeign less events → IsForeign more events
  foreign_stays events kept (inl ([], opening, says)) = absurd opening
  foreign_stays events kept (inl (byte ∷ bytes, opening, says)) =
      let followed : AreFollowed more (byte ∷ bytes) =
      sym (begin_to more byte bytes events says) ∙ kept in
      inl (byte ∷ bytes, opening_stays (byte ∷ bytes) followed opening, says)
  foreign_stays events kept (inr further) = inr further

-- The first event of a piece and the others, as foreign acts where the bus is.
pub record Becomes (scope : Scope) (position : Position) (from : Option Event) (first : Event)
    (others : List Event) : Type 0 where
  pub act : IsForeign scope (first ∷ [])
  pub comes : ForeignMayCome (profile_of scope.begins) position from first
  pub words : AreForeignWords others

module _ (scope : Scope) (position : Position) (from : Option Event) (first : Event)
    (others : List Event) where
  -- a block to a device that is left out opens foreign traffic by its first word
  first_opens : (byte : ℕ) (rest : List ℕ) → is_to_one_of scope.without byte ≡ true
      → AllByRecursion IsByte rest → Say Controller ((256 + byte) ∷ rest) (first ∷ others)
      → ForeignMayCome (profile_of scope.begins) position from first
      → Becomes scope position from first others
  first_opens byte rest out low says comes =
      let one : said_by first ≡ Some (Controller, 256 + byte) = cc in
      record {
        act = inl (byte ∷ [], rw out refl, ap (λ s. s ∷ []) one);
        comes = comes;
        words = low_words rest others low (cc);
      }

  pub as_block : (bytes : List ℕ) → is_to_one_of scope.without (slice_index bytes 0) ≡ true
      → All IsByte bytes → Say Controller (controller_words bytes) (first ∷ others)
      → BlockMayCome (profile_of scope.begins) position from first
      → Becomes scope position from first others
  as_block [] out low says comes = cc
  as_block (byte ∷ rest) out low says comes =
      first_opens byte rest out (recursion_from_All IsByte (byte ∷ rest) low).1 says
      (inl (begins_block (byte ∷ rest) first others (λ none. cc) says, comes))

  -- words inside foreign traffic are foreign words
  pub as_words : AreForeignWords (first ∷ others) → position ≡ InForeign
      → NotBefore WORD_GAP_MIN from first → Becomes scope position from first others
  as_words words here late = record {
    act = inr (first, refl, words.0);
    comes = inr (words.0, here, word_waits from first late);
    words = words.1;
  }

  -- a foreign act that begins a block to such a device is one for each of its words
  pub as_foreign : (less : Scope) → begin_left_out scope (first ∷ others) ≡ true
      → IsForeign less (first ∷ others)
      → ForeignMayCome (profile_of scope.begins) position from first
      → Becomes scope position from first others
  as_foreign less out (inl (byte ∷ [], opening, says)) comes =
      first_opens byte [] (sym (begin_to scope byte [] (first ∷ others) says) ∙ out) tt says comes
  as_foreign less out (inl (byte ∷ next ∷ [], opening, says)) comes =
      first_opens byte (next ∷ []) (sym (begin_to scope byte (next ∷ []) (first ∷ others) says)
      ∙ out) (opening.2, tt) says comes
  as_foreign less out (inl (bytes, opening, says)) comes = absurd opening
  as_foreign less out (inr (event, is, word)) comes =
      let same : event ≡ first = cc in
      let alone : [] ≡ others = cc in record {
        act = inr (first, refl, rw same at word);
        comes = comes;
        words = subst AreForeignWords alone tt;
      }
