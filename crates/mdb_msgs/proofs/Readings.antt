-- The readings of a reader's messages.
use Rattle.mdb_msgs.proofs.Words.{◌≡◌, length, take, cases_Bool, list_any, Ids, Reading, ReaderMsg, Stand, own_ids, allows, takes_options, ℕ, ◌+◌, ◌/◌, ◌<◌, ◌==◌, inl, inr, if◌then◌else◌, Bool, true, false, ◌||◌, List, [], ◌∷◌, ◌++◌, refl, ap, ◌∙◌, get_or, take_more, JustReset, PeripheralId, PeripheralIdWithOptions, BeginSession, OutOfSequence, TimeAsked, ReaderMessages, has_long, ids_of, reader_msg_bytes, reading_of, session_bytes, wider, AreReaderMsgs, IsReaderMsg, IsTextOf, arith}
use Rattle.mdb_msgs.specs.declared.reading.Ids.TheVariants.{Bare, ByNext, Full}

pub or_parts : (a b : Bool) → (a || b) ≡ false → (a ≡ false) × (b ≡ false)
or_parts true b h = absurd (cc)
or_parts false b h = (refl, h)

pub or_first : (a b : Bool) → (a || b) ≡ true → a ≡ false → b ≡ true
or_first true b h e = absurd (cc)
or_first false b h e = h

or_second : (a : Bool) {b : Bool} → b ≡ true → (a || b) ≡ true
or_second true h = refl
or_second false h = h

-- how many bytes 03 has after its first
pub short_bytes : (r : Reading) → r.is_long ≡ false → session_bytes r ≡ 2
short_bytes r h = rw h

pub long_bytes : (r : Reading) → r.is_long ≡ true → session_bytes r ≡ 9
long_bytes r h = rw h

-- ---- how identifications are read

-- the one allows no options that the other doesn't
abbrev Narrower : Ids → Ids → Type 0
Narrower a b = (next : ℕ) → allows a next ≡ true → allows b next ≡ true

first_narrower : (a b : Ids) → Narrower a (wider a b)
first_narrower ByNext Full next is = refl
first_narrower a b next is = cc is

second_narrower : (a b : Ids) → Narrower b (wider a b)
second_narrower ByNext Full next is = is
second_narrower a b next is = cc is

both_narrower : (a b c : Ids) → Narrower a c → Narrower b c → Narrower (wider a b) c
both_narrower ByNext Full c one other = other
both_narrower Bare b c one other = other
both_narrower a b c one other = one

-- options are allowed by what they ask for, which is the least that allows them
asked_for : (next : ℕ) → allows (if next == 0 then ByNext else Full) next ≡ true
asked_for next = elim (cases_Bool (next == 0)) [ inl e ↦ rw e e | inr e ↦ rw e refl ]

least_asked : (ids : Ids) (next : ℕ) → allows ids next ≡ true
    → Narrower (if next == 0 then ByNext else Full) ids
least_asked Bare next is = absurd (cc is)
least_asked ByNext next is = λ other e. rw is at e
least_asked Full next is = λ other e. refl

-- where the one takes no options, a narrower one doesn't
fewer : (a b : Ids) (after : List ℕ) → Narrower a b → takes_options b after ≡ false
    → takes_options a after ≡ false
fewer a b (first ∷ second ∷ third ∷ fourth ∷ rest) narrower none =
    elim (cases_Bool (allows a first)) [
      | inl e ↦ absurd (cc (narrower first e, none))
      | inr e ↦ e
    ]
fewer a b after narrower none = refl

-- what messages ask for, with one more
wider_all : (a b c : Ids) → wider a (wider b c) ≡ wider (wider a b) c
wider_all ByNext ByNext Full = refl
wider_all a b c = refl

wider_bare : (a : Ids) → wider a Bare ≡ a
wider_bare Full = refl
wider_bare a = refl

pub own_more : (ms : List ReaderMsg) (m : ReaderMsg)
    → own_ids (ms ++ m ∷ []) ≡ wider (own_ids ms) (ids_of m)
own_more [] m = wider_bare (ids_of m)
own_more (first ∷ ms) m = ap (wider (ids_of first)) (own_more ms m)
    ∙ wider_all (ids_of first) (own_ids ms) (ids_of m)

pub own_next : (ms : List ReaderMsg) (i : ℕ) (ids : Ids) → i < length ms
    → ids ≡ own_ids (take i ms)
    → wider ids (ids_of (get_or ms i JustReset)) ≡ own_ids (take (i + 1) ms)
own_next ms i ids below e =
    rw (take_more ms i JustReset below, own_more (take i ms) (get_or ms i JustReset), e) refl

-- ---- messages of a reading are of a narrower one that has them

abbrev Standing : Reading → List ℕ → List ℕ → List ReaderMsg → List ℕ → Type 0
Standing r id text ms tail = Stand (reader_msg_bytes id text) (IsReaderMsg r id text) ms tail

module _ (r own : Reading) (longer : own.is_long ≡ true → r.is_long ≡ true)
    (narrower : Narrower own.ids r.ids) where
  short : r.is_long ≡ false → own.is_long ≡ false
  short e =
      elim (cases_Bool own.is_long) [ inl long ↦ absurd (cc (longer long, e)) | inr other ↦ other ]

  one_in : (m : ReaderMsg) (text rest : List ℕ) → (has_long m ≡ true → own.is_long ≡ true)
      → Narrower (ids_of m) own.ids → IsTextOf r m text rest → IsTextOf own m text rest
  one_in PeripheralId text rest long asked is =
      (is.0, fewer own.ids r.ids rest narrower is.1)
  one_in (PeripheralIdWithOptions options) text rest long asked is =
      (is.0, is.1, asked _ (asked_for (options / 65536 / 256)))
  one_in (BeginSession funds) text rest long asked is = (is.0, short is.1)
  one_in OutOfSequence text rest long asked is =
      (is.0, elim is.1 [ inl e ↦ inl (short e) | inr none ↦ inr none ])
  one_in m text rest long asked is = search (long, is)

  all_in : (id text : List ℕ) (ms : List ReaderMsg) (tail : List ℕ)
      → (list_any has_long ms ≡ true → own.is_long ≡ true) → Narrower (own_ids ms) own.ids
      → Standing r id text ms tail → Standing own id text ms tail
  all_in id text [] tail long asked stand = tt
  all_in id text (m ∷ ms) tail long asked stand = (
    one_in m _ _ (λ e. long (ap (λ b. b || list_any has_long ms) e))
        (λ next is. asked next (first_narrower (ids_of m) (own_ids ms) next is)) stand.0,
    all_in id text ms tail (λ e. long (or_second (has_long m) e))
        (λ next is. asked next (second_narrower (ids_of m) (own_ids ms) next is)) stand.1,
  )

module _ (r : Reading) where
  -- a message of feature levels 2 and 3 stands in their reading alone
  one_is_long : (m : ReaderMsg) (text rest : List ℕ) → has_long m ≡ true
      → IsTextOf r m text rest → r.is_long ≡ true
  one_is_long TimeAsked text rest long is = is.1
  one_is_long m text rest long is = grind arith

  -- and what it asks for is allowed
  one_asks : (m : ReaderMsg) (text rest : List ℕ) → IsTextOf r m text rest
      → Narrower (ids_of m) r.ids
  one_asks (PeripheralIdWithOptions options) text rest is = least_asked r.ids _ is.2
  one_asks m text rest is = λ next no. absurd (cc no)

  module _ (id text tail : List ℕ) where
    long_says : (ms : List ReaderMsg) → Standing r id text ms tail → list_any has_long ms ≡ true
        → r.is_long ≡ true
    long_says [] stand some = absurd (cc)
    long_says (m ∷ ms) stand some =
        elim (cases_Bool (has_long m)) [
          | inl e ↦ one_is_long m _ _ e stand.0
          | inr e ↦ long_says ms stand.1 (or_first (has_long m) (list_any has_long ms) some e)
        ]

    ids_say : (ms : List ReaderMsg) → Standing r id text ms tail → Narrower (own_ids ms) r.ids
    ids_say [] stand = λ next no. absurd (cc no)
    ids_say (m ∷ ms) stand = both_narrower (ids_of m) (own_ids ms) r.ids
        (one_asks m _ _ stand.0) (ids_say ms stand.1)

  -- messages of a reading are of the one that they are kept in
  pub in_own : (list : ReaderMessages) → AreReaderMsgs r list []
      → AreReaderMsgs (reading_of list.messages) list []
  in_own list stand =
      all_in r (reading_of list.messages) (long_says list.id list.text [] list.messages stand)
      (ids_say list.id list.text [] list.messages stand) list.id list.text list.messages []
      (λ e. e) (λ next e. e) stand
