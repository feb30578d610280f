-- How the lists of asks go on with the pieces, and silences with them.
use Rattle.mdb_follow.proofs.Words.{refl, ap, sym, ◌∙◌, ◌≡◌, inl, inr, ℕ, List, [], ◌∷◌, ◌++◌, Option, Some, None, Event, Device, First, Second, Act, Piece, Whole, acts_of, piece_events, IsTail, act_in, Beginning, PowerOn, Joined, Grown, reported_of, stands_for, TimedAsk, asks_of, last_start, limit_of, asks_after, limit_in}
use Rattle.mdb_words.specs.Event.{start_of}
use Rattle.mdb_msgs.specs.declared.command.Device.TheVariants as devices
use Rattle.mdb_cashless.specs.declared.by_profile.facts.KnownByProfile.{KnownByProfile}
use Rattle.mdb_bus.specs.declared.act.Act.TheVariants as acts
use Rattle.mdb_bus.specs.declared.scope.Profile.TheVariants as profiles

pub tail-acts : (tail : Piece) (pieces : List Piece) → IsTail tail
    → acts_of (tail ∷ pieces) ≡ acts_of pieces
tail-acts (Whole act events) pieces is = absurd is
tail-acts tail pieces is = refl

pub no-act : (piece : Piece) → act_in piece ≡ None → IsTail piece
no-act (Whole act events) none = cc
no-act tail none = tt

-- the pieces before the newest have what those that went on have, where tails have nothing
earlier-are : {X : Type 0} (of : List Piece → X) → ((tail : Piece) (pieces : List Piece)
    → IsTail tail → of (tail ∷ pieces) ≡ of pieces) → (pieces : List Piece) (row : Event)
    (act : Option Act) (longer : List Piece) (grown : Grown pieces row act longer)
    → of grown.earlier ≡ of pieces
earlier-are of tails pieces row act longer grown = elim grown.from [
  | inl alone ↦ ap of (sym alone.1)
  | inr on ↦ sym (tails on.0 grown.earlier on.1) ∙ ap of (sym on.3)
]

last-start : (events : List Event) (row : Event) → last_start (events ++ row ∷ []) ≡ start_of row
last-start [] row = refl
last-start (event ∷ []) row = refl
last-start (event ∷ next ∷ events) row = last-start (next ∷ events) row

-- an ask leaves the limit
same-limit : (begins : Beginning) (device : Device) (act : Act) (acts : List Act) (at : ℕ)
    (lists : List (List TimedAsk))
    → asks_after device act (record { at = at; limit = limit_of begins device acts }) lists
    ≡ asks_after device act (record { at = at; limit = limit_of begins device (act ∷ acts) }) lists
same-limit (PowerOn profiles.Base) (devices.Reader unit) (acts.Ask c) acts at lists = refl
same-limit (PowerOn profiles.Extended) (devices.Reader unit) (acts.Ask c) acts at lists = refl
same-limit (Joined setups profiles.Base) (devices.Reader unit) (acts.Ask c) acts at lists = refl
same-limit (Joined setups profiles.Extended) (devices.Reader unit) (acts.Ask c) acts at lists =
    refl
same-limit begins device act acts at lists = refl

-- what is known of the readers has the limits of its acts
limit-is : (begins : Beginning) (device : Device) (first second : KnownByProfile) (acts : List Act)
    → stands_for begins (devices.Reader First) first acts
    → stands_for begins (devices.Reader Second) second acts
    → limit_of begins device acts ≡ limit_in first second device
limit-is begins (devices.Reader First) first second acts one other =
    ap (reported_of (devices.Reader First)).limit (sym one)
limit-is begins (devices.Reader Second) first second acts one other =
    ap (reported_of (devices.Reader Second)).limit (sym other)
limit-is begins device first second acts one other = refl

-- The lists of asks to a device.
module _ (begins : Beginning) (device : Device) where
  -- tails ask nothing
  tail-asks : (tail : Piece) (pieces : List Piece) → IsTail tail
      → asks_of begins device (tail ∷ pieces) ≡ asks_of begins device pieces
  tail-asks (Whole act events) pieces is = absurd is
  tail-asks tail pieces is = refl

  -- a row that ends no act leaves the lists
  pub asks-stay : (pieces : List Piece) (row : Event) (longer : List Piece)
      → Grown pieces row None longer → asks_of begins device longer ≡ asks_of begins device pieces
  asks-stay pieces row longer grown =
      ap (asks_of begins device) grown.are
      ∙ tail-asks grown.newest grown.earlier (no-act grown.newest grown.ends)
      ∙ earlier-are (asks_of begins device) tail-asks pieces row None longer grown

  -- the lists after a whole act
  whole-asks : (newest : Piece) (earlier : List Piece) (begun : List Event) (row : Event)
      (act : Act) → piece_events newest ≡ begun ++ row ∷ [] → act_in newest ≡ Some act
      → asks_of begins device (newest ∷ earlier) ≡ asks_after device act
      (record { at = start_of row; limit = limit_of begins device (acts_of earlier) })
      (asks_of begins device earlier)
  whole-asks (Whole one events) earlier begun row act are is =
      let same : one ≡ act = cc is in rw (same, are, last-start begun row)
  whole-asks tail earlier begun row act are is = absurd (cc is)

  -- an act, and the lists go on by it
  pub asks-go-on : (pieces : List Piece) (row : Event) (act : Act) (longer : List Piece)
      (first second : KnownByProfile) → Grown pieces row (Some act) longer
      → stands_for begins (devices.Reader First) first (act ∷ acts_of pieces)
      → stands_for begins (devices.Reader Second) second (act ∷ acts_of pieces)
      → asks_after device act (record { at = start_of row; limit = limit_in first second device })
      (asks_of begins device pieces) ≡ asks_of begins device longer
  asks-go-on pieces row act longer first second grown one other = rw (
    ← (limit-is begins device first second (act ∷ acts_of pieces) one other),
    grown.are,
    whole-asks grown.newest grown.earlier grown.begun row act grown.events grown.ends,
    earlier-are acts_of tail-acts pieces row (Some act) longer grown,
    earlier-are (asks_of begins device) tail-asks pieces row (Some act) longer grown,
  )
      (sym (same-limit begins device act (acts_of pieces) (start_of row)
      (asks_of begins device pieces)))
