-- Each act list has a loss that fits, whichever free acts are to be heard. The rows of an act are
-- damaged where the act after it tells so, or tells nothing and the act isn't to be heard.
use Rattle.std.proofs.Math.Dec.{leb}
use Rattle.mdb_bus.proofs.Words.{[], Act, ap, ArePieces, arith, Bool, Event, events_of, false, HearsAsWished, HearsFreeAsWished, if◌then◌else◌, IsAck, le-leb, left_open, length, length-append, List, lt-leb, MayCome, MayStand, not, nothing_told, Option, Piece, piece_events, Profile, profile_of, Quiet, refl, Scope, sym, true, Whole, Wish, ℕ, ◌++◌, ◌+◌, ◌<◌, ◌↔◌, ◌∙◌, ◌∷◌, ◌≡◌, ◌≤◌}
use Rattle.mdb_bus.specs.Wish.{IsFree}
use Rattle.mdb_bus.specs.Loss.{AllArrive, FitsNext, Heard, Hearing, IsAsTold, IsHeard, Loss, LossFits, Open, Unheard, told_by, told_by_block}
use Rattle.mdb_bus.specs.declared.act.Act.TheVariants as acts

-- whether the rows of an act are damaged: as it is told, and where nothing is told, as it is wished
abbrev is_damaged : Hearing → Bool → Bool
is_damaged Heard as_wished = false
is_damaged Unheard as_wished = true
is_damaged Open as_wished = not as_wished

-- The loss of pieces, where what is after them tells so of their newest act. The rows of an act are
-- all damaged, or none is.
abbrev damage : Wish → List Piece → (Act → Hearing) → Loss
damage wish [] tells = λ row. false
damage wish (Whole act events ∷ pieces) tells = λ row.
    if leb row (length (events_of pieces)) then damage wish pieces (told_by act) row
    else is_damaged (tells act) (wish (length (events_of pieces)))
damage wish (piece ∷ pieces) tells = damage wish pieces nothing_told

-- two losses agree on so many rows
abbrev Agree : Loss → Loss → ℕ → Type 0
Agree one other rows = (row : ℕ) → row ≤ rows → one row ≡ other row

-- of so many rows after the first `before` ones, all are damaged or none is
abbrev AreAll : Loss → ℕ → ℕ → Bool → Type 0
AreAll loss before count damaged = (row : ℕ) → before < row → row ≤ before + count
    → loss row ≡ damaged

module _ (first other : Loss) (second : Bool) (rows events : List Event)
    (agree : Agree (λ row. if leb row (length rows) then first row else second) other
    (length (rows ++ events))) where
  -- a loss that picks one of two at a row has the first up to there
  agree_early : Agree first other (length rows)
  agree_early row h =
      sym (ap (λ b. if b then first row else second) (le-leb row (length rows) h))
      ∙ agree row (omega (arith, h, length-append rows events))

  -- and the second after it
  agree_late : AreAll other (length rows) (length events) second
  agree_late row low high =
      sym (agree row (omega (arith, high, length-append rows events)))
      ∙ ap (λ b. if b then first row else second) (lt-leb row (length rows) low)

-- a block tells nothing of an act that leaves nothing open
no_block_tells : (act : Act) → left_open act ≡ Quiet → told_by_block act ≡ Open
no_block_tells (acts.Reply command reply) quiet = cc
no_block_tells (acts.Repeat command reply) quiet = cc
no_block_tells act quiet = refl

-- nothing is told of an act that leaves nothing open
abbrev IsSparing : Hearing → Act → Type 0
IsSparing hearing act = left_open act ≡ Quiet → hearing ≡ Open

-- so it is with what an act tells that may come after
sparing_told : (profile : Profile) (next : Act) (events : List Event) (act : Act)
    (from : Option Event) (to : Event) → MayCome profile (Whole next events) (left_open act) from to
    → IsSparing (told_by next act) act
sparing_told profile (acts.Ask command) events act from to comes = no_block_tells act
sparing_told profile (acts.Nak command) events act from to comes = λ quiet. refl
sparing_told profile acts.Foreign events act from to comes = no_block_tells act
sparing_told profile (acts.Break length) events act from to comes = λ quiet. refl
sparing_told profile next events act from to comes = λ quiet. let stands = comes.0 in cc

-- nothing is told of a free act
free_open : (act : Act) (hearing : Hearing) → IsSparing hearing act → IsFree act hearing
    → hearing ≡ Open
free_open (acts.Ack command) hearing sparing free = sparing refl
free_open (acts.VmcAck command reply) hearing sparing free = sparing refl
free_open (acts.Break length) hearing sparing free = absurd free
free_open act hearing sparing free = free

module _ (loss : Loss) (before count : ℕ) where
  module _ (some : 1 ≤ count) where
    -- of rows that are all damaged, the first didn't arrive
    none_arrive : AreAll loss before count true → AllArrive loss before count → ⊥
    none_arrive rows all =
        let arrived = all (before + 1) (omega arith) (omega (arith, some)) in
        let damaged = rows (before + 1) (omega arith) (omega (arith, some)) in
        cc

    -- an act whose rows are damaged as it is told, and else as it is wished, is heard as it is told
    is_told : (hearing : Hearing) (wished : Bool) (act : Act)
        → AreAll loss before count (is_damaged hearing wished) → IsSparing hearing act
        → IsAsTold hearing (IsHeard loss act before count)
    is_told Heard wished (acts.Break length) rows sparing = tt
    is_told Heard wished act rows sparing = rows
    is_told Unheard wished (acts.Break length) rows sparing =
        λ heard. let untold = sparing refl in cc
    is_told Unheard wished act rows sparing = none_arrive rows
    is_told Open wished act rows sparing = tt

    -- and where it is free, as it is wished
    is_wished : (hearing : Hearing) (wished : Bool) (act : Act)
        → AreAll loss before count (is_damaged hearing wished) → IsSparing hearing act
        → IsFree act hearing → IsHeard loss act before count ↔ (wished ≡ true)
    is_wished Open wished (acts.Break length) rows sparing free = absurd free
    is_wished Open true act rows sparing free = (λ heard. refl, λ is. rows)
    is_wished Open false act rows sparing free =
        (λ heard. absurd (none_arrive rows heard), λ is. cc)
    is_wished hearing wished act rows sparing free =
        let untold = free_open act hearing sparing free in cc

-- what is after pieces tells nothing of their newest act, if that leaves nothing open
abbrev TellsSparingly : (Act → Hearing) → List Piece → Type 0
TellsSparingly tells (Whole act events ∷ pieces) = IsSparing (tells act) act
TellsSparingly tells _ = Unit {0}

nothing_sparing : (pieces : List Piece) → TellsSparingly nothing_told pieces
nothing_sparing (Whole act events ∷ pieces) = λ quiet. refl
nothing_sparing _ = tt

module _ (scope : Scope) (wish : Wish) (loss : Loss) where
  next_sparing : (pieces : List Piece) (next : Act) (events : List Event)
      → MayStand scope pieces (Whole next events) → TellsSparingly (told_by next) pieces
  next_sparing (Whole act rows ∷ pieces) next events stands =
      sparing_told (profile_of scope.begins) next events act _ stands.first stands.comes
  next_sparing _ next events stands = tt

  -- the loss of the newest piece is as the act after it tells
  fits_next : (pieces : List Piece) (next : Act)
      → Agree (damage wish pieces (told_by next)) loss (length (events_of pieces))
      → ArePieces scope pieces → TellsSparingly (told_by next) pieces → FitsNext loss pieces next
  fits_next (Whole act rows ∷ pieces) next agree are sparing =
      let before = length (events_of pieces) in
      is_told loss before (length rows) (omega (arith, ap length are.1.begins)) (told_by next act)
      (wish before) act
      (agree_late (damage wish pieces (told_by act)) loss _ (events_of pieces) rows agree) sparing
  fits_next _ next agree are sparing = tt

  -- the loss fits, whatever is told of the newest act, and the free acts are heard as wished
  fits : (pieces : List Piece) (tells : Act → Hearing)
      → Agree (damage wish pieces tells) loss (length (events_of pieces)) → ArePieces scope pieces
      → TellsSparingly tells pieces
      → LossFits loss pieces × HearsFreeAsWished loss wish tells pieces
  fits [] tells agree are sparing = (tt, tt)
  fits (Whole act events ∷ pieces) tells agree are sparing =
      let before = length (events_of pieces) in
      let inner : Loss = damage wish pieces (told_by act) in
      let early = agree_early inner loss _ (events_of pieces) events agree in
      let next = next_sparing pieces act events are.1 in
      let rest = fits pieces (told_by act) early are.2 next in
      let wished = is_wished loss before (length events) (omega (arith, ap length are.1.begins))
      (tells act) (wish before) act (agree_late inner loss _ (events_of pieces) events agree)
      sparing in
      ((fits_next pieces act early are.2 next, rest.0), (wished, rest.1))
  fits (piece ∷ pieces) tells agree are sparing =
      fits pieces nothing_told
      (λ row h. agree row (omega (arith, h, length-append (events_of pieces) (piece_events piece))))
      are.2 (nothing_sparing pieces)

pub fitting : (scope : Scope) (pieces : List Piece) → ArePieces scope pieces → (wish : Wish)
    → (loss : Loss) × LossFits loss pieces × HearsFreeAsWished loss wish nothing_told pieces
fitting scope pieces are wish =
    let loss : Loss = damage wish pieces nothing_told in
    let good = fits scope wish loss pieces nothing_told (λ row h. refl) are
    (nothing_sparing pieces) in
    (loss, good.0, good.1)

-- an ACK is free
ack_free : (act : Act) (hearing : Hearing) → IsAck act → IsFree act hearing
ack_free (acts.Ack command) hearing ack = tt
ack_free (acts.VmcAck command reply) hearing ack = tt
ack_free act hearing ack = absurd ack

-- so an ACK is heard as wished, where each free act is
pub acks_wished : (loss : Loss) (wish : Wish) (tells : Act → Hearing) (pieces : List Piece)
    → HearsFreeAsWished loss wish tells pieces → HearsAsWished loss wish pieces
acks_wished loss wish tells [] free = tt
acks_wished loss wish tells (Whole act events ∷ pieces) free = (
  λ ack. free.0 (ack_free act (tells act) ack),
  acks_wished loss wish (told_by act) pieces free.1,
)
acks_wished loss wish tells (piece ∷ pieces) free = acks_wished loss wish nothing_told pieces free
