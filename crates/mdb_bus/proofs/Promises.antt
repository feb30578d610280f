-- The laws of mdb_msgs, put together, of the devices that are followed.
use Rattle.mdb_bus.proofs.Words.{[], All, ap, append-nil, Asks, begins_options, block_of, BlockHasOneReply, Bool, Command, command_bytes, Exactly, false, Foreign, is_enable_options, IsByte, IsOpen, IsTold, leaves_features, length, List, needed, needed_in, OpenIsAnothersFront, PlainOpenIsAFront, profile_of, refl, reply_bytes, Scope, Spells, sum, TellsLength, true, ℕ, ◌%◌, ◌&&◌, ◌++◌, ◌<◌, ◌∙◌, ◌≡◌, ◌≢◌}
use Rattle.mdb_bus.specs.shared.Grammar.{OpenIsAFront}
use Rattle.mdb_bus.proofs.Masked.{TwoTell, front_known, known_need, unmasked}
use Rattle.mdb_bus.proofs.Followed.{FirstTells, asks_followed, block_followed, needed_followed, still_followed, was_followed, within}
use Rattle.mdb_bus.proofs.Lists.{not_empty, some_there}
use Rattle.mdb_bus.proofs.Verdicts.{some_bytes}
use Rattle.mdb_bus.proofs.FormatLaws.{OneReply}

-- the first two bytes of a command's block tell its length
pub needs : FirstTells → TwoTell → ((block : List ℕ) (command : Command) → Spells command block
    → needed block ≡ Exactly (length block))
    → (scope : Scope) (block : List ℕ) (command : Command) → Asks scope command block
    → needed_in scope block ≡ Exactly (length block)
needs first two law scope block command asks =
    let content = command_bytes command in
    let some : block ≢ [] = rw asks.spells.bytes (not_empty content (sum content % 256)) in
    needed_followed scope block (block_followed first scope command block asks)
    ∙ (known_need (profile_of scope.begins) block
    (front_known two (profile_of scope.begins) block [] command some (rw append-nil asks.spells)
    asks.known)
    ∙ law block command asks.spells)

-- its first bytes tell it, or leave it to the second
pub tells : FirstTells → TwoTell → ((prefix rest : List ℕ) (command : Command) → 0 < length prefix
    → Spells command (prefix ++ rest) → TellsLength prefix (length (prefix ++ rest)))
    → (scope : Scope) (prefix rest : List ℕ) (command : Command) → 0 < length prefix
    → Asks scope command (prefix ++ rest)
    → IsTold (needed_in scope prefix) (length prefix) (length (prefix ++ rest))
tells first two law scope prefix rest command some asks =
    let there = some_there prefix some in
    let followed = was_followed scope prefix rest there
    (block_followed first scope command (prefix ++ rest) asks) in
    let known = front_known two (profile_of scope.begins) prefix rest command there asks.spells
    asks.known in
    rw (needed_followed scope prefix followed, known_need (profile_of scope.begins) prefix known)
    (law prefix rest command some asks.spells)

-- open bytes are the front of the block of a command that is had
open_one : PlainOpenIsAFront → OpenIsAnothersFront → (leaves : Bool) (bytes : List ℕ)
    → All IsByte bytes → IsOpen bytes → (leaves && begins_options bytes) ≡ false
    → (command : Command) × (rest : List ℕ) × (rest ≢ []) × Spells command (bytes ++ rest)
    × ((leaves && is_enable_options command) ≡ false)
open_one law another true bytes all short known = another bytes all short known
open_one law another false bytes all short known =
    let found = law bytes all short in (found.0, found.1, found.2, found.3, refl)

-- open bytes are the front of a command's block
pub open_front : FirstTells → PlainOpenIsAFront → OpenIsAnothersFront → (scope : Scope)
    → OpenIsAFront scope
open_front first law another scope bytes all wanting =
    let profile = profile_of scope.begins in
    let other : needed_in scope bytes ≢ Foreign = λ is. rw is at wanting in
    let there = within scope bytes (needed_in scope bytes) refl other in
    let plain = unmasked profile bytes (needed_in scope bytes) there.1 other in
    let begun : IsOpen bytes = rw plain.1 wanting in
    let found = open_one law another (leaves_features profile) bytes all begun plain.0 in
    let more = still_followed scope bytes found.1 (some_bytes bytes begun) there.0 in
    let asks = asks_followed first scope found.0 (bytes ++ found.1) found.3 found.4 more in
    (found.0, found.1, found.2, asks)

-- for a command and a reading, data bytes have at most one reply
pub one_reply : BlockHasOneReply → OneReply
one_reply law reading command one other one_in other_in first second same =
    law reading command (block_of (reply_bytes one)) one other one_in other_in
    (record { answers = first; bytes = refl })
    (record { answers = second; bytes = ap block_of same })
