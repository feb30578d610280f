-- Kept messages, as they are for changer, validator and readers (this profile). A device keeps
-- the messages on money and sessions until it hears the controller's ACK of their reply. `M` is
-- what a kept message says: two messages are the same where they say the same.
use Rattle.std.specs.Prelude.{◌≡◌, ◌⊎◌, Bool, true, false, List, [], ◌∷◌, ◌++◌, Option, Some, None}
use Rattle.std.specs.List.{filter_map, list_any}
use Rattle.mdb_machine.specs.declared.kept.Part.{Part}
use Rattle.mdb_machine.specs.declared.kept.Part.TheVariants as part
use Rattle.mdb_machine.specs.declared.choice.Choice.{Choice}
use Rattle.mdb_machine.specs.declared.choice.Choice.TheVariants.{Lost, Restart, Again}

-- what a message says that is kept
abbrev pub kept_by : {M : Type 0} → Part M → Option M
kept_by (part.Kept message) = Some message
kept_by _ = None

-- whether a message is the device's reset message
abbrev pub is_reset : {M : Type 0} → Part M → Bool
is_reset part.Reset = true
is_reset _ = false

-- the kept list of a reply: its kept messages in order
abbrev pub kept_of : {M : Type 0} → List (Part M) → List M
kept_of parts = filter_map kept_by parts

-- whether a reply has a reset message
abbrev pub has_reset : {M : Type 0} → List (Part M) → Bool
has_reset parts = list_any is_reset parts

-- whether a kept message of a reply stands before its first reset message; where it has no reset
-- message, whether it has a kept message at all
abbrev pub keeps_early : {M : Type 0} → List (Part M) → Bool
keeps_early [] = false
keeps_early (part.Reset ∷ parts) = false
keeps_early (part.Kept message ∷ parts) = true
keeps_early (part.Other ∷ parts) = keeps_early parts

-- A reply can be read as telling of a restart where there is a reset message, and no kept message
-- in front of the first one. As plain, each can be read. What a device tells again, it holds: that
-- is never chosen.
abbrev pub CanBeRead : Choice → Bool → Bool → Type 0
CanBeRead Restart reset early = (reset ≡ true) × (early ≡ false)
CanBeRead Again reset early = ⊥
CanBeRead choice reset early = Unit {0}

abbrev pub MayBeRead : {M : Type 0} → Choice → List (Part M) → Type 0
MayBeRead choice parts = CanBeRead choice (has_reset parts) (keeps_early parts)

-- While a reset message is owed, no kept message comes before it, and none without it.
abbrev pub MayBeKept : {M : Type 0} → Bool → List (Part M) → Type 0
MayBeKept owed parts = owed ≡ true → keeps_early parts ≡ false

-- whether a device still holds what it held, once a reply is read: after a restart it doesn't
abbrev pub holds_read : Choice → Bool → Bool
holds_read Restart holds = false
holds_read choice holds = holds

-- what a device holds: its last kept list that wasn't empty, or nothing
abbrev pub held : {M : Type 0} → Bool → List M → List M
held true last = last
held false last = []

-- After what the device holds, the rest of a kept list is new. An answer to another command than
-- POLL may leave out what is held, and then it has no kept message.
abbrev pub IsNew : {M : Type 0} → Bool → List M → List M → List M → Type 0
IsNew poll held kept new =
    (kept ≡ held ++ new) ⊎ ((poll ≡ false) × (kept ≡ []) × (new ≡ []))

-- whether the device holds after its reply: the kept list, and where it is empty what it held
abbrev pub holds_after : {M : Type 0} → List M → Bool → Bool
holds_after [] holds = holds
holds_after (message ∷ kept) holds = true

-- whether the device holds after the controller's ACK of a reply: an ACK of kept messages that it
-- hears ends that, and any other leaves what is held
abbrev pub holds_acked : {M : Type 0} → Choice → List M → Bool → Bool
holds_acked choice [] holds = holds
holds_acked Lost (message ∷ kept) holds = holds
holds_acked choice (message ∷ kept) holds = false

-- What a reply tells under a choice: while a reset message is owed, it keeps nothing in front of
-- one, and after what its device holds (`holding`) the rest of its kept list is new.
pub record HasNews {M : Type 0} (poll : Bool) (choice : Choice) (owed : Bool) (holding : List M)
    (parts : List (Part M)) (news : List M) : Type 0 where
  pub read : MayBeRead choice parts
  pub reset : MayBeKept owed parts
  pub new : IsNew poll holding (kept_of parts) news
