-- The messages of the changer's POLL answer, byte by byte (MDB/ICP 4.3, coin changer).
use Rattle.std.specs.Prelude.{◌≡◌, ◌≢◌, ℕ, ◌+◌, ◌*◌, ◌<◌, ◌≤◌, ◌⊎◌, List, [], ◌∷◌}
use Rattle.mdb_msgs.specs.declared.fault.MsgFault.{MsgFault}
use Rattle.mdb_msgs.specs.declared.fault.MsgFault.TheVariants.{Message, Profile}
use Rattle.mdb_msgs.specs.declared.reply.changer.ChangerMsg.{ChangerMsg}
use Rattle.mdb_msgs.specs.declared.reply.changer.ChangerMsg.TheVariants.{ManualDispense, CashBox, Tube, Rejected, Slugs, Reset, Status}

-- the bytes of a message
abbrev pub changer_msg_bytes : ChangerMsg → List ℕ
changer_msg_bytes (ManualDispense count coin in_tube) = (128 + 16 * count + coin) ∷ in_tube ∷ []
changer_msg_bytes (CashBox coin in_tube) = (64 + coin) ∷ in_tube ∷ []
changer_msg_bytes (Tube coin in_tube) = (80 + coin) ∷ in_tube ∷ []
changer_msg_bytes (Rejected coin second) = (112 + coin) ∷ second ∷ []
changer_msg_bytes (Slugs count) = (32 + count) ∷ []
changer_msg_bytes Reset = 11 ∷ []
changer_msg_bytes (Status byte) = byte ∷ []

-- its fields are in their ranges; the status 0B is the message Reset
abbrev pub IsChangerMsg : ChangerMsg → Type 0
IsChangerMsg (ManualDispense count coin in_tube) = (count < 8) × (coin < 16)
IsChangerMsg (CashBox coin in_tube) = coin < 16
IsChangerMsg (Tube coin in_tube) = coin < 16
IsChangerMsg (Rejected coin second) = coin < 16
IsChangerMsg (Slugs count) = count < 32
IsChangerMsg Reset = Unit {0}
IsChangerMsg (Status byte) = (byte < 27) × (byte ≢ 11)

-- no message stands at the front of these bytes: 60 to 6F, or one byte of a message of two; 1B to
-- 1F is file transfer
abbrev pub NoChangerMsg : List ℕ → MsgFault → Type 0
NoChangerMsg (first ∷ further) Message =
    ((96 ≤ first) × (first < 112)) ⊎ ((64 ≤ first) × (further ≡ []))
NoChangerMsg (first ∷ further) Profile = (27 ≤ first) × (first < 32)
NoChangerMsg _ _ = ⊥
