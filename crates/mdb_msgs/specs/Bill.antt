-- The messages of the validator's POLL answer, byte by byte (MDB/ICP 4.3, bill validator).
use Rattle.std.specs.Prelude.{◌≡◌, ◌≢◌, ℕ, ◌+◌, ◌<◌, ◌≤◌, ◌⊎◌, Bool, true, false, List, [], ◌∷◌}
use Rattle.mdb_msgs.specs.declared.fault.MsgFault.{MsgFault}
use Rattle.mdb_msgs.specs.declared.fault.MsgFault.TheVariants.{Message, Profile}
use Rattle.mdb_msgs.specs.declared.reply.bill.BillMsg.{BillMsg}
use Rattle.mdb_msgs.specs.declared.reply.bill.BillMsg.TheVariants.{Stacked, Escrow, Returned, Recycled, Rejected, Attempts, Reset, Status, RecyclerStatus}

-- the byte of a message
abbrev pub bill_msg_bytes : BillMsg → List ℕ
bill_msg_bytes (Stacked bill) = (128 + bill) ∷ []
bill_msg_bytes (Escrow bill) = (144 + bill) ∷ []
bill_msg_bytes (Returned bill) = (160 + bill) ∷ []
bill_msg_bytes (Recycled bill) = (176 + bill) ∷ []
bill_msg_bytes (Rejected bill) = (192 + bill) ∷ []
bill_msg_bytes (Attempts count) = (64 + count) ∷ []
bill_msg_bytes Reset = 6 ∷ []
bill_msg_bytes (Status byte) = byte ∷ []
bill_msg_bytes (RecyclerStatus byte) = byte ∷ []

-- its field is in its range, and the profile has it: the recycler's messages are those of the
-- extended profile alone; the status 06 is the message Reset, and 1B to 1F are no statuses
abbrev pub IsBillMsg : Bool → BillMsg → Type 0
IsBillMsg extended (Stacked bill) = bill < 16
IsBillMsg extended (Escrow bill) = bill < 16
IsBillMsg extended (Returned bill) = bill < 16
IsBillMsg extended (Recycled bill) = (bill < 16) × (extended ≡ true)
IsBillMsg extended (Rejected bill) = bill < 16
IsBillMsg extended (Attempts count) = count < 32
IsBillMsg extended Reset = Unit {0}
IsBillMsg extended (Status byte) = (byte ≢ 6) × ((byte < 27) ⊎ ((32 ≤ byte) × (byte < 64)))
IsBillMsg extended (RecyclerStatus byte) = (208 ≤ byte) × (extended ≡ true)

-- a byte of the recycler: B0 to BF, or D0 to FF
abbrev pub IsOfRecycler : ℕ → Type 0
IsOfRecycler byte = ((176 ≤ byte) × (byte < 192)) ⊎ (208 ≤ byte)

-- by a profile no message stands at the front of these bytes: 60 to 7F; 1B to 1F, and those of the
-- recycler, which the base profile leaves out
abbrev pub NoBillMsg : Bool → List ℕ → MsgFault → Type 0
NoBillMsg extended (byte ∷ rest) Message = (96 ≤ byte) × (byte < 128)
NoBillMsg extended (byte ∷ rest) Profile =
    ((27 ≤ byte) × (byte < 32)) ⊎ (IsOfRecycler byte × (extended ≡ false))
NoBillMsg extended _ _ = ⊥
