-- The setup tables and statuses of changer and validator, byte by byte (MDB/ICP 4.3, coin changer
-- and bill validator).
use Rattle.std.specs.List.{slice_get}
use Rattle.std.specs.Prelude.{ℕ, Some, None, ◌+◌, ◌<◌, List, ◌∷◌, ◌++◌, if◌then◌else◌}
use Rattle.mdb_msgs.specs.declared.reply.setup.ChangerSetup.{ChangerSetup}
use Rattle.mdb_msgs.specs.declared.reply.setup.TubeStatus.{TubeStatus}
use Rattle.mdb_msgs.specs.declared.reply.setup.BillSetup.{BillSetup}
use Rattle.mdb_msgs.specs.declared.reply.setup.Stacker.{Stacker}
use Rattle.mdb_msgs.specs.TwoBytes.{two_bytes}

-- Z1 to Z7, and the credits that are sent
abbrev pub changer_setup_bytes : ChangerSetup → List ℕ
changer_setup_bytes s =
    s.level ∷ two_bytes s.code ++ (s.scaling ∷ s.decimals ∷ two_bytes s.routing) ++ s.credits.items

-- the credit of a type, where those of the types from 0 on were sent: 0 where it wasn't
abbrev pub credit_of : List ℕ → ℕ → ℕ
credit_of credits kind =
    elim (slice_get credits kind) as (λ _. ℕ) [ Some credit ↦ credit | None ↦ 0 ]

-- Z1 to Z2, and the counts that are sent
abbrev pub tube_status_bytes : TubeStatus → List ℕ
tube_status_bytes s = two_bytes s.full ++ s.counts.items

-- Z1 to Z11, and the credits that are sent; Z11 is FF where there is an escrow, and else 00
abbrev pub bill_setup_bytes : BillSetup → List ℕ
bill_setup_bytes s =
    s.level ∷ two_bytes s.code ++ two_bytes s.scaling ++ (s.decimals ∷ two_bytes s.capacity)
    ++ two_bytes s.security ++ ((if s.escrow then 255 else 0) ∷ s.credits.items)

-- the top bit says full, the other 15 are the count
abbrev pub stacker_bytes : Stacker → List ℕ
stacker_bytes s = two_bytes ((if s.full then 32768 else 0) + s.count)

-- the count is in its range
abbrev pub IsStacker : Stacker → Type 0
IsStacker s = s.count < 32768
