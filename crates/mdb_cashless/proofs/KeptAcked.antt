-- What is held after an ACK, by whether a message of the reply is kept.
use Rattle.mdb_cashless.proofs.Words.{ReaderActivity, and-true, common_steps, arith, ◌≡◌, ◌⊎◌, ◌&&◌, not, Bool, true, List, [], ◌∷◌, map, ReaderMsg, Choice, Plain, Lost, Restart, Again, holds_acked, kept_of, part_of, keeps_some}
use Rattle.mdb_msgs.specs.declared.reply.reader.ReaderMsg.TheVariants.{VendDenied}

-- the choices by which the reader hears the ACK
abbrev Hears : Choice → Type 0
Hears choice = (choice ≡ Plain) ⊎ (choice ≡ Restart) ⊎ (choice ≡ Again)

some : (choice : Choice) → Hears choice → (message : ReaderActivity) (kept : List ReaderActivity)
    (holds : Bool) → (holds && not true) ≡ holds_acked choice (message ∷ kept) holds
some Lost heard message kept holds = grind arith
some choice heard message kept holds = grind (arith, common_steps)

pub heard_is : (choice : Choice) → Hears choice → (messages : List ReaderMsg) (holds : Bool)
    → (holds && not (keeps_some messages))
    ≡ holds_acked choice (kept_of (map part_of messages)) holds
heard_is choice heard [] holds = and-true holds
heard_is choice heard (VendDenied ∷ messages) holds = some choice heard _ _ holds
heard_is choice heard (message ∷ messages) holds =
    search (some choice heard, heard_is choice heard messages holds)
