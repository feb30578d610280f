-- A block has one command or one fault.
use Rattle.mdb_msgs.proofs.Words.{◌≡◌, length, block_of, Command, First, Second, MsgFault, Length, Profile, Need, Exactly, Foreign, Outside, IsCommandFault, IsRefused, Spells, command_bytes, is_for, needed, ℕ, ◌%◌, List, slice_index, drop, if◌then◌else◌, Result, Ok, Err, IfOk, IfErr, arith, refl, ap, sym, subst, ◌∙◌, ChangerCommand, BillCommand, ReaderCommand}
use Rattle.mdb_msgs.specs.declared.command.Command.TheVariants.{Changer, Bill, Reader}
use Rattle.mdb_msgs.proofs.Contents.{changer_at, bill_at, reader_at}
use Rattle.mdb_msgs.proofs.OneReply.{one_content}
use Rattle.mdb_msgs.proofs.Prefixes.{whole}

-- the command that has these bytes, if one has
command_at : List ℕ → Command
command_at content =
    if is_for 0x08 (slice_index content 0) then Changer (changer_at content)
    else if is_for 0x10 (slice_index content 0) then Reader First
    (reader_at (slice_index content 0 % 8) (drop 1 content))
    else if is_for 0x30 (slice_index content 0) then Bill (bill_at content)
    else Reader Second (reader_at (slice_index content 0 % 8) (drop 1 content))

command_found : (command : Command) → command_at (command_bytes command) ≡ command
unfolding command_at
command_found (Changer ChangerCommand.Reset) = refl
command_found (Bill BillCommand.Reset) = refl
command_found (Reader First ReaderCommand.Reset) = refl
command_found (Reader Second ReaderCommand.Reset) = refl
command_found command = grind arith

pub one_command : (block : List ℕ) (one other : Command) → Spells one block → Spells other block
    → one ≡ other
one_command block one other h k =
    let same : command_bytes one ≡ command_bytes other = one_content _ _ (sym h.bytes ∙ k.bytes) in
    sym (command_found one) ∙ ap command_at same ∙ command_found other

-- a need refuses a block for one reason
one_refusal : (need : Need) (count : ℕ) (a b : MsgFault) → IsRefused need count a
    → IsRefused need count b → a ≡ b
one_refusal (Exactly n) count Length Length h k = refl
one_refusal Foreign count Profile Profile h k = refl
one_refusal Outside count Profile Profile h k = refl
one_refusal need count a b h k = absurd (search)

-- a block that is as long as it needs to be is not refused
not_refused : (count : ℕ) (fault : MsgFault) → IsRefused (Exactly count) count fault → ⊥
not_refused count Length h = h refl
not_refused count _ h = h

command_has_no_fault : (block : List ℕ) (command : Command) (fault : MsgFault)
    → Spells command block → IsCommandFault block fault → ⊥
command_has_no_fault block command fault h refused =
    not_refused (length block) fault (rw (whole block command h) at refused)

module _ {block : List ℕ} (content : List ℕ) (e : block ≡ block_of content) where
  -- what reading a block found is the only thing that it spells
  pub only_command : (result : Result Command MsgFault)
      → IfOk result (λ found. Spells found (block_of content))
      → IfErr result (IsCommandFault (block_of content)) → (other : Command) → Spells other block
      → result ≡ Ok other
  only_command (Ok found) is fault other h =
      ap Ok (one_command (block_of content) found other is (subst (Spells other) e h))
  only_command (Err a) is fault other h =
      absurd (command_has_no_fault (block_of content) other a (subst (Spells other) e h) fault)

  -- and its fault is the only one
  pub only_command_fault : (result : Result Command MsgFault)
      → IfOk result (λ found. Spells found (block_of content))
      → IfErr result (IsCommandFault (block_of content)) → (fault : MsgFault)
      → IsCommandFault block fault → result ≡ Err fault
  only_command_fault (Ok found) is fault b h =
      absurd (command_has_no_fault (block_of content) found b is
      (subst (λ x. IsCommandFault x b) e h))
  only_command_fault (Err a) is fault b h =
      ap Err (one_refusal (needed (block_of content)) (length (block_of content)) a b fault
      (subst (λ x. IsCommandFault x b) e h))
