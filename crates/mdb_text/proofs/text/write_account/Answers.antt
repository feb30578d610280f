-- The line of an account has a part for each side.
use Rattle.std.proofs.KnownBytes.{Appends-trans}
use Rattle.mdb_text.proofs.Texts.{then_written}
use Rattle.mdb_text.proofs.text.write_account.Goals as goal

pub returns : goal.returns
returns g c =
    then_written c.write-2.result _ _ _ _ _ (Appends-trans _ _ _ _ _ (Appends-trans _ _ _ _ _
    (Appends-trans _ _ _ _ _ c.in_ok-write.ensures.bytes c.in_ok-write_side.ensures)
    c.in_ok-write_side-2.ensures) c.in_ok-write_side-3.ensures) c.write-2.ensures.bytes
