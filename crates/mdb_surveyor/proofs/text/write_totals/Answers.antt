-- The parts of the totals are written one after the other.
use Rattle.std.proofs.KnownBytes.{Appends-trans}
use Rattle.mdb_text.proofs.Texts.{then_written}
use Rattle.mdb_surveyor.proofs.text.write_totals.Goals as goal

pub returns : goal.returns
returns g c =
    then_written c.write_devices.result _ _ _ _ _ (Appends-trans _ _ _ _ _
    (Appends-trans _ _ _ _ _ (Appends-trans _ _ _ _ _ c.in_ok-write_total_accounts.ensures
    c.in_ok-write_counts.ensures) c.in_ok-write_untimely.ensures) c.in_ok-write_counts-2.ensures)
    c.write_devices.ensures
