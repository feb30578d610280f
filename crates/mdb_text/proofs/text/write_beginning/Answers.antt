-- In mid-session two lines more are written: what is unvalued, and whose setup is known.
use Rattle.mdb_text.proofs.Texts.{then_written}
use Rattle.mdb_text.proofs.text.write_beginning.Goals as goal

pub returns-in_ok-write_counts-in-Joined : goal.returns-in_ok-write_counts-in-Joined
returns-in_ok-write_counts-in-Joined g c =
    rw c.in-Joined.is (then_written c.write_devices.result _ _ _ _ _
    (rw c.unvalued.ensures at c.in_ok-write_counts-in-Joined.ensures)
    (rw c.known_devices.ensures at c.write_devices.ensures))
