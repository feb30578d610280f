-- The line of the faults is written in three parts.
use Rattle.std.proofs.Common.{◌++◌}
use Rattle.std.proofs.KnownBytes.{Appends-trans}
use Rattle.mdb_text.proofs.Texts.{then_written}
use Rattle.mdb_surveyor.proofs.Texts.{faults_first, faults_parts, faults_second, faults_third}
use Rattle.mdb_surveyor.proofs.text.write_faults.Goals as goal

pub returns : goal.returns
returns g c =
    let faults = c.args.faults.now in
    rw (← faults_parts faults) (then_written c.write-3.result _ _ _
    (faults_first faults ++ faults_second faults) (faults_third faults)
    (Appends-trans _ _ _ (faults_first faults) (faults_second faults) c.in_ok-write.ensures.bytes
    c.in_ok-write-2.ensures.bytes) c.write-3.ensures.bytes)
