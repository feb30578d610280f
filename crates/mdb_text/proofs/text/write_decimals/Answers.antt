-- The line of decimal places has a part for each device.
use Rattle.mdb_text.proofs.Words.{DEVICES, ap, codes, device_decimals, places_text}
use Rattle.mdb_text.proofs.Texts.{all_parts, one_part_more, then_written}
use Rattle.mdb_text.proofs.text.write_decimals.Goals as goal

pub loop-device-init : goal.loop-device-init
loop-device-init g c = c.in_ok-write.ensures.bytes

pub loop-device-preserved : goal.loop-device-preserved
loop-device-preserved g c =
    one_part_more (λ device. places_text device (device_decimals device c.args.report.now)) _ _ _
    (codes "decimals") DEVICES _ _ _ c.loop-device-test.true c.loop-device.invariant
    (ap (places_text _) c.device_decimals.ensures) c.in_ok-write_places.ensures

pub returns : goal.returns
returns g c =
    then_written c.write-2.result _ _ _ _ _
    (all_parts (λ device. places_text device (device_decimals device c.args.report.now)) _ _
    (codes "decimals") DEVICES _ c.loop-device-test.false c.loop-device.invariant)
    c.write-2.ensures.bytes
