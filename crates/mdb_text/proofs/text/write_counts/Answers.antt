-- The line of counts has a part for each device.
use Rattle.mdb_text.proofs.Words.{DEVICES, ap, append-nil, count_text, device_place, get_or}
use Rattle.mdb_text.proofs.Texts.{all_parts, one_part_more, then_written}
use Rattle.mdb_text.proofs.text.write_counts.Goals as goal

pub loop-device-init : goal.loop-device-init
loop-device-init g c = rw append-nil c.in_ok-write.ensures.bytes

pub loop-device-preserved : goal.loop-device-preserved
loop-device-preserved g c =
    one_part_more (λ device. count_text device (get_or c.args.counts.now (device_place device) 0))
    _ _ _ c.args.word.now DEVICES _ _ _ c.loop-device-test.true c.loop-device.invariant
    (ap (count_text _)
    (ap (λ place. get_or c.args.counts.now place 0) c.device_place.ensures.place))
    c.in_ok-write_count.ensures

pub returns : goal.returns
returns g c =
    then_written c.write-2.result _ _ _ _ _
    (all_parts (λ device. count_text device (get_or c.args.counts.now (device_place device) 0))
    _ _ c.args.word.now DEVICES _ c.loop-device-test.false c.loop-device.invariant)
    c.write-2.ensures.bytes
