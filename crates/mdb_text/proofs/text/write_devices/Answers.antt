-- The line of devices has the word of each device in the set.
use Rattle.mdb_text.proofs.Words.{DEVICES, append-nil, refl, rules, word_in}
use Rattle.mdb_text.proofs.Texts.{all_parts, one_part_more, then_written, with_line}
use Rattle.mdb_text.proofs.text.write_devices.Goals as goal

pub loop-device-init : goal.loop-device-init
loop-device-init g c = rw append-nil c.in_ok-write.ensures.bytes

pub loop-device-preserved : goal.loop-device-preserved
loop-device-preserved g c =
    one_part_more (word_in c.args.devices) _ _ _ c.args.word.now DEVICES _ _ _
    c.loop-device-test.true c.loop-device.invariant refl
    c.in_ok-write_if_in.ensures

pub returns : goal.returns
returns g c =
    rw (← with_line c.args.word.now c.args.devices (search rules)) (then_written c.write-2.result
    _ _ _ _ _ (all_parts (word_in c.args.devices) _ _ c.args.word.now DEVICES _
    c.loop-device-test.false c.loop-device.invariant) c.write-2.ensures.bytes)
