-- Each round appends the word of one device, if the device is in the set.
use Rattle.mdb_text.proofs.Words.{Appends, flat_map, take, word_in, ◌++◌}
use Rattle.mdb_text.proofs.text.write_devices.Given as goal

-- the devices so far have their words, where they are of the set
abbrev pub invariant-loop-device : goal.invariant-loop-device
invariant-loop-device g l =
    Appends (g.W.Write.contents l.fn.writer) (g.W.Write.contents l.writer) (l.word
    ++ flat_map (word_in l.devices) (take l.device-index l.device-items))
