-- Each round appends the count of one device after the word.
use Rattle.mdb_text.proofs.Words.{Appends, count_text, device_place, flat_map, get_or, take, ◌++◌}
use Rattle.mdb_text.proofs.text.write_counts.Given as goal

-- the devices so far have their counts
abbrev pub invariant-loop-device : goal.invariant-loop-device
invariant-loop-device g l =
    Appends (g.W.Write.contents l.fn.writer) (g.W.Write.contents l.writer) (l.word
    ++ flat_map (λ device. count_text device (get_or l.counts (device_place device) 0))
    (take l.device-index l.device-items))
