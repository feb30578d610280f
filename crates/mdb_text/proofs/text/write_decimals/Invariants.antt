-- Each round appends the decimal places of one device after the word.
use Rattle.mdb_text.proofs.Words.{Appends, codes, device_decimals, flat_map, places_text, take, ◌++◌}
use Rattle.mdb_text.proofs.text.write_decimals.Given as goal

-- the devices so far have their parts
abbrev pub invariant-loop-device : goal.invariant-loop-device
invariant-loop-device g l =
    Appends (g.W.Write.contents l.fn.writer) (g.W.Write.contents l.writer) (codes "decimals"
    ++ flat_map (λ device. places_text device (device_decimals device l.report))
    (take l.device-index l.device-items))
