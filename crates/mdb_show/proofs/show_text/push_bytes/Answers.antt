-- One byte more adds its two digits.
use Rattle.mdb_show.proofs.ShowTexts.{bytes_more}
use Rattle.mdb_show.proofs.show_text.push_bytes.Goals as goal

pub loop-byte-preserved : goal.loop-byte-preserved
loop-byte-preserved c =
    bytes_more _ c.args.text.now.items c.args.bytes.now c.loop-byte.byte-index c.loop-byte-test.true
    _ _ _ c.loop-byte.invariant c.hex_digit.ensures c.hex_digit-in-loop-byte.ensures
    c.in_ok-extend_from_slice.ensures.items
