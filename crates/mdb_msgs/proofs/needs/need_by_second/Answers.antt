-- At the addresses of both readers, the need is what the second byte tells, if it is there.
use Rattle.mdb_msgs.proofs.Words.{◌≡◌, common_steps, need, slice_index, slice_get, sym, ap, ◌∙◌, arith}
use Rattle.mdb_msgs.proofs.Addresses.{at_first, at_second, need_at}
use Rattle.mdb_msgs.proofs.needs.need_by_second.Goals as goal

pub returns-in-16-to-23 : goal.returns-in-16-to-23
returns-in-16-to-23 c =
    let second : c.copied-second.result ≡ slice_get c.args.prefix.now 1 =
    grind (arith, common_steps) in
    let at = at_first (slice_index c.args.prefix.now 0) (omega arith) (omega arith) in
    c.reader_need.ensures
    ∙ sym (need_at (slice_index c.args.prefix.now 0) c.copied-second.result at)
    ∙ ap (need (slice_index c.args.prefix.now 0)) second

pub returns-in-96-to-103 : goal.returns-in-96-to-103
returns-in-96-to-103 c =
    let second : c.copied-second.result ≡ slice_get c.args.prefix.now 1 =
    grind (arith, common_steps) in
    let at = at_second (slice_index c.args.prefix.now 0) (omega arith) (omega arith) in
    c.reader_need-in-96-to-103.ensures
    ∙ sym (need_at (slice_index c.args.prefix.now 0) c.copied-second.result at)
    ∙ ap (need (slice_index c.args.prefix.now 0)) second
