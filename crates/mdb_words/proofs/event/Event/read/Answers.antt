-- After its time, a row is read as its letter and value are. Without a time it is refused.
use Rattle.std.proofs.lemmas.Result.{err_from_is_err_and}
use Rattle.mdb_words.proofs.Rows.{err_from, only_from, refuses_time, tells_fields}
use Rattle.mdb_words.proofs.event.Event.read.Goals as goal

pub returns-in_err-at-clause-err : goal.returns-in_err-at-clause-err
returns-in_err-at-clause-err c =
    let p = err_from_is_err_and c.from_residual.result c.from_residual.ensures.1 in
    rw (p.1, p.2) (refuses_time c.args.fields.now _ c.read.result _ c.in-len3.len_at_least
    c.in-len3.len_below c.in_err-at.ensures.value c.read.ensures.none)

pub returns-clause-only : goal.returns-clause-only
returns-clause-only c =
    only_from _ c.read_at.result
    (tells_fields c.args.fields.now _ c.read.result c.in_ok-at.at c.read_at.result
    c.in-len3.len_at_least c.in-len3.len_below c.in_ok-at.ensures.value c.read.ensures.some
    c.read_at.ensures)

pub returns-clause-err : goal.returns-clause-err
returns-clause-err c =
    err_from _ c.read_at.result
    (tells_fields c.args.fields.now _ c.read.result c.in_ok-at.at c.read_at.result
    c.in-len3.len_at_least c.in-len3.len_below c.in_ok-at.ensures.value c.read.ensures.some
    c.read_at.ensures)
