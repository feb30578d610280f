-- The four bytes of options, put together from two halves, are those of the identification.
use Rattle.mdb_msgs.proofs.Words.{ap₂, sym, ◌∙◌, ◌*◌, ◌+◌}
use Rattle.mdb_msgs.proofs.ReaderBytes.{read_options}
use Rattle.mdb_msgs.proofs.reply.reader.read_id.Goals as goal

pub returns-in-len4-up-clause-text : goal.returns-in-len4-up-clause-text
returns-in-len4-up-clause-text c =
    read_options c.args.reading c.args.further.now _ _ _ c.type_inv.further c.split_at.ensures.back
    c.in-len4-up.len_at_least c.split_at-in-len4-up.ensures.front
    (c.long_number-options.ensures
    ∙ ap₂ (λ a b. 65536 * a + b) c.number.ensures c.number-in-len4-up.ensures)
    (sym c.allows.ensures ∙ c.if-allows.true)
