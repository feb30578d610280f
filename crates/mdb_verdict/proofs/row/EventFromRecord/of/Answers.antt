-- Three fields are read as a row, or refused.
use Rattle.std.proofs.Common.{◌∙◌, sym, ◌≡◌, length}
use Rattle.mdb_records.specs.Fields.{fields_of}
use Rattle.mdb_verdict.proofs.Fields.{three_fields}
use Rattle.mdb_verdict.proofs.row.EventFromRecord.of.Goals as goal

pub returns-clause-row : goal.returns-clause-row
returns-clause-row c =
    let long : length (fields_of c.args.fields.now) ≡ 3 = sym c.len.ensures ∙ c.if-len-ne3.false in
    rw (three_fields (fields_of c.args.fields.now) c.field.result.now c.field-2.result.now
    c.field-3.result.now long c.field.ensures c.field-2.ensures c.field-3.ensures) c.read.ensures.ok

pub returns-clause-refused : goal.returns-clause-refused
returns-clause-refused c =
    let long : length (fields_of c.args.fields.now) ≡ 3 = sym c.len.ensures ∙ c.if-len-ne3.false in
    rw (three_fields (fields_of c.args.fields.now) c.field.result.now c.field-2.result.now
    c.field-3.result.now long c.field.ensures c.field-2.ensures c.field-3.ensures)
    c.read.ensures.err
