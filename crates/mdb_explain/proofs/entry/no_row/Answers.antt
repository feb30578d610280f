-- A record with a mark's letter is read as a mark row, and another one is refused.
use Rattle.std.proofs.Common.{◌∙◌, sym, ◌≡◌, length}
use Rattle.mdb_records.specs.Fields.{fields_of}
use Rattle.mdb_verdict.proofs.Fields.{three_fields}
use Rattle.mdb_explain.proofs.entry.no_row.Goals as goal

pub returns-in-Some : goal.returns-in-Some
returns-in-Some c =
    let long : length (fields_of c.args.fields.now) ≡ 3 = sym c.len.ensures ∙ c.if-len-ne3.false in
    rw (
      three_fields (fields_of c.args.fields.now) c.field-number.result.now
          c.field-letter.result.now c.field-value.result.now long c.field-number.ensures
          c.field-letter.ensures c.field-value.ensures,
      c.in-Some.ensures.some,
    ) c.mark_row.ensures

pub returns-in-None : goal.returns-in-None
returns-in-None c =
    let long : length (fields_of c.args.fields.now) ≡ 3 = sym c.len.ensures ∙ c.if-len-ne3.false in
    let are = three_fields (fields_of c.args.fields.now) c.field-number.result.now
    c.field-letter.result.now c.field-value.result.now long c.field-number.ensures
    c.field-letter.ensures c.field-value.ensures in
    (λ own. c.in-None.ensures.none own.mark (cc (are, own.are)), c.requires)
