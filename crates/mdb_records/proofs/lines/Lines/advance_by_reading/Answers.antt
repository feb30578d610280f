-- If a read gives nothing and nothing is unread, the text has ended.
use Rattle.mdb_records.proofs.Words.{◌≡◌, ◌-◌, ◌∙◌, sym, limited_remaining}
use Rattle.csv.proofs.ReadFacts.{keeps-trans}
use Rattle.mdb_records.proofs.LineFacts.{ends-text}
use Rattle.mdb_records.proofs.lines.Lines.advance_by_reading.Goals as goal

pub returns-then-is_end-clause-told : goal.returns-then-is_end-clause-told
returns-then-is_end-clause-told g c =
    let lines = c.fill.new.self in
    let none : lines.filled - lines.at ≡ 0 = sym c.unread_count-is_end.ensures ∙ c.if-is_end.true in
    let kept = keeps-trans _ _ _ c.reads.invariant.0 c.in_ok-fill.ensures.keeps in
    ends-text lines.begun _ (limited_remaining g.R.Read.remaining lines.source)
    (c.in_ok-fill.ensures.end c.if-branch-eq0.true)
    (rw none at kept)
