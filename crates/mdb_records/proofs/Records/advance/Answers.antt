-- The next record is told by a reader of lines, or read by csv from where that stands.
use Rattle.std.proofs.lemmas.Result.{IfOk-weaker}
use Rattle.mdb_records.proofs.Words.{refl}
use Rattle.mdb_records.proofs.Records.advance.Goals as goal
use Rattle.mdb_records.proofs.Records.advance.Goals.{in-Lines+in-Ok-None, in_default-stage}
use Rattle.mdb_records.proofs.ReadingFacts.{line-goes-on, line-over, lines-stand, same-over, same-to-come}

pub returns-in-Ok-Some-clause-next : goal.returns-in-Ok-Some-clause-next
returns-in-Ok-Some-clause-next g c = rw c.in-Ok-Some.found-is (λ rows h.
    line-goes-on g.R.Read.remaining c.args.self.now _ c.in-Lines.lines c.advance.new.self
    c.in-Ok-Some.found c.in-Lines.is refl h.going
    (rw c.in-Ok-Some.field-0-is at c.in-Ok-Some.ensures.told) c.in-Ok-Some.ensures.bytes rows h)

pub returns-in-Ok-Some-clause-endless : goal.returns-in-Ok-Some-clause-endless
returns-in-Ok-Some-clause-endless g c = rw c.in-Ok-Some.found-is (λ h.
    line-over g.R.Read.remaining c.args.self.now _ c.in-Lines.lines c.advance.new.self
    c.in-Ok-Some.found c.in-Lines.is refl h.going
    (rw c.in-Ok-Some.field-0-is at c.in-Ok-Some.ensures.told) c.in-Ok-Some.ensures.bytes h)

pub returns-clause-next : goal.returns-clause-next
returns-clause-next g c = elim c.match-self-2.branch [
  | in-Lines+in-Ok-None w ↦
      let kept = rw w.in-Ok-None.field-0-is at w.in-Ok-None.ensures.told in
      IfOk-weaker c.advance_by_csv.result _ _ (λ found f rows h. f rows (rw w.self-is
      (w.hand_over.ensures.next rows (same-to-come g.R.Read.remaining c.args.self.now _
      (λ state given. lines-stand g.R.Read.remaining c.args.self.now.stage w.in-Lines.lines
      w.advance.new.self state given w.in-Lines.is kept) refl rows h))))
      c.advance_by_csv.ensures.next
  | in_default-stage w ↦
      IfOk-weaker c.advance_by_csv.result _ _ (λ found f rows h. f rows (rw w.self-is
      (same-to-come g.R.Read.remaining c.args.self.now _ (λ state given stands. stands) refl rows
      h))) c.advance_by_csv.ensures.next
]

pub returns-clause-endless : goal.returns-clause-endless
returns-clause-endless g c = elim c.match-self-2.branch [
  | in-Lines+in-Ok-None w ↦
      let kept = rw w.in-Ok-None.field-0-is at w.in-Ok-None.ensures.told in
      IfOk-weaker c.advance_by_csv.result _ _ (λ found f h. f (rw w.self-is
      (w.hand_over.ensures.endless (same-over g.R.Read.remaining c.args.self.now _
      (λ state given. lines-stand g.R.Read.remaining c.args.self.now.stage w.in-Lines.lines
      w.advance.new.self state given w.in-Lines.is kept) refl h))))
      c.advance_by_csv.ensures.endless
  | in_default-stage w ↦
      IfOk-weaker c.advance_by_csv.result _ _ (λ found f h. f (rw w.self-is
      (same-over g.R.Read.remaining c.args.self.now _ (λ state given stands. stands) refl h)))
      c.advance_by_csv.ensures.endless
]
