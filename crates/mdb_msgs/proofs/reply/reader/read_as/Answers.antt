-- Bytes that are refused, or read as another list, aren't those of this list.
use Rattle.mdb_msgs.proofs.Words.{IsSome, sym, subst, ◌∙◌}
use Rattle.mdb_msgs.proofs.ReaderWriting.{never_refused, read_back}
use Rattle.mdb_msgs.proofs.reply.reader.read_as.Goals as goal

pub returns-in_err-list-clause-exactly : goal.returns-in_err-list-clause-exactly
returns-in_err-list-clause-exactly c = (
  λ some. let none = subst IsSome c.from_residual.ensures some in absurd (cc none),
  λ h. absurd (never_refused _ _ _ c.read_messages.result c.reading_of.ensures c.requires.bytes
      c.read_messages.ensures.err (sym c.ok.ensures.value ∙ c.in_err-list.was) h),
)

pub returns-else-has-clause-exactly : goal.returns-else-has-clause-exactly
returns-else-has-clause-exactly c = (
  λ no. absurd (cc no),
  λ h. let same = read_back _ _ _ c.in_ok-list.list c.read_messages.result c.reading_of.ensures
      c.requires.bytes c.read_messages.ensures.fields c.read_messages.ensures.reading
      c.read_messages.ensures.bytes (sym c.ok.ensures.value ∙ c.in_ok-list.was) h in
      sym c.if-has.false ∙ c.has.ensures.1 same,
)
