-- Messages are taken one after the other, until none is left or none stands there.
use Rattle.mdb_msgs.proofs.Words.{◌||◌, Bool, [], ap, ap₂, refl, subst, sym, ◌∙◌, err_from_is_err_and, Ids, Reading, no_messages, with_message, has_long, AreReaderMsgs}
use Rattle.mdb_msgs.proofs.ReaderBytes.{are_messages, read_own}
use Rattle.mdb_msgs.proofs.ReaderReading.{all_read, any_more, ids_more, nothing_taken, stops_next, takes_next}
use Rattle.mdb_msgs.proofs.reply.reader.read_messages.Goals as goal

abbrev reading_with : Bool → Ids → Reading
reading_with is_long ids = record { is_long = is_long; ids = ids }

pub loop-first-init : goal.loop-first-init
loop-first-init c = (no_messages, nothing_taken c.args.reading c.args.bytes.now, refl, refl)

pub returns-in_err-message-clause-err : goal.returns-in_err-message-clause-err
returns-in_err-message-clause-err c =
    let p = err_from_is_err_and c.from_residual.result c.from_residual.ensures.1 in
    rw (p.1, p.2) (stops_next c.loop-first.invariant.1 c.in-Some.ensures.cases.0
    c.in_err-message.ensures.err)

pub loop-first-preserved : goal.loop-first-preserved
loop-first-preserved c = (
  with_message c.loop-first.invariant.0 c.in_ok-message.message c.in_ok-message.field-0-1.now,
  takes_next c.loop-first.invariant.1 _ _ _ c.requires c.in-Some.ensures.cases.0
      c.in_ok-message.ensures.bytes c.in_ok-message.ensures.text,
  ap (λ b. c.loop-first.is_long || b) c.has_long-is_long.ensures
      ∙ any_more c.loop-first.invariant.0 c.in_ok-message.message
      c.in_ok-message.field-0-1.now has_long _ c.loop-first.invariant.2,
  c.widened-ids.ensures
      ∙ ids_more c.loop-first.invariant.0 c.in_ok-message.message
      c.in_ok-message.field-0-1.now _ c.loop-first.invariant.3,
)

pub invariant_of-result : goal.invariant_of-result
invariant_of-result c =
    let taken = c.loop-first.invariant in
    let all = all_read _ taken.1 c.in_default.ensures.cases in
    are_messages _ taken.0 _ all.1 (c.list_of.ensures ∙ all.0)
    (ap₂ reading_with taken.2 taken.3)

pub returns-clause-fields : goal.returns-clause-fields
returns-clause-fields c = (invariant_of-result c).is_list

pub returns-clause-reading : goal.returns-clause-reading
returns-clause-reading c =
    let taken = c.loop-first.invariant in
    let all = all_read _ taken.1 c.in_default.ensures.cases in
    let same = read_own _ taken.0 _ all.1 (c.list_of.ensures ∙ all.0)
    (ap₂ reading_with taken.2 taken.3) in
    subst (λ list. AreReaderMsgs c.args.reading list []) (sym same) all.2

pub returns-clause-bytes : goal.returns-clause-bytes
returns-clause-bytes c = sym c.list_of.ensures ∙ sym (invariant_of-result c).spelled
