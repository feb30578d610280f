-- The text follows what waited. A writer that fails has what waited and a front of the text.
use Rattle.mdb_writing.specs.Output.{output}
use Rattle.mdb_writing.proofs.Outputs.{at_error, if_ok, put_written, taken_after}
use Rattle.mdb_writing.proofs.page.Page.put.Goals as goal

pub returns-clause-added : goal.returns-clause-added
returns-clause-added g c =
    let held = g.W.Write.contents in
    if_ok c.write_text.result _ _ (λ written. put_written
    (output (held c.args.writer.now) c.args.self.now)
    (output (held c.write_text.new.writer) c.write_out.new.self) (held c.write_out.new.writer)
    c.args.text.now c.in_ok-write_out.ensures.written written c.in_ok-write_out.ensures.empty)
    c.write_text.ensures.whole

pub returns-clause-broken : goal.returns-clause-broken
returns-clause-broken g c =
    let held = g.W.Write.contents in
    at_error c.write_text.result _ (taken_after (held c.args.writer.now)
    (held c.write_out.new.writer) (held c.write_text.new.writer) c.args.self.now c.args.text.now
    c.in_ok-write_out.ensures.written c.write_text.ensures.front)
