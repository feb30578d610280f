-- Room is made for the line, or the writer fails.
use Rattle.mdb_explain.proofs.Words.{[], mark_line, output}
use Rattle.mdb_writing.proofs.Outputs as outputs
use Rattle.mdb_explain.proofs.ExplainedTexts.{put_room}
use Rattle.mdb_explain.proofs.lines.add_mark.Goals as goal

pub returns-in_err-make_room-clause-broken : goal.returns-in_err-make_room-clause-broken
returns-in_err-make_room-clause-broken g c =
    let later = output (g.W.Write.contents c.make_room.new.writer) c.make_room.new.self in
    outputs.at_error c.from_residual.result _
    (outputs.break_longer _ later [] (mark_line c.args.mark.now)
    c.in_err-make_room.ensures.broken)

pub returns-clause-added : goal.returns-clause-added
returns-clause-added g c = put_room _ _ _ _ c.in_ok-make_room.ensures.put c.push_mark.ensures
