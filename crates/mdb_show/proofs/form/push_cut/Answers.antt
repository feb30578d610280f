-- As JSON, too, the line of a cut tail is that of its form.
use Rattle.mdb_show.proofs.Words.{subst, sym, ◌≡◌, ◌++◌, OnOk, Form, lines_in}
use Rattle.mdb_show.proofs.JsonLines.{cut_line, put_as}
use Rattle.mdb_show.proofs.form.push_cut.Goals as goal

pub returns-in-Json : goal.returns-in-Json
returns-in-Json c =
    let Put : Form → Type 0 = λ form. OnOk c.push_cut_line-in-Json.result
    (c.push_cut_line-in-Json.new.text.items
    ≡ c.args.text.now.items ++ (lines_in form).cut c.args.first c.args.last) in
    subst Put (sym c.in-Json.is)
    (put_as c.push_cut_line-in-Json.result _ _ _ _ (cut_line c.args.first c.args.last)
    c.push_cut_line-in-Json.ensures)
