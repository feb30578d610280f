-- As JSON, too, the line of a fault is that of its form.
use Rattle.mdb_show.proofs.Words.{subst, sym, ◌≡◌, ◌++◌, OnOk, Form, lines_in}
use Rattle.mdb_show.proofs.JsonLines.{fault_line, put_as}
use Rattle.mdb_show.proofs.form.push_fault.Goals as goal

pub returns-in-Json : goal.returns-in-Json
returns-in-Json c =
    let Put : Form → Type 0 = λ form. OnOk c.push_fault_line-in-Json.result
    (c.push_fault_line-in-Json.new.text.items
    ≡ c.args.text.now.items ++ (lines_in form).fault c.args.row c.args.fault) in
    subst Put (sym c.in-Json.is)
    (put_as c.push_fault_line-in-Json.result _ _ _ _ (fault_line c.args.row c.args.fault)
    c.push_fault_line-in-Json.ensures)
