-- What is shown goes by how the reading of rows ended, and so does what is told of that.
use Rattle.mdb_show.proofs.Words.{List, None, Ok, Option, Result, Some, ap, subst, ℕ, ◌∙◌, ◌≡◌, LinkFault, Scope, IsNotWhole, lines_in, PutsShowing, Form, not_taken_of_output, reads_all, reads_fault, reads_output, is_fault, RunFault, Output}
use Rattle.mdb_show.proofs.Showings as showings
use Rattle.mdb_show.proofs.showing.show_rows.Goals as goal

-- the form and the scope stay
kept : (all : List (List (List ℕ))) (before after : Output)
    (answer : Result (Option LinkFault) RunFault) (first : Scope × Form) {now : Scope × Form}
    → now ≡ first → PutsShowing (lines_in now.1) now.0 all before after answer
    → PutsShowing (lines_in first.1) first.0 all before after answer
kept all before after answer first same shows =
    subst (λ (k : Scope × Form). PutsShowing (lines_in k.1) k.0 all before after answer) same shows

pub returns-in_err-stop-clause-shows : goal.returns-in_err-stop-clause-shows
returns-in_err-stop-clause-shows g c all to_come =
    rw (is_fault c.from_residual.result c.from_residual.ensures.1)
    (kept _ _ _ _ _ c.read_rows.ensures.keeps
    (showings.refused_by _ _ _ _ _ _ _ (c.in_err-stop.ensures.ended all to_come)))

pub returns-in_err-stop-2-clause-shows : goal.returns-in_err-stop-2-clause-shows
returns-in_err-stop-2-clause-shows g c all to_come =
    rw (is_fault c.from_residual-in_err-stop-2.result c.from_residual-in_err-stop-2.ensures.1)
    (kept _ _ _ _ _ c.read_rows.ensures.keeps
    (showings.untaken_by _ _ _ c.read_rows.new.taker.lines _ _ _
    (rw c.in_err-stop-2.was at (rw c.in-Some.is at (c.in_ok-stop.ensures.ended all to_come)))))

pub returns-in-Some-clause-shows : goal.returns-in-Some-clause-shows
returns-in-Some-clause-shows g c all to_come =
    kept _ _ _ _ _ c.read_rows.ensures.keeps (showings.at_fault _ _ _
    c.read_rows.new.taker.lines _ _ _
    (rw c.in_ok-stop-2.was at (rw c.in-Some.is at (c.in_ok-stop.ensures.ended all to_come))))

pub returns-in_err-add_cut-clause-shows : goal.returns-in_err-add_cut-clause-shows
returns-in_err-add_cut-clause-shows g c all to_come =
    rw (is_fault c.from_residual-in_err-add_cut.result c.from_residual-in_err-add_cut.ensures.1)
    (kept _ _ _ _ _ c.read_rows.ensures.keeps (showings.untaken _ _ _ _ _ _ _
    (rw c.in_default.is at (c.in_ok-stop.ensures.ended all to_come)) _
    c.in_err-add_cut.ensures.refused))

pub returns-clause-shows : goal.returns-clause-shows
returns-clause-shows g c all to_come =
    kept _ _ _ _ _ c.read_rows.ensures.keeps (showings.whole _ _ _ _ _ _ _
    (rw c.in_default.is at (c.in_ok-stop.ensures.ended all to_come)) c.in_ok-add_cut.ensures.added)

pub returns-in_err-stop-clause-reads : goal.returns-in_err-stop-clause-reads
returns-in_err-stop-clause-reads g c =
    rw (is_fault c.from_residual.result c.from_residual.ensures.1)
    (reads_fault IsNotWhole g.R.Read.remaining c.args.records.now c.read_rows.new.records _
    (λ is. absurd (cc)) c.in_err-stop.ensures.heard c.in_err-stop.ensures.met)

pub returns-in_err-stop-2-clause-reads : goal.returns-in_err-stop-2-clause-reads
returns-in_err-stop-2-clause-reads g c =
    rw (is_fault c.from_residual-in_err-stop-2.result c.from_residual-in_err-stop-2.ensures.1)
    (reads_output IsNotWhole g.R.Read.remaining c.args.records.now c.read_rows.new.records _
    (λ is. absurd (cc)) (showings.stop_of_output _ _
    c.read_rows.new.taker.lines _ _ _ _
    (rw c.in-Some.is at c.in_ok-stop.ensures.stopped) c.in_err-stop-2.was))

pub returns-in-Some-clause-reads : goal.returns-in-Some-clause-reads
returns-in-Some-clause-reads g c =
    reads_output IsNotWhole g.R.Read.remaining c.args.records.now c.read_rows.new.records
    (Ok (Some c.in_ok-stop-2.field-0)) (λ is. absurd (cc)) tt

pub returns-in_err-add_cut-clause-reads : goal.returns-in_err-add_cut-clause-reads
returns-in_err-add_cut-clause-reads g c =
    rw (is_fault c.from_residual-in_err-add_cut.result c.from_residual-in_err-add_cut.ensures.1)
    (reads_output IsNotWhole g.R.Read.remaining c.args.records.now c.read_rows.new.records _
    (λ is. absurd (cc)) (not_taken_of_output _ _ _ _ c.in_err-add_cut.ensures.refused))

pub returns-clause-reads : goal.returns-clause-reads
returns-clause-reads g c =
    reads_all IsNotWhole g.R.Read.remaining c.args.records.now c.read_rows.new.records
    (λ over. c.read_rows.ensures.whole over (c.in_ok-stop.was ∙ ap Ok c.in_default.is))
    (rw c.in_default.is at c.in_ok-stop.ensures.met) (Ok None) tt
