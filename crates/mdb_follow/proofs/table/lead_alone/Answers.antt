-- A table of one entry after an act: what the two steps from it lead to.
use Rattle.mdb_follow.proofs.Words.{true, false, Sums, ◌≡◌, ◌+◌, ◌∷◌, ◌^◌, ◌∙◌, [], ap, arith, get_or, ℕ, List, refl, All-head, Act, Beginning, Cell, Arrives, AreBelow, LeadTo, IsCellWithin, IsTableWithin, ArrivesAt, Bounds, IsTable, OnFalse_at, OnFalse_from, OnTrue_at, OnTrue_from}
use Rattle.mdb_follow.proofs.Alone.{alone-below, alone-either, alone-led, alone-within, lead-none, only-is, some-entry}
use Rattle.mdb_follow.proofs.Limits.{table-within-weaker}
use Rattle.mdb_follow.proofs.Ways.{nothing-arrives, table-some}
use Rattle.mdb_follow.proofs.table.lead_alone.Given as given
use Rattle.mdb_follow.proofs.table.lead_alone.Goals as goal

-- the code of the only entry
code-is : (entries : List (ℕ × Cell)) (entry d : ℕ × Cell) → entries ≡ entry ∷ []
    → (get_or entries 0 d).0 ≡ entry.0
code-is entries entry d only = ap (λ (s : List (ℕ × Cell)). (get_or s 0 d).0) only

-- what arrives after the act
arrives : (g : given.Over) (c : goal.After-lead_only g) (begins : Beginning) (acts : List Act)
    (entry : ℕ × Cell) (after : List (ℕ × Cell)) → g.P.Pair.stands_for begins c.args.facts.now acts
    → IsTable g.P.Pair.code_of (g.P.Pair.machine begins) acts c.args.entries.now
    → c.args.entries.now ≡ entry ∷ []
    → LeadTo entry.1 c.step-plain.result c.second_step-second.result after
    → Bounds (ArrivesAt g.P.Pair.code_of
    (Arrives (g.P.Pair.machine begins) (c.args.act.now ∷ acts))) after
arrives g c begins acts entry after stands table only led =
    let p = g.P.Pair in
    alone-led p.device p.code_of (p.machine begins) c.args.act.now acts c.args.entries.now entry _
    c.step-plain.result c.second_step-second.result after only
    (code-is c.as_slice.result.now entry _ (c.as_slice.ensures ∙ only))
    g.met.P.Pair.apart (c.step-plain.ensures.steps begins acts stands)
    (c.second_step-second.ensures.sound begins acts stands)
    (c.second_step-second.ensures.whole begins acts stands) table led

table-told : (g : given.Over) (c : goal.After-lead_only g) → c.lead_only.result ≡ true
    → (begins : Beginning) (acts : List Act) → g.P.Pair.stands_for begins c.args.facts.now acts
    → IsTable g.P.Pair.code_of (g.P.Pair.machine begins) acts c.args.entries.now
    → IsTable g.P.Pair.code_of (g.P.Pair.machine begins) (c.args.act.now ∷ acts)
    c.lead_only.new.entries
table-told g c is begins acts stands table =
    let one = only-is c.args.entries.now c.requires.only in
    table-some g.P.Pair.code_of (g.P.Pair.machine begins) (c.args.act.now ∷ acts)
    c.lead_only.new.entries
    (arrives g c begins acts one.0 c.lead_only.new.entries stands table one.1
    (OnTrue_at is c.lead_only.ensures.led one.0 one.1))
    (some-entry c.lead_only.new.entries (OnTrue_at is c.lead_only.ensures.some))

pub returns-clause-table : goal.returns-clause-table
returns-clause-table g c = OnTrue_from _ _ (table-told g c)

none-told : (g : given.Over) (c : goal.After-lead_only g) → c.lead_only.result ≡ false
    → (begins : Beginning) (acts : List Act) → g.P.Pair.stands_for begins c.args.facts.now acts
    → IsTable g.P.Pair.code_of (g.P.Pair.machine begins) acts c.args.entries.now
    → (state : g.row.P-State.Denot) (sums : Sums)
    → Arrives (g.P.Pair.machine begins) (c.args.act.now ∷ acts) state sums → ⊥
none-told g c is begins acts stands table =
    let one = only-is c.args.entries.now c.requires.only in
    let none = OnFalse_at is c.lead_only.ensures.none in
    nothing-arrives g.P.Pair.code_of (g.P.Pair.machine begins) (c.args.act.now ∷ acts) []
    (arrives g c begins acts one.0 [] stands table one.1
    (lead-none one.0.1 c.step-plain.result c.second_step-second.result none.0 none.1)) refl

pub returns-clause-none : goal.returns-clause-none
returns-clause-none g c = OnFalse_from _ _ (none-told g c)

pub returns-clause-below : goal.returns-clause-below
returns-clause-below g c =
    let one = only-is c.args.entries.now c.requires.only in
    alone-either (AreBelow g.row.N) c.lead_only.result c.args.entries.now
    c.lead_only.new.entries _ c.lead_only.ensures.led c.lead_only.ensures.same
    (λ led. alone-below g.row.N g.P.Pair.CODES c.step-plain.result c.second_step-second.result
    c.requires.size c.step-plain.ensures.below c.second_step-second.ensures.below one.0.1 _
    (led one.0 one.1)) c.requires.below

pub returns-clause-within : goal.returns-clause-within
returns-clause-within g c limit all =
    let one = only-is c.args.entries.now c.requires.only in
    let within = All-head (λ entry. IsCellWithin limit entry.1) one.0 [] (rw one.1 at all) in
    alone-either (IsTableWithin (limit + 2 ^ 32)) c.lead_only.result c.args.entries.now
    c.lead_only.new.entries _ c.lead_only.ensures.led c.lead_only.ensures.same
    (λ led. alone-within g.row.N g.P.Pair.CODES c.step-plain.result c.second_step-second.result
    c.requires.size c.step-plain.ensures.below c.second_step-second.ensures.below limit one.0.1 _
    within (led one.0 one.1))
    (table-within-weaker limit (limit + 2 ^ 32) c.args.entries.now (omega arith) all)
