-- One cell more: it is joined to the entry of its code, or the code has none and it is an entry.
use Rattle.mdb_follow.proofs.Words.{rules, ◌≡◌, ℕ, Bool, false, List, [], sym, ◌∙◌, get_or, IsTrue, false≢true, Cell, moved_cell, HasAt, IsPlaced, Lacks}
use Rattle.mdb_follow.proofs.Listed.{keyed-room, keyed-with_cell, with_cell-push, with_cell-set}
use Rattle.mdb_follow.proofs.Places.{placed-front, placed-lacks, placed-push, placed-written}
use Rattle.mdb_follow.proofs.entries.steps.add_cell.Goals as goal

pub returns-then-has_at : goal.returns-then-has_at
returns-then-has_at g c =
    let entries = c.args.entries.now in
    let cell = moved_cell c.args.cell.now c.args.gains.now in
    let true' : IsTrue c.has_at.result = search rules in
    let has = rw c.as_slice.ensures at (c.has_at.ensures.0 true') in
    let made = c.set.ensures
    ∙ rw (c.joined-joined.ensures, c.as_slice-then-has_at.ensures, c.moved.ensures)
    (with_cell-set c.args.code cell entries (get_or c.args.places.now c.args.code 0) _ has.0
    (placed-front entries c.args.places.now c.args.code (0, c.moved.result) c.requires.placed)
    (has.1 _)) in
    record {
      entries = made;
      keyed = rw made (keyed-with_cell c.args.code cell g.row.N entries c.requires.below
          c.requires.keyed);
      placed = rw c.set.ensures (placed-written entries c.args.places.now _ c.args.code
          c.joined-joined.result has c.requires.placed);
    }

-- what the test tells where it fails
lacks-told : (entries slice : List (ℕ × Cell)) (places : List ℕ) (code : ℕ) (told : Bool)
    → slice ≡ entries → IsPlaced entries places → told ≡ false
    → (HasAt slice (get_or places code 0) code → IsTrue told) → Lacks entries code
lacks-told entries slice places code told is placed failed finds =
    placed-lacks entries places code (0, record { accounts = [] }) placed
    (λ has. false≢true (sym failed ∙ finds (rw is has)))

pub push-requires : goal.push-requires
push-requires g c =
    let entries = c.args.entries.now in
    let lacks = lacks-told entries c.as_slice.result.now c.args.places.now c.args.code
    c.has_at.result c.as_slice.ensures c.requires.placed c.if-has_at.false
    c.has_at.ensures.1 in (
      search rules,
      keyed-room _ entries c.args.code c.requires.keyed c.requires.below lacks c.args.cell.now,
    )

pub returns-else-has_at : goal.returns-else-has_at
returns-else-has_at g c =
    let entries = c.args.entries.now in
    let cell = moved_cell c.args.cell.now c.args.gains.now in
    let lacks = lacks-told entries c.as_slice.result.now c.args.places.now c.args.code
    c.has_at.result c.as_slice.ensures c.requires.placed c.if-has_at.false
    c.has_at.ensures.1 in
    let made = c.push.ensures ∙ rw c.moved-else-has_at.ensures
    (sym (with_cell-push c.args.code cell entries lacks)) in
    record {
      entries = made;
      keyed = rw made (keyed-with_cell c.args.code cell g.row.N entries c.requires.below
          c.requires.keyed);
      placed = placed-push entries c.push.new.self c.args.places.now c.args.code c.len.result
          c.moved-else-has_at.result c.requires.placed lacks (search rules) c.len.ensures
          c.push.ensures;
    }
