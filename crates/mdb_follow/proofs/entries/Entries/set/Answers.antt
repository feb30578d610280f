-- One cell within the front is written, so the entries change at that place alone.
use Rattle.mdb_follow.proofs.Words.{◌≡◌, ◌<◌, ◌≤◌, ◌∙◌, ℕ, List, ap, arith, length, take, slice_set, length-take-le, take-set-lt}
use Rattle.mdb_follow.proofs.entries.Entries.set.Goals as goal

-- an element of a list's front is written
set-front : {X : Type 0} (n : ℕ) (xs front : List X) (i : ℕ) (x : X) → n ≤ length xs
    → take n xs ≡ front → i < length front → take n (slice_set xs i x) ≡ slice_set front i x
set-front n xs front i x fits is within =
    let long = length-take-le n xs fits in
    let same : length (take n xs) ≡ length front = ap length is in
    take-set-lt n xs i x (omega (arith, long, same, within))
    ∙ ap (λ ys. slice_set ys i x) is

pub returns : goal.returns
returns g c =
    let fits : c.self.inside.count ≤ g.row.N = c.self.invariant in
    set-front c.self.inside.count c.self.inside.cells c.args.self.now c.args.place
    (c.args.code, c.args.cell) (omega (arith, fits, c.self.told)) c.self.view_is c.requires
