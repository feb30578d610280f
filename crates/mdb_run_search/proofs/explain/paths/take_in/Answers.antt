-- A way that goes on is taken in, or one that is as good stays.
use Rattle.mdb_run_search.proofs.Words.{arith, ap, refl, sym, ◌+◌, w64, to_z-of_z, ints}
use Rattle.mdb_run_search.proofs.Bests.{has-push, has-set, has-still, takes-push, takes-set, good-read, marks-few}
use Rattle.mdb_run_search.proofs.explain.paths.take_in.Goals as goal

pub overflow_add-marks : goal.overflow_add-marks
overflow_add-marks g c =
    omega (arith, marks-few c.args.row c.args.choice, c.marks_of.ensures c.args.row, c.requires.few)

pub returns-in_ok-chain-in-Some-clause-takes : goal.returns-in_ok-chain-in-Some-clause-takes
returns-in_ok-chain-in-Some-clause-takes g c =
    takes-set c.args.room.now.entries.items c.in-Some.place c.args.code _ (record {
      code = refl;
      value = to_z-of_z w64 c.args.value c.ranges.value;
      marks = ap (λ n. c.args.before.now.marks + n) (c.marks_of.ensures c.args.row);
      chain = c.in_ok-chain-in-Some.ensures.grown;
    }) c.in-Some.ensures (λ d. good-read c.args.room.now.entries.items c.in-Some.place d
    c.index.result.now c.in-Some.ensures.0 (sym c.index.ensures)
    c.if-not-is_beaten_by.ensures.better)

pub returns-in_ok-chain-in-Some-clause-has : goal.returns-in_ok-chain-in-Some-clause-has
returns-in_ok-chain-in-Some-clause-has g c =
    let value = to_z-of_z w64 c.args.value c.ranges.value in
    let marks = c.marks_of.ensures c.args.row in
    has-set c.args.room.now.entries.items c.args.code _ (omega (arith, ints)) c.in-Some.place
    c.in-Some.ensures.0

pub returns-in_ok-push-in-None-clause-has : goal.returns-in_ok-push-in-None-clause-has
returns-in_ok-push-in-None-clause-has g c =
    let value = to_z-of_z w64 c.args.value c.ranges.value in
    let marks = c.marks_of.ensures c.args.row in
    rw c.in_ok-push-in-None.ensures.items
    (has-push c.args.room.now.entries.items c.args.code _ (omega (arith, ints)))

pub returns-then-not-is_beaten_by-clause-has : goal.returns-then-not-is_beaten_by-clause-has
returns-then-not-is_beaten_by-clause-has g c =
    let value = to_z-of_z w64 c.args.value c.ranges.value in
    let marks = c.marks_of.ensures c.args.row in
    let good = c.if-not-is_beaten_by.ensures.not in
    has-still c.args.room.now.entries.items c.in-Some.place c.args.code c.index.result.now
    c.in-Some.ensures (sym c.index.ensures) (omega (arith, ints))

pub returns-in_ok-push-in-None-clause-takes : goal.returns-in_ok-push-in-None-clause-takes
returns-in_ok-push-in-None-clause-takes g c =
    rw c.in_ok-push-in-None.ensures.items
    (takes-push c.args.room.now.entries.items _ (record {
      code = refl;
      value = to_z-of_z w64 c.args.value c.ranges.value;
      marks = ap (λ n. c.args.before.now.marks + n) (c.marks_of.ensures c.args.row);
      chain = c.in_ok-chain-in-None.ensures.grown;
    }))
