use Rattle.std.proofs.Common.{rules, ◌∷◌, []}
use Rattle.std.proofs.KnownBytes.{Appends-nil, Appends-trans}
use Rattle.mdb_examples.proofs.surveying.log_row.Goals as goal

pub returns-in-None : goal.returns-in-None
returns-in-None g c = record {
  logged = λ scope rows ended stands.
      ([], c.in-None.ensures.taken scope rows ended stands, Appends-nil _);
}

pub returns-in_err-write_stretch-in-Some : goal.returns-in_err-write_stretch-in-Some
returns-in_err-write_stretch-in-Some g c = record {
  logged = λ scope rows ended stands.
      (c.in-Some.ended ∷ [], c.in-Some.ensures.ended scope rows ended stands, search rules);
}

pub returns-in_ok-write_stretch-in-Some : goal.returns-in_ok-write_stretch-in-Some
returns-in_ok-write_stretch-in-Some g c = record {
  logged = λ scope rows ended stands. (
    c.in-Some.ended ∷ [],
    c.in-Some.ensures.ended scope rows ended stands,
    search (rules, Appends-trans, c.in_ok-write_stretch-in-Some.ensures, c.write_fault.ensures),
  );
}
