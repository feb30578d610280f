-- Before the first row nothing was reported, and only levels told beforehand are known.
use Rattle.std.proofs.Common.{refl}
use Rattle.mdb_check.proofs.Following.{nothing}
use Rattle.mdb_check.proofs.heeding.Heeding.scoped.Goals as goal

pub returns-clause-taken : goal.returns-clause-taken
returns-clause-taken c = record {
  is = record {
    follows = record {
      in_scope = c.scoped.ensures.scope;
      stands = c.scoped.ensures.stands;
      counted = c.scoped.ensures.empty;
    };
    joined = c.is_joined.ensures;
    reported = λ is pieces list. nothing c.transcripts_have_one_act_list.ensures c.args.scope.now
        c.args.readers _ pieces c.known_before.ensures list;
    begun = λ is. refl;
  };
  last = refl;
  earlier = refl;
  begun = refl;
}
