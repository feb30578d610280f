-- The entries made so far are what the entries seen lead to, and each chain stays as it is read.
use Rattle.mdb_run_search.proofs.Words.{List, take, Act, PowerOn, Profile, CanStand, KeepChains, AreLed}
use Rattle.mdb_run_search.proofs.explain.paths.fill.Given as goal

abbrev pub invariant-loop-entry : goal.invariant-loop-entry
invariant-loop-entry g l =
    let p = g.P.Pair in
    record {
      kept : KeepChains l.initial.chains.links.items l.chains.links.items;
      led : (profile : Profile) (acts : List Act) → p.stands_for (PowerOn profile) l.facts acts
          → AreLed p.CODES (CanStand l.act) p.code_of
          ((p.machine (PowerOn profile)).Step acts l.act) l.weight l.row
          l.initial.chains.links.items l.chains.links.items
          (take l.entry-index l.from) l.room.entries.items;
    }
