-- The entries of the accounts so far are listed.
use Rattle.mdb_page.proofs.Words.{HasListed, List, PageRise, flat_map, rises_in, take, ℕ, ◌*◌, ◌++◌, ◌+◌, ◌≡◌, ◌≤◌}
use Rattle.mdb_page.proofs.rises.RiseListing.take.Given as goal

abbrev pub invariant-loop-name : goal.invariant-loop-name
invariant-loop-name l = record {
  last : l.self.last ≡ l.fn.self.last;
  count : l.self.count ≤ l.fn.self.count + 2 * l.name-index;
  listed : (skip : ℕ) (all before : List PageRise)
      → HasListed skip all l.fn.self before l.fn.rises
      → HasListed skip
      (all ++ flat_map (rises_in l.fn.self.last l.report) (take l.name-index l.name-items))
      l.self before l.rises;
}
