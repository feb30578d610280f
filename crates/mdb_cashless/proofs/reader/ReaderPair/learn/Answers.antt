-- One act more leads on what is known of the pair's unit.
use Rattle.mdb_cashless.proofs.Words.{◌≡◌, List, ◌∷◌, subst, ReaderUnit, Act, Beginning, known_of, known_in}
use Rattle.mdb_cashless.proofs.reader.ReaderPair.learn.Goals as goal

pub returns : goal.returns
returns g c =
    subst (λ (unit : ReaderUnit). (begins : Beginning) (acts : List Act)
    → known_in c.args.known.now ≡ known_of begins unit acts
    → known_in c.learn.new.self ≡ known_of begins unit (c.args.act.now ∷ acts))
    c.unit_of.ensures c.learn.ensures
