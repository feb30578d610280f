-- What each step has, and some step has.
use Rattle.mdb_bus.proofs.Words.{Break, EachStep, Event, HasEffect, Effect, Leads, Ok, refl, Situation, SomeStep, Step, Word, ℕ, ◌≡◌}
use Rattle.mdb_bus.specs.declared.effect.Effect.TheVariants as effect
use Rattle.mdb_bus.specs.shared.Step as step

-- a step that has what some step has and what each step has
pub some_each : (found : Effect) (row : Event) (One Two : Step → Type 0) → SomeStep found row One
    → EachStep found row Two → (next : Step) × One next × Two next
some_each effect.Ask row One Two one two = (step.Ask one.0, one.1, two one.0)
some_each effect.Break (Break at length) One Two one two = search
some_each found row One Two one two = search

-- what is made of a row that ends no reply is where it leads
pub leads_of : (found : Effect) (s : Situation) (row : Event) → (found ≡ effect.Reply → ⊥)
    → HasEffect s row (Ok found) → SomeStep found row (Leads s row)
leads_of effect.Reply s row other h = absurd (other refl)
leads_of found s row other h = h

-- a break's step has what it has by the length that the row says
pub each_break : (found : Effect) (row : Event) (Has : Step → Type 0) → found ≡ effect.Break
    → ((at length : ℕ) → row ≡ Break at length → Has (step.Break length)) → EachStep found row Has
each_break effect.Break (Break at length) Has is has = has at length refl
each_break effect.Break (Word at line word) Has is has = tt
each_break found row Has is has = absurd (cc)
