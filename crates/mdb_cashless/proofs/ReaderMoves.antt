-- What the steps of a reader come to, for the functions of its code.
use Rattle.mdb_cashless.proofs.Words.{◌≡◌, ◌∙◌, ◌↔◌, Bool, true, false, not, Some, refl, sym, ReaderCommand, ReaderUnit, Act, Choice, Lost, Gains, Stays, ReaderState, View, view_heard, no_end, OfSome, StepKnowing, asked, sold_to, KnownFacts, changes_view, Facts}
use Rattle.std.specs.Bool.{OnFalse, OnTrue}
use Rattle.mdb_cashless.specs.Reader.{AckStep, AskStep, ReaderStep, take}

-- states with the same parts
pub same_state : {one other : ReaderState} → one.device ≡ other.device → one.view ≡ other.view
    → one.holds ≡ other.holds → one ≡ other
same_state device view holds = rw (device, view, holds)

-- what holds where a test denies, or says no
pub denied : {P : Type 0} (is : Bool) → (is ≡ false → P) → OnFalse is P
denied true p = tt
denied false p = p refl

pub where_not : {P : Type 0} (is : Bool) → (is ≡ false → P) → OnTrue (not is) P
where_not true p = tt
where_not false p = p refl

module _ (facts : Facts) (before after : ReaderState) (gains : Gains) where
  -- a command that leaves the view
  leaves : (command : ReaderCommand) (view : View) → changes_view command ≡ false
      → (asked facts command view ≡ Some view) × (sold_to facts command view ≡ no_end)
  leaves ReaderCommand.Reset view still = absurd cc
  leaves command view still = (cc, cc)

  -- asking it changes nothing
  pub ask_stays : (command : ReaderCommand) → changes_view command ≡ false
      → AskStep facts command before after gains ↔ Stays before after gains
  ask_stays command still =
      let left = leaves command before.view still in (
        λ step.
            let view : Some before.view ≡ Some after.view = sym left.0 ∙ step.view in
            let views : after.view ≡ before.view = cc in
            (same_state step.device views step.holds, rw left.1 at step.gained),
        λ stays. record {
          view = rw stays.0 left.0;
          device = rw stays.0;
          holds = rw stays.0;
          gained = rw left.1 stays.1;
        },
      )

  -- a POLL that is acknowledged while nothing is held changes nothing
  polled : (choice : Choice) → before.holds ≡ false
      → record (take facts ReaderCommand.Poll before) {
        view = view_heard choice ReaderCommand.Poll before.view;
      } ≡ before
  polled Lost free = rw free refl
  polled choice free = rw free refl

  pub poll_rests : (choice : Choice) → before.holds ≡ false
      → AckStep facts ReaderCommand.Poll choice before after gains ↔ Stays before after gains
  poll_rests choice free = (
    λ step. (step.to ∙ polled choice free, rw free at step.gained),
    λ stays. record {
      poll = free;
      to = stays.0 ∙ sym (polled choice free);
      gained = rw free stays.1;
    },
  )

-- steps by an act of the reader, where not all is known
pub knowing_of : {unit : ReaderUnit} {known : KnownFacts} {act : Act} {choice : Choice}
    {before after : ReaderState} {gains : Gains} {Found : Type 0}
    → Found ↔ OfSome known before.holds (λ facts. ReaderStep unit facts act choice before after
    gains)
    → Found ↔ StepKnowing unit known act choice before after gains
knowing_of some = (
  λ found. let is = some.0 found in record { facts = is.0; allowed = is.1; step = is.2 },
  λ step. some.1 (step.facts, step.allowed, step.step),
)

pub as_found : {unit : ReaderUnit} {known : KnownFacts} {act : Act} {choice : Choice}
    {before after : ReaderState} {gains : Gains} {Found : Type 0}
    → Found ↔ OfSome known before.holds (λ facts. ReaderStep unit facts act choice before after
    gains)
    → StepKnowing unit known act choice before after gains ↔ Found
as_found some = let way = knowing_of some in (way.1, way.0)
