-- What the verdict is, by how the reading of rows ended.
use Rattle.mdb_verdict.proofs.Words.{BadRow, Err, Event, HasFollowedRows, HasOffence, HasTakenOrStopped, IfErr, IfOk, IsAnswer, IsErrAnd, IsReached, IsRefusal, IsRow, IsTakenWhole, IsUnanswered, IsYes, List, No, Offence, Ok, Option, Outcome, Result, RunFault, Scope, StandsFor, TooLong, Yes, ap, arith, length-append, scope_of, ℕ, ◌∙◌, ◌≡◌}
use Rattle.std.proofs.lemmas.Result.{err_from_is_err_and}
use Rattle.std.specs.Result.{result_err}
use Rattle.mdb_follow.specs.declared.follower.Follower.{Follower}
use Rattle.mdb_follow.specs.Feeding.{HasTakenRows}
use Rattle.mdb_follow.specs.Offences.{IsOffence}
use Rattle.mdb_follow.specs.Sales.{SalesFollowApprovals}
use Rattle.mdb_verdict.proofs.Ends.{drawn, whole_as}

-- an answer that `?` hands on is its fault
pub is_fault : {A Fault : Type 0} {fault : Fault} (answer : Result A Fault)
    → IsErrAnd answer (λ other. other ≡ fault) → answer ≡ Err fault
is_fault answer is = let it = err_from_is_err_and answer is in it.1 ∙ ap Err it.2

-- what a follower stands for is reached
abbrev pub Reaches : Type 0
Reaches = (follower : Follower) (rows : List Event) → StandsFor follower rows
    → IsReached (scope_of follower) rows

pub reached : {scope : Scope} {follower : Follower} → Reaches → (rows : List Event)
    → HasFollowedRows scope follower rows → IsReached scope rows
reached {follower = follower} reaches rows has =
    rw has.in_scope at (reaches follower rows has.stands)

-- The follower has taken rows, or stops at one of them.
pub followed : (scope : Scope) (old new : Follower) (rows : List Event)
    (answer : Result Unit Offence) (stop : Option Offence) → stop ≡ result_err answer
    → IfOk answer (λ _. HasTakenRows old new rows)
    → ((before : List Event) → StandsFor old before → IfErr answer (HasOffence scope before rows))
    → scope_of new ≡ scope_of old → (earlier : List Event) → HasFollowedRows scope old earlier
    → HasTakenOrStopped (HasFollowedRows scope new) (IsOffence scope) earlier rows stop
followed scope old new rows (Ok done) stop is taken offends kept earlier has = rw is (record {
  in_scope = kept ∙ has.in_scope;
  stands = taken.stands earlier has.stands;
  counted = omega (arith, taken.counted, has.counted, length-append earlier rows);
})
followed scope old new rows (Err offence) stop is taken offends kept earlier has =
    let at = offends earlier has.stands in
    rw is (record {
      front = at.front;
      row = at.row;
      rest = at.rest;
      parts = at.parts;
      stops = at.is;
    })

-- the text ends
pub whole_of : {Has : List Event → Type 0} (scope : Scope) {limit : ℕ}
    {all : List (List (List ℕ))} → ((rows : List Event) → SalesFollowApprovals scope rows)
    → IsTakenWhole IsRow Has limit all → (outcome : Outcome)
    → ((rows : List Event) → Has rows → IsYes scope rows outcome)
    → IsAnswer scope limit all (Ok outcome)
whole_of scope {limit = limit} {all = all} sales ended outcome tells_yes =
    told outcome (tells_yes ended.rows ended.has)
  where
    told : (outcome : Outcome) → IsYes scope ended.rows outcome
        → IsAnswer scope limit all (Ok outcome)
    told (Yes report) is_report = whole_as ended (is_report, sales ended.rows)
    told (No offence) never = absurd never

-- a record isn't taken, or can't be read
pub refused_of : (scope : Scope) (limit : ℕ) (all : List (List (List ℕ)))
    (Has : List Event → Type 0) → ((rows : List Event) → Has rows → IsReached scope rows)
    → (fault : RunFault) → IsUnanswered IsRow IsRefusal Has limit all fault
    → (answer : Result Outcome RunFault) → IsErrAnd answer (λ other. other ≡ fault)
    → IsAnswer scope limit all answer
refused_of scope limit all Has reaches fault ended answer is =
    rw (is_fault answer is) (by fault (drawn {X = Unit {0}} (λ x. IsReached scope) (λ x. Unit {0})
    (λ rows has. (tt, reaches rows has, tt)) IsRow IsRefusal limit all fault ended).1)
  where
    by : (fault : RunFault) → IsUnanswered IsRow IsRefusal (IsReached scope) limit all fault
        → IsAnswer scope limit all (Err fault)
    by (BadRow row fault) is = is
    by TooLong is = is
    by fault is = tt
