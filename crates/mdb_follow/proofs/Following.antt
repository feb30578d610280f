-- What a follower that stands for events goes on to, and what it answers.
use Rattle.mdb_follow.proofs.Words.{same_Some, refl, sym, ap, ◌∙◌, ◌≡◌, inl, inr, ℕ, ◌+◌, List, [], ◌∷◌, ◌++◌, length, ◌<◌, ◌≤◌, arith, map, Option, Some, None, OnTrue, Bool, true, false, Result, Ok, Err, IfErr, IfOk, IsErrAnd, IsSomeAnd, Event, Device, First, Second, Act, Blame, LinkFault, Rule, ArePieces, IsActList, Piece, Whole, acts_of, events_of, piece_events, HasActList, act_in, GoesOn, IsLinkFault, profile_of, Profile, Beginning, SLOTS, AccountName, ALL, Cell, Offence, account_by, IsCell, slot_account, counted_with, HasTakenRows, IsAccountWithin, IsCellWithin, IsAccount, Sums, ArrivesAnywhere, EachArrives, IsOffence, NoStep, rule_of, AreAccounts, Account, AllSums, IsReached, Run, Arrives, machine_of, AreSides, asks_of, AreStanding, SidesStay, Scope, IfOk-weaker, account_device, account_in, account_slot, HasFollowedAct, HasStopped, IsLike}
use Rattle.std.proofs.Common.{length-append}
use Rattle.mdb_msgs.specs.declared.command.Device.TheVariants as devices
use Rattle.mdb_bus.specs.declared.bus.Bus.{Bus}
use Rattle.mdb_bus.specs.declared.fault.Rule.TheVariants as rules
use Rattle.mdb_bus.specs.Bus as link
use Rattle.std.specs.Option.{ForSome}
use Rattle.mdb_bus.specs.ExtendedTimes.{AreFew, counted_for, times_of, untimely_of, untimely_sender, with_sender}
use Rattle.mdb_bus.specs.declared.scope.Profile.TheVariants.{Base, Extended}
use Rattle.mdb_bus.specs.declared.untimely.Untimely.{Untimely}
use Rattle.mdb_follow.specs.declared.follower.Follower.{Follower}
use Rattle.mdb_follow.specs.EndedActs.{IsEndedAct}
use Rattle.mdb_follow.specs.Follower.{HasAccepted, StandsFor, is_late, rows_of, scope_of}
use Rattle.mdb_follow.proofs.Accounts.{listed, slot-below}
use Rattle.mdb_follow.proofs.Asks.{asks-go-on, asks-stay}
use Rattle.mdb_follow.proofs.Machines.{with_one, with_one-same}
use Rattle.mdb_follow.proofs.Sales.{sales_follow}
use Rattle.mdb_follow.proofs.Reaching.{SomeArrive, SomeWay, run_of}
use Rattle.mdb_follow.proofs.Joining.{split}
use Rattle.mdb_follow.proofs.Sided.{by-stay}
use Rattle.mdb_follow.proofs.Ends.{account-moves}

-- a transcript divides into acts in at most one way
abbrev pub OneActList : (scope : Scope) → Type 0
OneActList scope = (rows : List Event) (one other : List Piece) → IsActList scope one rows
    → IsActList scope other rows → one ≡ other

-- what holds of a part of an answer
pub if-ok : {T E : Type 0} (r : Result T E) (P Q : T → Type 0) → ((x : T) → P x → Q x)
    → IfOk r P → IfOk r Q
if-ok r P Q weaker h = IfOk-weaker r P Q weaker h

pub on-true : (b : Bool) (P Q : Type 0) → (P → Q) → OnTrue b P → OnTrue b Q
on-true true P Q weaker h = weaker h
on-true false P Q weaker h = tt

pub is-some-weaker : {T : Type 0} (o : Option T) (P Q : T → Type 0) → ((x : T) → P x → Q x)
    → IsSomeAnd o P → IsSomeAnd o Q
is-some-weaker (Some x) P Q weaker h = weaker x h
is-some-weaker None P Q weaker h = absurd h

pub by-some : {T : Type 0} (o : Option T) (P : T → Type 0) (Q : Type 0) → ((x : T) → P x → Q)
    → IsSomeAnd o P → Q
by-some (Some x) P Q gives h = gives x h
by-some None P Q gives h = absurd h

pub some-at : {T : Type 0} (o : Option T) (x : T) (P : T → Type 0) → o ≡ Some x → P x
    → IsSomeAnd o P
some-at o x P is h = rw is h

pub if-err-is : {T E : Type 0} (r : Result T E) (e : E) (P : E → Type 0)
    → IsErrAnd r (λ x. x ≡ e) → P e → IfErr r P
if-err-is (Ok x) e P is h = tt
if-err-is (Err x) e P is h = rw is h

-- few counts are few where more are
pub few-times : {counts before : Option Untimely} → counts ≡ before → (some more : ℕ)
    → some ≤ more → ForSome before (AreFew some) → ForSome counts (AreFew more)
few-times is some more less few counts at = few-more (few counts (sym is ∙ at))
  where
    few-more : AreFew some counts → AreFew more counts
    few-more few = omega arith

module _ (bus : Bus) where
  -- the act list of the events with one more
  pub list-on : (events : List Event) (row : Event) (pieces : List Piece) (act : Option Act)
      → events_of pieces ≡ events → (goes : GoesOn bus pieces row act)
      → IsActList (link.scope_of bus) goes.longer (events ++ row ∷ [])
  list-on events row pieces act whole goes =
      record { in_order = goes.stands.in_order; whole = rw whole at goes.rows }

  -- the act that the bus tells is the one that ends with the row
  pub ended-by : (scope : Scope) (events : List Event) (row : Event) (pieces : List Piece)
      (act : Option Act) → ArePieces scope pieces → events_of pieces ≡ events
      → GoesOn bus pieces row act → link.scope_of bus ≡ scope → IsEndedAct scope events row act
  ended-by scope events row pieces act in_order whole goes same_scope =
      let grown = goes.grown in
      record {
        newest = grown.newest;
        earlier = grown.earlier;
        act_list = rw (same_scope, grown.are) at (list-on events row pieces act whole goes);
        begun = grown.begun;
        rows = grown.events;
        is = grown.ends;
        before = pieces;
        shorter = record { in_order = in_order; whole = whole };
        acts = rw grown.are at goes.acts;
      }

-- What a follower stands for.
module _ (follower : Follower) (events : List Event) where
  -- a follower has accepted the events that it stands for
  abbrev pub accepted : StandsFor follower events → HasAccepted follower events
  accepted on = record {
    pieces = on.pieces;
    act_list = record { in_order = on.on_bus.in_order; whole = on.whole };
    rows = on.rows;
    sides = on.sides;
    silences = on.silences;
    untimely = on.untimely;
    on_bus = λ met noted late. on.on_bus;
  }

  -- its tables have some way of each device
  pub some-ways : (has : HasAccepted follower events)
      → SomeArrive (scope_of follower).begins (acts_of has.pieces)
  some-ways has device =
      let some = (has.sides device).table.some in
      record { state = some.0; sums = some.1; way = some.2 }

  -- so its rows are reached
  pub accepted-reached : HasAccepted follower events → IsReached (scope_of follower) events
  accepted-reached has =
      let some = some-ways has in (
        (λ device. (some device).sums),
        run_of (scope_of follower) events has.pieces has.act_list some,
      )

  pub reached_by : StandsFor follower events → IsReached (scope_of follower) events
  reached_by on = accepted-reached (accepted on)

-- a row breaks a rule of the link
pub link-offence : (old : Follower) (events : List Event) (row : Event)
    (on : StandsFor old events) (fault : LinkFault) (offence : Offence)
    → IsLinkFault (scope_of old) on.pieces row fault.rule fault.blame
    → (HasActList (scope_of old) (events_of on.pieces ++ row ∷ []) → ⊥)
    → offence.row ≡ old.rows + 1 → offence.rule ≡ fault.rule → offence.blame ≡ fault.blame
    → IsOffence (scope_of old) events row offence
link-offence old events row on fault offence is impossible number rule blame = record {
  reached = reached_by old events on;
  not_reached = λ reached. impossible (reached.1.pieces, rw on.whole reached.1.act_list);
  number = number ∙ ap (λ n. n + 1) on.rows;
  why = inl (record {
    pieces = on.pieces;
    act_list = (accepted old events on).act_list;
    fault = rw (rule, blame) is;
  });
}

-- a follower that stands for rows after others has taken them
pub taken-by : (old new : Follower) (rows : List Event) → scope_of new ≡ scope_of old
    → rows_of new ≡ rows_of old + length rows
    → ((events : List Event) → StandsFor old events → StandsFor new (events ++ rows))
    → HasTakenRows old new rows
taken-by old new rows same counted stands = record {
  stands = stands;
  reached = λ events on. rw same at (reached_by new (events ++ rows) (stands events on));
  sales = λ events on. sales_follow (scope_of old) (events ++ rows);
  counted = counted;
}

-- a rule of a device isn't that of what isn't followed, nor that of a word that comes too late
abbrev IsOfActs : Rule → Type 0
IsOfActs rule = (rule ≡ rules.Profile → ⊥) × (is_late rule ≡ true → ⊥)

of-device : (device : Device) → IsOfActs (rule_of device)
of-device (devices.Reader unit) = (λ is. cc is, λ is. cc is)
of-device device = (λ is. cc is, λ is. cc is)

-- nor is the one that counts in haste
module _ (old : Follower) (act : Act) (row : Event) (new : Follower)
    (offence : Offence) (has : HasStopped old act row new offence) where
  of-acts : IsOfActs offence.rule
  of-acts = elim has.either [
    | inl is ↦ rw (is, has.none.1.rule) (of-device has.none.0)
    | inr is ↦ rw is (λ is. cc is, λ is. cc is)
  ]

  pub none-beyond : {T : Type 0} → offence.rule ≡ rules.Profile → T
  none-beyond beyond = absurd (of-acts.0 beyond)

  pub none-late : {T : Type 0} (met : Offence) → new.offence ≡ Some met
      → is_late met.rule ≡ true → T
  none-late met noted late =
      let one : offence ≡ met = same_Some offence met (sym has.noted ∙ noted) in
      absurd (of-acts.1 (rw one late))

-- A follower that has stopped has accepted still what it stood for.
pub accepted-still : (old new : Follower) (events : List Event) → StandsFor old events
    → scope_of new ≡ scope_of old → new.rows ≡ old.rows → SidesStay old.sides new.sides
    → new.silences ≡ old.silences → new.untimely ≡ old.untimely
    → ((met : Offence) → new.offence ≡ Some met → is_late met.rule ≡ true → new.bus ≡ old.bus)
    → HasAccepted new events
accepted-still old new events on same_scope same_rows stay same_silences same_untimely same_bus =
    let begins = (scope_of old).begins in
    let standing : AreStanding old.sides =
    record { begins = begins; acts = acts_of on.pieces; stand = on.sides } in
    record {
      pieces = on.pieces;
      act_list = rw same_scope (accepted old events on).act_list;
      rows = same_rows ∙ on.rows;
      sides = rw same_scope (by-stay (λ sides. AreSides begins sides (acts_of on.pieces)) old.sides
          new.sides ∣ standing ∣₁ stay on.sides);
      silences = rw (same_scope, same_silences) on.silences;
      untimely = rw same_scope (same_untimely ∙ on.untimely);
      on_bus = λ met noted late. rw (same_bus met noted late) on.on_bus;
    }

-- rows out of their time are counted as the profile has it
counted-one : (profile : Profile) (sender : Option Blame) (counts : Untimely)
    → counted_with sender (counted_for profile counts)
    ≡ counted_for profile (with_sender sender counts)
counted-one Base sender counts = refl
counted-one Extended sender counts = refl

-- What is counted of the times of a row more, where its sender was told.
pub times-on : (old new : Scope) (pieces : List Piece) (row : Event) (bus : Bus)
    (act : Option Act) (goes : GoesOn bus pieces row act) (before counts : Option Untimely)
    (sender : Option Blame)
    → link.scope_of bus ≡ old → new ≡ old → before ≡ times_of old pieces
    → counted_with sender before ≡ counted_with (untimely_sender old pieces row) before
    → counts ≡ counted_with sender before → counts ≡ times_of new goes.longer
times-on old new pieces row bus act goes before counts sender same_bus same_new was told counted =
    let profile = profile_of old.begins in
    let as_told = untimely_sender old pieces row in
    rw same_new (counted ∙ told ∙ ap (counted_with as_told) was
    ∙ counted-one profile as_told (untimely_of old pieces)
    ∙ ap (counted_for profile) (sym (rw same_bus at goes.untimely)))

-- no act ended
pub stands-still : (old new : Follower) (bus : Bus) (events : List Event) (row : Event)
    (on : StandsFor old events) (goes : GoesOn bus on.pieces row None) → new.bus ≡ bus
    → scope_of new ≡ scope_of old → new.sides ≡ old.sides → new.silences ≡ old.silences
    → new.rows ≡ old.rows + 1 → new.offence ≡ old.offence
    → new.untimely ≡ times_of (scope_of new) goes.longer → StandsFor new (events ++ row ∷ [])
stands-still old new bus events row on goes same_bus same_scope same_sides same_silences more
    same times = record {
      pieces = goes.longer;
      on_bus = rw same_bus goes.stands;
      whole = rw on.whole at goes.rows;
      rows = more ∙ ap (λ n. n + 1) on.rows ∙ sym (length-append events (row ∷ []));
      going = same ∙ on.going;
      sides = rw (same_scope, goes.acts, same_sides) on.sides;
      silences = λ device. rw (same_scope, same_silences)
          (rw (asks-stay (scope_of old).begins device on.pieces row goes.longer goes.grown)
          (on.silences device));
      untimely = times;
    }

-- two followers are alike, but for their rows out of their time and their room for an act
abbrev pub IsCounted : Follower → Follower → Type 0
IsCounted one other = (other.bus ≡ one.bus) × (other.rows ≡ one.rows)
    × (other.offence ≡ one.offence) × (other.sides ≡ one.sides) × (other.silences ≡ one.silences)

-- an act was followed
pub stands-on : (old mid new : Follower) (events : List Event) (row : Event) (act : Act)
    (on : StandsFor old events) (goes : GoesOn mid.bus on.pieces row (Some act))
    → scope_of mid ≡ scope_of old → IsLike mid old → HasFollowedAct mid act row new
    → (final : Follower) → IsCounted new final
    → final.untimely ≡ times_of (scope_of new) goes.longer → StandsFor final (events ++ row ∷ [])
stands-on old mid new events row act on goes old_scope like has final is times =
    let begins : Beginning = (scope_of old).begins in
    let same_scope : scope_of new ≡ scope_of old = ap link.scope_of has.on_bus ∙ old_scope in
    let sides : AreSides begins new.sides (act ∷ acts_of on.pieces) = λ device.
    (has.sides device).stands begins (acts_of on.pieces) (rw like.0 (on.sides device)) in
    record {
      pieces = goes.longer;
      on_bus = rw (is.0, has.on_bus) goes.stands;
      whole = rw on.whole at goes.rows;
      rows = is.1 ∙ has.rows ∙ ap (λ n. n + 1) (like.3 ∙ on.rows)
          ∙ sym (length-append events (row ∷ []));
      going = is.2 ∙ has.going ∙ like.4 ∙ on.going;
      sides = rw (is.0, same_scope, goes.acts, is.3) sides;
      silences = λ device. rw (is.0, same_scope, is.4)
          (rw (asks-go-on begins device on.pieces row act
          goes.longer new.sides.first_reader.facts new.sides.second_reader.facts goes.grown
          (sides (devices.Reader First)).facts (sides (devices.Reader Second)).facts) at
          ((has.silences device).stands (asks_of begins device on.pieces)
          (rw like.1 (on.silences device))));
      untimely = rw is.0 times;
    }

-- a piece that is an act is a whole one
pub whole-piece : (piece : Piece) (act : Act) (events : List Event) → act_in piece ≡ Some act
    → piece_events piece ≡ events → piece ≡ Whole act events
whole-piece (Whole other rows) act events ends same = cc
whole-piece piece act events ends same = absurd (cc)

-- The sums of a device, where a run of a kind has them, and where its ways come to them: the same
-- ones.
pub record AreOf (Runs : AllSums → Type 0) (Kind : Sums → Type 0) (of : AllSums → Sums)
    : Type 0 where
  pub lift : (sums : Sums) → Kind sums → (all : AllSums) × (of all ≡ sums) × Runs all
  pub lower : (all : AllSums) → Runs all → Kind (of all)

-- a cell has the ranges of the sums that a device has in runs
abbrev pub IsCellOf : (AllSums → Type 0) → (AllSums → Sums) → Cell → Type 0
IsCellOf Runs of cell =
    (slot : ℕ) → slot < SLOTS → IsAccount Runs (λ sums. of sums slot) (slot_account cell slot)

-- then the ranges of each account of a cell are those of the runs
pub cell-of-runs : (Runs : AllSums → Type 0) (Kind : Sums → Type 0) (of : AllSums → Sums)
    → AreOf Runs Kind of → (cell : Cell) → IsCell Kind cell → IsCellOf Runs of cell
cell-of-runs Runs Kind of are cell is slot below =
    account-moves Kind (λ sums. sums slot) Runs (λ all. of all slot)
    (λ sums kind. let its = are.lift sums kind in
    (its.0, its.2, ap (λ (s : Sums). s slot) (sym its.1)))
    (λ all run. (of all, are.lower all run, refl)) _ (is slot below)

-- so the accounts are those of the runs
pub accounts-of-cells : (Runs : AllSums → Type 0) (cells : Device → Cell)
    → ((device : Device) → IsCellOf Runs (λ sums. sums device) (cells device))
    → AreAccounts Runs (account_by cells)
accounts-of-cells Runs cells are account =
    are (account_device account) (account_slot account) (slot-below account)

-- the accounts of cells are as far from 0 as the cells
pub accounts-within : (limit : ℕ) (cells : Device → Cell) (accounts : List Account)
    → accounts ≡ map (account_by cells) ALL
    → ((device : Device) → IsCellWithin limit (cells device)) → (account : AccountName)
    → IsAccountWithin limit (account_in account accounts)
accounts-within limit cells accounts are fits account =
    rw (are, listed (account_by cells) account)
    (fits (account_device account) (account_slot account) (slot-below account))

-- Ways and runs of rows with one act list.
module _ (scope : Scope) (one : OneActList scope) (rows : List Event) (pieces : List Piece)
    (list : IsActList scope pieces rows) where
  -- each device's way of a run leads through the acts of an act list of its rows
  arrived : (sums : AllSums) (run : Run scope rows sums)
      → EachArrives scope.begins (acts_of pieces) run.states sums
  arrived sums run = rw (one rows run.pieces pieces run.act_list list) at
      (split scope.begins run.loss run.pieces run.states sums run.way)

  -- where a machine has no step by the newest act, the rows aren't reached
  unreached : {own : Rule} {act : Act} {before : List Act} → acts_of pieces ≡ act ∷ before
      → NoStep scope.begins own act before → IsReached scope rows → ⊥
  unreached are stops reached =
      let ways = rw are at (arrived reached.0 reached.1) in
      let way = ways stops.device in
      stops.none way.before way.sums_before way.way way.choice way.stands
      (reached.1.states stops.device) way.gains way.step

  -- A way of one device is one of all, beside some way of each other device.
  pub device-is : SomeArrive scope.begins (acts_of pieces) → (device : Device)
      → AreOf (Run scope rows)
      (ArrivesAnywhere (Arrives (machine_of scope.begins device) (acts_of pieces)))
      (λ sums. sums device)
  device-is some device =
      let Some_way : Device → Type 0 = λ d. SomeWay (machine_of scope.begins d) (acts_of pieces) in
      record {
        lift = λ sums at.
            let its : Some_way device = record { state = at.state; sums = sums; way = at.way } in
            let all = with_one Some_way device its some in (
              (λ d. (all d).sums),
              ap (λ way. way.sums) (with_one-same Some_way device its some),
              run_of scope rows pieces list all,
            );
        lower = λ all run. record { state = run.states device; way = arrived all run device };
      }

module _ (one : (scope : Scope) → OneActList scope) where
  -- a machine has no step by an act
  pub machine-offence : (old mid new : Follower) (events : List Event) (row : Event) (act : Act)
      (offence : Offence) (on : StandsFor old events)
      → GoesOn mid.bus on.pieces row (Some act) → scope_of mid ≡ scope_of old → IsLike mid old
      → HasStopped mid act row new offence → IsOffence (scope_of old) events row offence
  machine-offence old mid new events row act offence on goes same_scope like has =
      let scope = scope_of old in
      let list = rw same_scope at (list-on mid.bus events row on.pieces (Some act) on.whole goes) in
      let none : NoStep scope.begins has.own act (acts_of on.pieces) = record {
        device = has.none.0;
        rule = has.none.1.rule;
        none = has.none.1.none scope.begins (acts_of on.pieces)
            (rw like.0 (on.sides has.none.0));
      } in
      let grown = goes.grown in
      let are : goes.longer ≡ Whole act (grown.begun ++ row ∷ []) ∷ grown.earlier =
      grown.are ∙ ap (λ p. p ∷ grown.earlier) (whole-piece grown.newest act
      (grown.begun ++ row ∷ []) grown.ends grown.events) in
      let fault = rw (same_scope, are) at (has.counts goes.longer goes.stands) in
      let same : acts_of on.pieces ≡ acts_of grown.earlier =
      cc (sym goes.acts ∙ ap acts_of are) in
      record {
        reached = reached_by old events on;
        not_reached = unreached scope (one scope) (events ++ row ∷ []) goes.longer list goes.acts
            none;
        number = has.number ∙ ap (λ n. n + 1) (like.3 ∙ on.rows);
        why = inr (record {
          act = act;
          begun = grown.begun;
          earlier = grown.earlier;
          act_list = rw are at list;
          own = has.own;
          no_step = rw same at none;
          counts = ap (λ (f : LinkFault). f.rule) fault;
          blame = ap (λ (f : LinkFault). f.blame) fault;
        });
      }

-- a follower has taken so many events, and met no offence
pub record HasFed (old : Follower) (events : List Event) (count : ℕ) (new : Follower) : Type 0 where
  pub rows : new.rows ≡ old.rows + count
  pub going : new.offence ≡ None
  pub scope : scope_of new ≡ scope_of old
  pub still : count ≡ 0 → new ≡ old
  pub stands : (earlier : List Event) → StandsFor old earlier → StandsFor new (earlier ++ events)
