-- What a replay that stands for events and marks goes on to, and what it answers.
use Rattle.mdb_run_search.proofs.Words.{refl, sym, ap, subst, ◌∙◌, ◌≡◌, inl, inr, ℕ, ◌+◌, List, [], ◌∷◌, ◌++◌, ◌↔◌, length, length-append, Option, Some, None, Event, Device, First, Second, Act, Bus, LinkFault, PowerOn, Profile, Scope, profile_of, IsActList, Piece, Whole, acts_of, events_of, IsTail, GoesOn, Grown, IsLinkFault, Choice, CanStand, Mark, Offence, ReplayFault, Report, Tracks, account_by, AllFollow, Choices, MarkedRun, choice_by, marks_of, with_mark, machine_of, IsMarkFault, IsReplayFault, IsReplayOffence, MayStandAt, MayStandOnNewest, IsReplayReport, report_of, AllSums, HasNoStepFrom, track_in, OneActList, whole-piece, AreFew, times_of, HasActList, act_in, StandsFor, AreTracks, chosen_more, TracksLead, accounts-of-cells, cell-of-runs, list-on, Reader, scope_of, Extended}
use Rattle.mdb_bus.specs.declared.act.Act.TheVariants as acts
use Rattle.mdb_bus.specs.Bus as link
use Rattle.mdb_bus.specs.declared.untimely.Untimely.{Untimely}
use Rattle.mdb_follow.specs.declared.cell.Cell.{Cell}
use Rattle.mdb_run_search.specs.declared.mark.Mark.TheVariants as mark_kinds
use Rattle.mdb_run_search.specs.declared.replay.Replay.{Replay}
use Rattle.mdb_follow.specs.Silences.{asks_of}
use Rattle.mdb_follow.specs.SilencesKept.{AllStandForAsks}
use Rattle.mdb_run_search.specs.inner.ReplayActs.{HasReplayed, HasStopped}
use Rattle.mdb_follow.proofs.Asks.{asks-go-on, asks-stay, no-act}
use Rattle.mdb_run_search.proofs.LastMark.{last-stands}
use Rattle.mdb_run_search.proofs.MarkedRuns.{JoinWithChoices, at-mark, followed, marked-run, ways-of}

-- What is known of pieces: which choices have the marks, and that tracks stand for their acts with
-- them.
record Known (profile : Profile) (tracks : Tracks) (marks : List (ℕ × Mark))
    (pieces : List Piece) : Type 0 where
  chosen : Choices (acts_of pieces)
  marked : marks_of pieces chosen ≡ marks
  stand : AreTracks profile tracks (acts_of pieces) chosen

-- what no tail changes
module _ (P : List Piece → Type 0)
    (tails : (tail : Piece) (rest : List Piece) → IsTail tail → P rest ↔ P (tail ∷ rest))
    {pieces longer : List Piece} {row : Event} where
  -- is so of pieces that went on where it is so of those before the newest
  pub before-newest : {act : Option Act} (grown : Grown pieces row act longer)
      → P grown.earlier ↔ P pieces
  before-newest grown = elim grown.from [
    | inl alone ↦ (λ had. rw alone.1 had, λ had. rw alone.1 at had)
    | inr more ↦
        let same = tails more.0 grown.earlier more.1 in
        (λ had. rw more.3 (same.0 had), λ had. same.1 (rw more.3 at had))
  ]

  -- and of all of them, where no act ended
  pub after-none : Grown pieces row None longer → P pieces → P longer
  after-none grown had = rw grown.are ((tails grown.newest grown.earlier
      (no-act grown.newest grown.ends)).0 ((before-newest grown).1 had))

-- a tail adds nothing to what is known
tail-known : {profile : Profile} {tracks : Tracks} {marks : List (ℕ × Mark)} (tail : Piece)
    (rest : List Piece) → IsTail tail
    → Known profile tracks marks rest ↔ Known profile tracks marks (tail ∷ rest)
tail-known (Whole act events) rest is = absurd is
tail-known tail rest is = (λ known. search known, λ known. search known)

-- the newest of pieces that went on by an act
pub newest-whole : {pieces longer : List Piece} {row : Event} {act : Act}
    (grown : Grown pieces row (Some act) longer)
    → longer ≡ Whole act (grown.begun ++ row ∷ []) ∷ grown.earlier
newest-whole {row = row} {act = act} grown =
    grown.are ∙ ap (λ p. p ∷ grown.earlier) (whole-piece grown.newest act
    (grown.begun ++ row ∷ []) grown.ends grown.events)

-- an act more, with its mark
more-marked : {marks : List (ℕ × Mark)} {number : ℕ} (earlier : List Piece) (events : List Event)
    (act : Act) (mark : Option Mark) (chosen : Choices (acts_of earlier))
    (can : CanStand act (choice_by mark)) → length (events_of earlier ++ events) ≡ number
    → marks_of earlier chosen ≡ marks
    → marks_of (Whole act events ∷ earlier)
    (chosen_more act (acts_of earlier) (choice_by mark) can chosen) ≡ with_mark number mark marks
more-marked {marks} {number} earlier events act mark chosen can count have =
    rw (have, count) (at-mark number mark marks)

more-known : {profile : Profile} {old new : Tracks} {marks : List (ℕ × Mark)}
    {pieces longer : List Piece} {row : Event} {act : Act} {number : ℕ} (mark : Option Mark)
    → Grown pieces row (Some act) longer → length (events_of longer) ≡ number
    → CanStand act (choice_by mark) → TracksLead old act (choice_by mark) new
    → Known profile old marks pieces → Known profile new (with_mark number mark marks) longer
more-known {profile} {old} {marks = marks} {row = row} {act = act} mark grown rows can led known =
    let earlier = (before-newest (Known profile old marks) tail-known grown).1 known in
    let are = newest-whole grown in
    rw are (record {
      chosen = chosen_more act (acts_of grown.earlier) (choice_by mark) can earlier.chosen;
      marked = more-marked grown.earlier (grown.begun ++ row ∷ []) act mark earlier.chosen can
          (rw are at rows) earlier.marked;
      stand = λ device. (led device profile).stands (acts_of grown.earlier) earlier.chosen can
          (earlier.stand device);
    })

-- the choice of a mark that may stand on an act can stand on it
can-stand : (profile : Profile) (mark : Option Mark) (act : Act)
    → MayStandAt profile mark (Some act) → CanStand act (choice_by mark)
can-stand profile None act may = tt
can-stand profile (Some mark_kinds.Lost) (acts.Ack command) may = tt
can-stand profile (Some mark_kinds.Lost) (acts.VmcAck command reply) may = tt
can-stand profile (Some mark_kinds.Restart) (acts.Reply command reply) may = tt
can-stand Extended (Some mark_kinds.Again) act may = may
can-stand _ _ _ may = absurd may

-- what a replay knows, and the act list of what it stands for
module _ {replay : Replay} {events : List Event} {marks : List (ℕ × Mark)}
    (on : StandsFor replay events marks) where
  known-of : Known on.profile replay.tracks marks on.pieces
  known-of = record { chosen = on.chosen; marked = on.marked; stand = on.tracks }

  list-of : IsActList (scope_of replay) on.pieces events
  list-of = record { in_order = on.on_bus.in_order; whole = on.whole }

-- a replay stands for one row more, with what is known of its pieces
stands-next : {old new : Replay} {events : List Event} {marks more : List (ℕ × Mark)}
    {row : Event} {act : Option Act} {bus : Bus} (on : StandsFor old events marks)
    (goes : GoesOn bus on.pieces row act) → new.bus ≡ bus → scope_of new ≡ scope_of old
    → new.rows ≡ old.rows + 1 → new.fault ≡ old.fault
    → Known on.profile new.tracks more goes.longer
    → AllStandForAsks new.silences (λ device. asks_of (PowerOn on.profile) device goes.longer)
    → new.untimely ≡ times_of (scope_of new) goes.longer → StandsFor new (events ++ row ∷ []) more
stands-next {events = events} {row = row} on goes same scope rows fault known silences times =
    record {
      begins = ap (λ (s : Scope). s.begins) scope ∙ on.begins;
      profile = on.profile;
      pieces = goes.longer;
      on_bus = rw same goes.stands;
      whole = rw on.whole at goes.rows;
      rows = rows ∙ ap (λ n. n + 1) on.rows ∙ sym (length-append events (row ∷ []));
      going = fault ∙ on.going;
      chosen = known.chosen;
      marked = known.marked;
      tracks = known.stand;
      silences = silences;
      untimely = times;
    }

-- no act ended
pub stands-still : {old new : Replay} {events : List Event} {marks : List (ℕ × Mark)}
    {row : Event} (on : StandsFor old events marks) (goes : GoesOn new.bus on.pieces row None)
    → scope_of new ≡ scope_of old → new.tracks ≡ old.tracks → new.silences ≡ old.silences
    → new.rows ≡ old.rows + 1 → new.fault ≡ old.fault
    → new.untimely ≡ times_of (scope_of new) goes.longer → StandsFor new (events ++ row ∷ []) marks
stands-still {marks = marks} {row} on goes scope tracks silences rows fault =
    stands-next on goes refl scope rows fault
    (after-none (Known on.profile _ marks) tail-known goes.grown (rw tracks (known-of on)))
    (λ device. rw (
      silences,
      asks-stay (PowerOn on.profile) device on.pieces row goes.longer goes.grown,
    ) (on.silences device))

-- an act was followed
pub stands-on : {old mid new : Replay} {events : List Event} {marks : List (ℕ × Mark)}
    {row : Event} {act : Act} (mark : Option Mark) (on : StandsFor old events marks)
    (goes : GoesOn mid.bus on.pieces row (Some act)) → scope_of mid ≡ scope_of old
    → mid.tracks ≡ old.tracks → mid.silences ≡ old.silences → mid.rows ≡ old.rows
    → mid.fault ≡ old.fault → (profile : Profile) → MayStandAt profile mark (Some act)
    → {choice : Choice} → choice ≡ choice_by mark → HasReplayed mid act choice row new
    → (counts : Option Untimely)
    → (few : (times : Untimely) → counts ≡ Some times → AreFew new.rows times)
    → counts ≡ times_of (scope_of new) goes.longer
    → StandsFor (record new { untimely = counts; few_untimely = few }) (events ++ row ∷ [])
    (with_mark (old.rows + 1) mark marks)
stands-on {old} {new = new} {events} {row = row} {act} mark on goes scope tracks silences rows
    fault profile may same_choice had counts few =
    let can = can-stand profile mark act may in
    let has = rw same_choice at had in
    let led = rw tracks at has.tracks in
    let count = ap length (rw on.whole at goes.rows) ∙ length-append events (row ∷ [])
    ∙ ap (λ n. n + 1) (sym on.rows) in
    let stand = λ (device : Device). (led device on.profile).stands (acts_of on.pieces) on.chosen
    can (on.tracks device) in
    stands-next on goes has.on_bus (ap link.scope_of has.on_bus ∙ scope)
    (has.rows ∙ ap (λ n. n + 1) rows) (has.going ∙ fault)
    (more-known mark goes.grown count can led (known-of on))
    (λ device. rw (asks-go-on (PowerOn on.profile) device on.pieces row act goes.longer
    new.tracks.first_reader.facts new.tracks.second_reader.facts goes.grown
    (stand (Reader First)).facts (stand (Reader Second)).facts)
    at ((has.silences device).stands (asks_of (PowerOn on.profile) device on.pieces)
    (rw silences (on.silences device))))

-- where no act ended, a mark that may stand is none
pub no-mark : (row : ℕ) (profile : Profile) (mark : Option Mark) (marks : List (ℕ × Mark))
    → MayStandAt profile mark None → with_mark row mark marks ≡ marks
no-mark row profile None marks may = refl
no-mark row profile (Some mark) marks may = absurd may

module _ (joins : JoinWithChoices) {replay : Replay} {events : List Event}
    {marks : List (ℕ × Mark)} (on : StandsFor replay events marks) where
  -- there is a run with the marks of a replay, and its sums are those of the tracks
  pub run-of : MarkedRun (scope_of replay) events marks (λ device. (on.tracks device).sums)
  run-of = rw on.marked at (marked-run joins (list-of on) on.chosen
      (λ device. (track_in replay.tracks device).state) (λ device. (on.tracks device).sums)
      (rw on.begins (λ device. (on.tracks device).way)))

  -- a row breaks a rule of the link
  pub link-offence : (row : Event) (mark : Option Mark) (fault : LinkFault) (offence : Offence)
      → IsLinkFault (scope_of replay) on.pieces row fault.rule fault.blame
      → (HasActList (scope_of replay) (events_of on.pieces ++ row ∷ []) → ⊥)
      → offence ≡ record { row = replay.rows + 1; rule = fault.rule; blame = fault.blame }
      → IsReplayOffence (scope_of replay) events marks row mark offence
  link-offence row mark fault offence is impossible told = rw told (record {
    reached = (_, run-of);
    not_reached = λ reached.
        impossible (reached.1.run.pieces, rw on.whole reached.1.run.act_list);
    number = ap (λ n. n + 1) on.rows;
    why = inl (record { pieces = on.pieces; act_list = list-of on; fault = is });
  })

module _ (one : (scope : Scope) → OneActList scope) where
  -- a run with the marks of a replay is where the tracks are, with their sums
  pub only-run : {replay : Replay} {events : List Event} {marks : List (ℕ × Mark)}
      (on : StandsFor replay events marks) {sums : AllSums}
      (marked : MarkedRun (scope_of replay) events marks sums) (device : Device)
      → (marked.run.states device ≡ (track_in replay.tracks device).state)
      × (sums device ≡ (on.tracks device).sums)
  only-run {replay} on {sums} marked device =
      let ways = followed (one (scope_of replay)) on.pieces on.chosen (list-of on) on.marked marked
      in
      (on.tracks device).only (marked.run.states device) (sums device)
      (rw on.begins at (ways device))

-- the newest act of pieces is the one that a row ended
newest-stands : {act : Option Act} (profile : Profile) (mark : Mark) (newest : Piece)
    (earlier : List Piece) → act_in newest ≡ act
    → MayStandOnNewest profile mark (newest ∷ earlier) → MayStandAt profile (Some mark) act
newest-stands profile mark (Whole one events) earlier ends may = rw (← ends) may
newest-stands profile mark newest earlier ends may = absurd may

module _ (joins : JoinWithChoices) (one : (scope : Scope) → OneActList scope) where
  -- a machine has no step by an act under the choice of the mark
  pub machine-offence : {old mid new : Replay} {events : List Event} {marks : List (ℕ × Mark)}
      {row : Event} {act : Act} (mark : Option Mark) {fault : ReplayFault}
      (on : StandsFor old events marks) → GoesOn mid.bus on.pieces row (Some act)
      → scope_of mid ≡ scope_of old → mid.tracks ≡ old.tracks → mid.rows ≡ old.rows
      → (profile : Profile) → profile ≡ profile_of (scope_of old).begins
      → MayStandAt profile mark (Some act) → {chosen : Choice} → chosen ≡ choice_by mark
      → HasStopped mid act chosen row new fault
      → IsReplayFault (scope_of old) events marks row mark fault
  machine-offence {old} {mid} {events = events} {marks} {row} {act} mark on goes same_scope
      same_tracks same_rows profile by may same_choice had =
      let can = can-stand profile mark act may in
      let scope : Scope = scope_of old in
      let choice = choice_by mark in
      let has = rw same_choice at had in
      let grown = goes.grown in
      let earlier = (before-newest (Known on.profile old.tracks marks) tail-known grown).1
      (known-of on) in
      let more : Choices (act ∷ acts_of grown.earlier) =
      chosen_more act (acts_of grown.earlier) choice can earlier.chosen in
      let are = newest-whole grown in
      let pieces : List Piece = Whole act (grown.begun ++ row ∷ []) ∷ grown.earlier in
      let list : IsActList scope pieces (events ++ row ∷ []) = rw (same_scope, are) at
      (list-on mid.bus events row on.pieces (Some act) on.whole goes) in
      let device : Device = has.none.0 in
      let stops = rw same_tracks at has.none.1 in
      let none : HasNoStepFrom (machine_of (PowerOn on.profile) device) (acts_of grown.earlier) act
      choice (track_in old.tracks device).state =
      stops.none on.profile (acts_of grown.earlier) earlier.chosen (earlier.stand device) in
      let have = more-marked grown.earlier (grown.begun ++ row ∷ []) act mark earlier.chosen can
      (ap length list.whole ∙ length-append events (row ∷ [])) earlier.marked in
      let counted = rw (same_scope, are) at (has.counts goes.longer goes.stands) in
      rw has.is (record {
        reached = (_, run-of joins on);
        not_reached = λ reached.
            let ways = followed (one scope) pieces more list have reached.1 in
            let way = (subst (λ b. AllFollow b (acts_of pieces) more reached.1.run.states
            reached.0) on.begins ways) device in
            let was = (earlier.stand device).only way.before way.sums_before way.way in
            none (reached.1.run.states device) way.gains (rw was.0 at way.step);
        number = ap (λ n. n + 1) (same_rows ∙ on.rows);
        why = inr (record {
          act = act;
          begun = grown.begun;
          earlier = grown.earlier;
          act_list = list;
          may = rw by at may;
          no_step = record {
            device = device;
            rule = stops.rule;
            none = λ sums marked.
                rw (on.begins, (only-run one on marked device).0) none;
          };
          own = has.rule;
          counts = ap (λ (f : LinkFault). f.rule) counted;
          blame = ap (λ (f : LinkFault). f.blame) counted;
        });
      })

  -- what a replay reports
  pub reported : {replay : Replay} {events : List Event} {marks : List (ℕ × Mark)}
      (report : Report) (on : StandsFor replay events marks) (cells : Device → Cell)
      → ((device : Device) → cells device ≡ (track_in replay.tracks device).cell)
      → report ≡ report_of (scope_of replay) replay.rows on.pieces (account_by cells)
      → IsReplayReport (scope_of replay) events marks report
  reported {replay} {events} {marks} report on cells are telling =
      let Runs : AllSums → Type 0 = MarkedRun (scope_of replay) events marks in
      let sums : AllSums = λ device. (on.tracks device).sums in
      let run : Runs sums = run-of joins on in
      let only = λ (other : AllSums) (marked : Runs other) (device : Device).
      (only-run one on marked device).1 in
      record {
        sums = sums;
        reached = run;
        only = only;
        pieces = on.pieces;
        act_list = list-of on;
        accounts = account_by cells;
        of_run = accounts-of-cells Runs cells (λ device.
            cell-of-runs Runs (λ other. other ≡ sums device) (λ all. all device) (record {
              lift = λ other is. (sums, sym is, run);
              lower = λ other marked. only other marked device;
            }) (cells device) (rw (are device) (on.tracks device).cell));
        telling = rw on.rows at telling;
      }

  -- a mark may not stand there
  pub mark-fault : {old : Replay} {bus : Bus} {events : List Event} {marks : List (ℕ × Mark)}
      {row : Event} {act : Option Act} (mark : Option Mark) (on : StandsFor old events marks)
      → GoesOn bus on.pieces row act → link.scope_of bus ≡ scope_of old → (profile : Profile)
      → profile ≡ profile_of (scope_of old).begins → (MayStandAt profile mark act → ⊥)
      → IsMarkFault (scope_of old) events marks row mark (old.rows + 1)
  mark-fault None on goes same profile by not = absurd (not tt)
  mark-fault {old} {bus} {events} {marks} {row} {act} (Some mark) on goes same profile by not =
      let scope : Scope = scope_of old in
      let list : IsActList scope goes.longer (events ++ row ∷ []) =
      rw same at (list-on bus events row on.pieces act on.whole goes) in
      let cannot : MayStandOnNewest (profile_of scope.begins) mark goes.longer → ⊥ = λ may.
      not (newest-stands profile mark goes.grown.newest goes.grown.earlier goes.grown.ends
      (rw (← by, goes.grown.are) at may)) in
      record {
        reached = (_, run-of joins on);
        not_reached = λ reached.
            let it = ways-of (one scope) goes.longer list reached.1 in
            cannot (last-stands scope.begins scope goes.longer it.chosen reached.1.run.states
            reached.0 marks (length events + 1) mark list.in_order it.ways it.are
            (sym (ap length list.whole ∙ length-append events (row ∷ []))));
        at = ap (λ n. n + 1) on.rows;
        standing = mark;
        is = refl;
        pieces = goes.longer;
        act_list = list;
        cannot = cannot;
      }
