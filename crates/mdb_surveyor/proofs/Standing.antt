-- What a surveyor stands for, row by row.
use Rattle.mdb_surveyor.proofs.Words.{arith, refl, ap, sym, subst, ◌∙◌, ◌≡◌, ◌+◌, ℕ, List, [], ◌∷◌, ◌++◌, Option, Some, None, length, map, length-map, IsSomeAnd, Event, ReaderUnit, DeviceSet, Act, Beginning, Profile, Base, Scope, IsActList, Piece, acts_of, position_of, open_block, profile_of, Offence, Report, HasRefused, IsOffence, IsReport, FaultCounts, Ended, Stretch, Surveyor, Told, Totals, WhoIsAskedBefore, counts_of_ended, counts_of_faults, IsSurvey, LeadFrom, StretchStart, first_place, left_out_by_profile, place_after, scope_after, stretch_at, StandsFor, told_after, told_if, told_on, with_report}
use Rattle.mdb_bus.specs.Pieces.{with_act}
use Rattle.mdb_follow.specs.declared.follower.Follower.{Follower}
use Rattle.mdb_follow.specs.EndedActs.{IsEndedAct}
use Rattle.mdb_follow.specs.Follower as follow
use Rattle.mdb_surveyor.specs.declared.summary.Summary.{Summary}
use Rattle.mdb_surveyor.specs.Halts.{HasHalted}
use Rattle.mdb_surveyor.proofs.Asked.{asked_there}
use Rattle.mdb_surveyor.proofs.Leading.{lead_faults, lead_further, lead_on}

-- a transcript has one act list
abbrev pub OneActList : Type 0
OneActList = (scope : Scope) (rows : List Event) (one other : List Piece)
    → IsActList scope one rows → IsActList scope other rows → one ≡ other

-- no rows have no acts, so they tell nothing
pub told_nothing : OneActList → (scope : Scope) (told : Told) (pieces : List Piece)
    → IsActList scope pieces []
    → told ≡ told_after scope.begins told (acts_of pieces)
told_nothing one scope told pieces list =
    rw (one scope [] pieces [] list (record { in_order = tt; whole = refl })) refl

-- what is told with one act more, if there is one
learnt_more : (begins : Beginning) (told : Told) (act : Option Act) (acts : List Act)
    → told_if begins act (told_after begins told acts)
    ≡ told_after begins told (with_act act acts)
learnt_more begins told None acts = refl
learnt_more begins told (Some act) acts = refl

-- the block that is open on a follower's bus is that in which its rows end
block_on : OneActList → (follower : Follower) (rows : List Event)
    → follow.StandsFor follower rows → (scope : Scope) → follow.scope_of follower ≡ scope
    → (pieces : List Piece) → IsActList scope pieces rows
    → follow.open_block_of follower ≡ open_block (position_of scope pieces)
block_on one follower rows on scope so pieces list =
    let its : IsActList (follow.scope_of follower) on.pieces rows =
    record { in_order = on.on_bus.in_order; whole = on.whole } in
    ap open_block (sym on.on_bus.position)
    ∙ rw (so, one scope rows on.pieces pieces (rw so at its) list) refl

-- an offence that is noted
the_offence : (noted : Option Offence) (P : Offence → Type 0) → IsSomeAnd noted P
    → (offence : Offence) × (noted ≡ Some offence) × P offence
the_offence None P met = absurd met
the_offence (Some offence) P met = (offence, refl, met)

-- a stretch by its parts
abbrev made : ℕ → ℕ → ℕ → Scope → Report → Stretch
made number first last scope report = record {
  number = number;
  first = first;
  last = last;
  scope = scope;
  report = report;
}

-- the stretch that runs, which has this report
abbrev running_with : Surveyor → Report → Stretch
running_with surveyor report =
    made (surveyor.faults.all + 1) (surveyor.before + 1) (surveyor.before + report.rows)
    surveyor.scope report

-- an offence of that stretch, as a fault of the recording
abbrev fault_by : ℕ → Offence → Offence
fault_by before offence =
    record { row = before + offence.row; rule = offence.rule; blame = offence.blame }

-- who is left out hangs on the fault's rule and blame alone
left_moved : (profile : Profile) (told : Told) (offence : Offence) (before : ℕ)
    (asked : Option ReaderUnit) (without : DeviceSet)
    → left_out_by_profile profile told (fault_by before offence) asked without
    ≡ left_out_by_profile profile told offence asked without
left_moved Base told offence before asked without = refl
left_moved profile told offence before asked without = refl

fault_moved : (told : Told) (offence : Offence) (before : ℕ) (asked : Option ReaderUnit)
    (scope : Scope) → scope_after told (fault_by before offence) asked scope
    ≡ scope_after told offence asked scope
fault_moved told offence before asked scope =
    ap (λ devices. record (scope_after told offence asked scope) { without = devices })
    (left_moved (profile_of scope.begins) told offence before asked scope.without)

-- as many faults were counted as there are
counted : (counts : FaultCounts) (ended : List Ended) → counts ≡ counts_of_ended ended
    → counts.all ≡ length ended
counted counts ended is =
    ap (λ (c : FaultCounts). c.all) is ∙ length-map ended (λ (it : Ended). it.fault)

-- a stretch as the surveyor tells it is that of where it begins
pub stretch_told : (scope : Scope) (rows : List Event) (ended : List Ended) (running : List Event)
    (place : StretchStart) (counts : FaultCounts) (before : ℕ) (taken : Scope) (report : Report)
    → LeadFrom (first_place scope) rows ended running place → counts ≡ counts_of_ended ended
    → before ≡ place.rows → taken ≡ place.scope
    → made (counts.all + 1) (before + 1) (before + report.rows) taken report
    ≡ stretch_at place report
stretch_told scope rows ended running place counts before taken report lead faults is so =
    let many : place.faults ≡ length ended =
    lead_faults (first_place scope) rows ended running place lead ∙ omega (arith) in
    let number : counts.all + 1 ≡ place.faults + 1 =
    omega (arith, counted counts ended faults, many) in
    rw (number, is, so) refl

-- the stretch that runs
pub runs : (surveyor : Surveyor) (scope : Scope) (rows : List Event) (ended : List Ended)
    (report : Report) (last : Stretch) → StandsFor surveyor scope rows ended
    → ((events : List Event) → follow.StandsFor surveyor.follower events
    → IsReport (follow.scope_of surveyor.follower) events report)
    → last ≡ running_with surveyor report → IsSurvey scope rows ended last
runs surveyor scope rows ended report last on reports is = rw is (record {
  running = on.running;
  place = on.place;
  lead = on.lead;
  is = record {
    is = rw on.followed_so at (reports on.running on.follows);
    begins = stretch_told scope rows ended on.running on.place surveyor.faults surveyor.before
        surveyor.scope report on.lead on.faults on.before on.taken_so;
  };
})

module _ (one : OneActList) (old new : Surveyor) (scope : Scope) (rows : List Event) (row : Event)
    (ended : List Ended) where
  -- a row is taken
  pub taken_more : (act : Option Act) → StandsFor old scope rows ended
      → ((events : List Event) → follow.StandsFor old.follower events
      → follow.StandsFor new.follower (events ++ row ∷ []))
      → follow.scope_of new.follower ≡ follow.scope_of old.follower
      → ((events : List Event) → follow.StandsFor old.follower events
      → IsEndedAct (follow.scope_of old.follower) events row act)
      → new.told ≡ told_if old.scope.begins act old.told → new.scope ≡ old.scope
      → new.before ≡ old.before
      → new.faults ≡ old.faults → new.totals ≡ old.totals
      → StandsFor new scope (rows ++ row ∷ []) ended
  taken_more act on follows same_scope ends learnt so before faults totals =
      let it = rw on.followed_so at (ends on.running on.follows) in
      let begins : Beginning = on.place.scope.begins in
      record {
        running = on.running ++ row ∷ [];
        place = on.place;
        lead = lead_further (first_place scope) rows ended on.running on.place (row ∷ []) on.lead;
        follows = follows on.running on.follows;
        followed_so = same_scope ∙ on.followed_so;
        taken_so = so ∙ on.taken_so;
        told = λ pieces list. learnt ∙ rw (on.taken_so, on.told it.before it.shorter)
            (learnt_more begins on.place.told act (acts_of it.before)
            ∙ rw (
              one on.place.scope (on.running ++ row ∷ []) pieces (it.newest ∷ it.earlier) list
                  it.act_list,
              it.acts,
            ) refl);
        before = before ∙ on.before;
        faults = faults ∙ on.faults;
        totals = totals ∙ on.totals;
      }

  -- a row is met that can't be
  pub halted_by : StandsFor old scope rows ended
      → IsSomeAnd (follow.offence_of new.follower) (HasRefused old.follower new.follower row)
      → follow.scope_of new.follower ≡ follow.scope_of old.follower
      → new.told ≡ old.told → new.scope ≡ old.scope → new.before ≡ old.before
      → new.faults ≡ old.faults → new.totals ≡ old.totals
      → HasHalted new scope rows row ended
  halted_by on met same_scope told so before faults totals =
      let it = the_offence (follow.offence_of new.follower) _ met in
      record {
        offence = it.0;
        noted = it.1;
        running = on.running;
        place = on.place;
        lead = on.lead;
        accepted = it.2.accepted on.running on.follows;
        followed_so = same_scope ∙ on.followed_so;
        taken_so = so ∙ on.taken_so;
        is = subst (λ s. IsOffence s on.running row it.0) on.followed_so
            (it.2.offence on.running on.follows);
        told = λ pieces list. told ∙ on.told pieces list;
        block = λ beyond pieces list. it.2.block beyond
            ∙ block_on one old.follower on.running on.follows on.place.scope on.followed_so pieces
            list;
        before = before ∙ on.before;
        faults = faults ∙ on.faults;
        totals = totals ∙ on.totals;
      }

  -- the stretch after a fault begins
  pub next_stands : (offence : Offence) (report : Report) (stretch : Stretch)
      (asked : Option ReaderUnit) → HasHalted old scope rows row ended
      → follow.offence_of old.follower ≡ Some offence
      → ((events : List Event) → follow.HasAccepted old.follower events
      → IsReport (follow.scope_of old.follower) events report)
      → stretch ≡ running_with old report → follow.StandsFor new.follower []
      → WhoIsAskedBefore offence.rule (follow.open_block_of old.follower) asked
      → follow.scope_of new.follower
      ≡ scope_after old.told (fault_by old.before offence) asked old.scope
      → new.scope ≡ scope_after old.told (fault_by old.before offence) asked old.scope
      → new.told ≡ told_on new.scope.begins old.told → new.before ≡ old.before + offence.row
      → ((faults : List Offence) → old.faults ≡ counts_of_faults faults
      → new.faults ≡ counts_of_faults (fault_by old.before offence ∷ faults))
      → new.totals ≡ with_report old.totals report
      → StandsFor new scope (rows ++ row ∷ [])
      (record { stretch = stretch; fault = fault_by old.before offence } ∷ ended)
  next_stands offence report stretch asked on noted reports same begun asks follows_so so told
      before faults totals =
      let pieces = on.accepted.pieces in
      let list = rw on.followed_so at on.accepted.act_list in
      let next : StretchStart =
      place_after on.place (length on.running) (acts_of pieces) offence asked in
      let after : scope_after old.told (fault_by old.before offence) asked old.scope ≡ next.scope =
      fault_moved old.told offence old.before asked old.scope
      ∙ rw (on.told pieces list, on.taken_so) refl in
      let met : on.offence ≡ offence = cc (on.noted, noted) in
      let is = rw met at on.is in
      let number = is.number in
      rw same (record {
        running = [];
        place = next;
        lead = lead_on (first_place scope) rows ended on.running on.place row _ next on.lead
            (record {
              stretch = record {
                is = rw on.followed_so at (reports on.running on.accepted);
                begins = stretch_told scope rows ended on.running on.place old.faults old.before
                    old.scope report on.lead on.faults on.before on.taken_so;
              };
              offence = offence;
              is = is;
              row_is = ap (λ n. fault_by n offence) on.before;
              pieces = pieces;
              act_list = list;
              asked = asked;
              asked_is = asked_there offence.rule _ _ asked
                  (λ beyond. on.block (ap (λ (o : Offence). o.rule) met ∙ beyond) pieces list) asks;
              on = refl;
            });
        follows = begun;
        followed_so = follows_so ∙ after;
        taken_so = so ∙ after;
        told = λ ps none. told ∙ rw (so ∙ after, on.told pieces list) refl
            ∙ told_nothing one next.scope next.told ps none;
        before = omega (arith, before, on.before, number);
        faults = faults (map (λ (it : Ended). it.fault) ended) on.faults;
        totals = totals ∙ ap (λ (t : Totals). with_report t report) on.totals;
      })

-- a summary by its parts
abbrev summed : Totals → DeviceSet → FaultCounts → Summary
summed totals without faults = record { totals = totals; without = without; faults = faults }

pub same_summary : (t u : Totals) (d e : DeviceSet) (f g : FaultCounts) → t ≡ u → d ≡ e → f ≡ g
    → summed t d f ≡ summed u e g
same_summary t u d e f g totals without faults = rw (totals, without, faults) refl
