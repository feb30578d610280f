-- What a follower stands for that heeds the feature levels, row by row.
use Rattle.mdb_check.proofs.Words.{Bool, Event, HasFollowed, HasRefused, IsActList, IsSomeAnd, Heeding, Levels, List, Meets, Met, None, Option, Piece, RefusesAmong, Scope, Some, SomeRefused, [], acts_of, add-one, ap, append_assoc, arith, before_last, begins_block, begun_at, drop, false, get_or, get_or_at, is_joined, known_before, last_begun, last_of, length, length-append, option_or, refl, reported, reported_if, subst, sym, take, take_all, take_at, take_more, true, unfollowed, unjudged, with_act, ℕ, ◌++◌, ◌+◌, ◌<◌, ◌∙◌, ◌∷◌, ◌≡◌, ◌≤◌}
use Rattle.std.proofs.Math.Seq.{split_at}
use Rattle.mdb_bus.proofs.Lists.{last_push}
use Rattle.mdb_bus.specs.declared.act.Act.{Act}
use Rattle.mdb_bus.specs.declared.fault.Blame.{Blame}
use Rattle.mdb_bus.specs.declared.fault.Rule.{Rule}
use Rattle.mdb_follow.specs.declared.offence.Offence.{Offence}
use Rattle.mdb_follow.specs.EndedActs.{IsEndedAct}
use Rattle.mdb_follow.specs.Feeding as feeding
use Rattle.mdb_follow.specs.Feeding.{HasTakenRows}
use Rattle.mdb_follow.specs.Follower as follow
use Rattle.mdb_follow.specs.Offences.{IsOffence}
use Rattle.mdb_follow.specs.FirstOffences.{HasOffence}
use Rattle.mdb_verdict.specs.Ending.{StopsAmong}

-- a transcript has one act list
abbrev pub OneActList : Type 0
OneActList = (scope : Scope) (rows : List Event) (one other : List Piece)
    → IsActList scope one rows → IsActList scope other rows → one ≡ other

or_none : (x : Option ℕ) → option_or x None ≡ x
or_none None = refl
or_none (Some n) = refl

or_both : (x y z : Option ℕ) → option_or (option_or x y) z ≡ option_or x (option_or y z)
or_both None y z = refl
or_both (Some n) y z = refl

-- the last block with one row more
pub last_more : (rows : List Event) (row : Event)
    → option_or (begins_block row) (last_begun rows) ≡ last_begun (rows ++ row ∷ [])
last_more [] row = or_none (begins_block row)
last_more (first ∷ rows) row =
    sym (or_both (begins_block row) (last_begun rows) (begins_block first))
    ∙ ap (λ last. option_or last (begins_block first)) (last_more rows row)

-- the levels with one act more, if there is one
reported_more : (known : Levels) (act : Option Act) (acts : List Act)
    → reported_if act (reported known acts) ≡ reported known (with_act act acts)
reported_more known None acts = refl
reported_more known (Some act) acts = refl

-- nothing was followed yet
pub nothing : OneActList
    → (scope : Scope) (readers : Levels) (so_far : Levels) (pieces : List Piece)
    → so_far ≡ reported (known_before scope readers) [] → IsActList scope pieces []
    → so_far ≡ reported (known_before scope readers) (acts_of pieces)
nothing one scope readers so_far pieces is list =
    is ∙ ap (λ ps. reported (known_before scope readers) (acts_of ps))
    (one scope [] [] pieces (record { in_order = tt; whole = refl }) list)

-- a row is taken
pub taken_more : OneActList
    → (old new : Heeding) (scope : Scope) (readers : Levels) (rows : List Event)
    (row : Event) (act : Option Act) → HasFollowed scope readers old rows
    → HasTakenRows old.follower new.follower (row ∷ [])
    → follow.scope_of new.follower ≡ follow.scope_of old.follower
    → ((events : List Event) → follow.StandsFor old.follower events
    → IsEndedAct (follow.scope_of old.follower) events row act)
    → new.joined ≡ old.joined → new.reported ≡ reported_if act old.reported
    → new.begun ≡ option_or (begins_block row) old.begun
    → HasFollowed scope readers new (rows ++ row ∷ [])
taken_more one old new scope readers rows row act on taken same_scope ends joined learnt begun =
    let it : IsEndedAct scope rows row act =
    rw on.follows.in_scope at (ends rows on.follows.stands) in
    record {
      follows = record {
        in_scope = same_scope ∙ on.follows.in_scope;
        stands = taken.stands rows on.follows.stands;
        counted = omega (arith, taken.counted, on.follows.counted, length-append rows (row ∷ []));
      };
      joined = joined ∙ on.joined;
      reported = λ is pieces list.
          rw (
            learnt,
            on.reported (sym joined ∙ is) it.before it.shorter,
            reported_more (known_before scope readers) act (acts_of it.before),
            sym it.acts,
          )
          (ap (λ ps. reported (known_before scope readers) (acts_of ps))
          (one scope (rows ++ row ∷ []) (it.newest ∷ it.earlier) pieces it.act_list list));
      begun = λ is. rw (begun, on.begun (sym joined ∙ is)) (last_more rows row);
    }

-- what isn't joined is judged, whatever is known
judged_as : (joined : Bool) (levels other : Levels) (begun last : Option ℕ) (broken : Rule)
    (blamed : Blame) → (joined ≡ true → levels ≡ other) → (joined ≡ true → begun ≡ last)
    → unjudged joined levels broken blamed begun ≡ unjudged joined other broken blamed last
judged_as false levels other begun last broken blamed same_levels same_begun = refl
judged_as true levels other begun last broken blamed same_levels same_begun =
    rw (same_levels refl, same_begun refl)

-- a row was refused, after rows that were accepted
refused_as : (old new : Heeding) (scope : Scope) (readers : Levels) (rows : List Event)
    (row : Event) (offence : Offence) → follow.scope_of new.follower ≡ scope
    → IsOffence scope rows row offence → follow.offence_of new.follower ≡ Some offence
    → follow.HasAccepted new.follower rows → new.joined ≡ is_joined scope.begins
    → (new.joined ≡ true → (pieces : List Piece) → IsActList scope pieces rows
    → new.reported ≡ reported (known_before scope readers) (acts_of pieces))
    → (new.joined ≡ true → new.begun ≡ begun_at (begins_block row) (last_begun rows))
    → HasRefused scope readers new rows row offence
refused_as old new scope readers rows row offence in_scope is noted accepted joined levels begun =
    let list : IsActList scope accepted.pieces rows = rw in_scope at accepted.act_list in
    record {
      is = is;
      judged = record {
        pieces = accepted.pieces;
        act_list = list;
        is = judged_as new.joined new.reported _ new.begun _ offence.rule offence.blame
            (λ j. levels j accepted.pieces list) begun
            ∙ ap (λ j. unjudged j (reported (known_before scope readers)
            (acts_of accepted.pieces)) offence.rule offence.blame
            (begun_at (begins_block row) (last_begun rows))) joined;
      };
      noted = noted;
      accepted = accepted;
      counted = accepted.rows;
    }

some_of : {T : Type 0} (o : Option T) (P : T → Type 0) → IsSomeAnd o P
    → (x : T) × (o ≡ Some x) × P x
some_of (Some x) P has = (x, refl, has)
some_of None P has = absurd has

-- the next row was refused
pub refused_by : (old new : Heeding) (scope : Scope) (readers : Levels) (rows : List Event)
    (row : Event) → HasFollowed scope readers old rows
    → IsSomeAnd (follow.offence_of new.follower)
    (feeding.HasRefused old.follower new.follower row)
    → follow.scope_of new.follower ≡ follow.scope_of old.follower
    → new.joined ≡ old.joined → new.reported ≡ old.reported
    → new.begun ≡ begun_at (begins_block row) old.begun
    → SomeRefused scope readers new rows row
refused_by old new scope readers rows row on refused same_scope joined kept begun =
    let (offence, noted, has) = some_of (follow.offence_of new.follower)
    (feeding.HasRefused old.follower new.follower row) refused in (
      offence,
      refused_as old new scope readers rows row offence (same_scope ∙ on.follows.in_scope)
          (subst (λ s. IsOffence s rows row offence) on.follows.in_scope
          (has.offence rows on.follows.stands)) has.noted
          (has.accepted rows on.follows.stands) (joined ∙ on.joined)
          (λ is pieces list. kept ∙ on.reported (sym joined ∙ is) pieces list)
          (λ is. begun ∙ ap (begun_at (begins_block row)) (on.begun (sym joined ∙ is))),
    )

-- it has followed so many rows
pub record HasFed (old : Heeding) (rows : List Event) (count : ℕ) (new : Heeding) : Type 0 where
  pub counted : follow.rows_of new.follower ≡ follow.rows_of old.follower + count
  pub same_scope : follow.scope_of new.follower ≡ follow.scope_of old.follower
  pub same_last : new.last ≡ old.last
  pub same_earlier : new.earlier ≡ old.earlier
  pub followed : (scope : Scope) (readers : Levels) (before : List Event)
      → HasFollowed scope readers old before
      → HasFollowed scope readers new (before ++ rows)

-- the next of the rows
module _ {old mid new : Heeding} (rows : List Event) (i : ℕ) (row : Event)
    (within : i < length rows) (has : HasFed old (take i rows) i mid) where
  -- is refused
  pub fed_to : ((scope : Scope) (readers : Levels) (before : List Event)
      → HasFollowed scope readers mid before
      → SomeRefused scope readers new before (get_or rows i row))
      → (scope : Scope) (readers : Levels) (before : List Event)
      → HasFollowed scope readers old before → RefusesAmong scope readers new before rows
  fed_to refuses scope readers before on =
      let some = refuses scope readers (before ++ take i rows)
      (has.followed scope readers before on) in
      record {
        offence = some.0;
        front = take i rows;
        row = get_or rows i row;
        rest = drop (i + 1) rows;
        parts = rw add-one (split_at rows i row within);
        is = some.1;
      }

  -- is followed
  pub fed_more : follow.rows_of new.follower ≡ follow.rows_of mid.follower + 1
      → follow.scope_of new.follower ≡ follow.scope_of mid.follower
      → new.last ≡ mid.last → new.earlier ≡ mid.earlier
      → ((scope : Scope) (readers : Levels) (before : List Event)
      → HasFollowed scope readers mid before
      → HasFollowed scope readers new (before ++ get_or rows i row ∷ []))
      → HasFed old (take (i + 1) rows) (i + 1) new
  fed_more more same same_last same_earlier follows = record {
    counted = omega (arith, more, has.counted);
    same_scope = same ∙ has.same_scope;
    same_last = same_last ∙ has.same_last;
    same_earlier = same_earlier ∙ has.same_earlier;
    followed = λ scope readers before on.
        rw (
          take_more rows i row within,
          sym (append_assoc before (take i rows) (get_or rows i row ∷ [])),
        )
        (follows scope readers (before ++ take i rows) (has.followed scope readers before on));
  }

-- all rows were followed
pub fed_all : (old new : Heeding) (rows : List Event) (i : ℕ) → length rows ≤ i
    → HasFed old (take i rows) i new → (scope : Scope) (readers : Levels) (before : List Event)
    → HasFollowed scope readers old before → HasFollowed scope readers new (before ++ rows)
fed_all old new rows i low has scope readers before on =
    rw (take_all i rows low) at (has.followed scope readers before on)

-- The rows of a recording that isn't joined are followed together.
module _ (old new : Heeding) (rows : List Event) (same : new.joined ≡ old.joined)
    (not : old.joined ≡ false)
    (same_scope : follow.scope_of new.follower ≡ follow.scope_of old.follower) where
  never_joined : new.joined ≡ true → ⊥
  never_joined is = cc

  -- all were taken,
  pub together : HasTakenRows old.follower new.follower rows
      → (scope : Scope) (readers : Levels) (before : List Event)
      → HasFollowed scope readers old before → HasFollowed scope readers new (before ++ rows)
  together taken scope readers before on = record {
    follows = record {
      in_scope = same_scope ∙ on.follows.in_scope;
      stands = taken.stands before on.follows.stands;
      counted = omega (arith, taken.counted, on.follows.counted, length-append before rows);
    };
    joined = same ∙ on.joined;
    reported = λ is. absurd (never_joined is);
    begun = λ is. absurd (never_joined is);
  }

  -- or one was refused
  pub refused_together : (offence : Offence) → follow.offence_of new.follower ≡ Some offence
      → offence.row ≡ follow.rows_of new.follower + 1
      → ((before : List Event) → follow.StandsFor old.follower before
      → HasOffence (follow.scope_of old.follower) before rows offence)
      → ((before : List Event) → follow.StandsFor old.follower before
      → follow.HasAccepted new.follower (take (follow.rows_of new.follower) (before ++ rows)))
      → (scope : Scope) (readers : Levels) (before : List Event)
      → HasFollowed scope readers old before → RefusesAmong scope readers new before rows
  refused_together offence noted numbered has accepts scope readers before on =
      let met : HasOffence scope before rows offence =
      rw on.follows.in_scope at (has before on.follows.stands) in
      let front : List Event = before ++ met.front in
      let whole : before ++ rows ≡ front ++ met.row ∷ met.rest =
      ap (λ l. before ++ l) met.parts
      ∙ sym (append_assoc before met.front (met.row ∷ met.rest)) in
      let count : length front ≡ follow.rows_of new.follower =
      omega (arith, numbered, met.is.number) in
      record {
        offence = offence;
        front = met.front;
        row = met.row;
        rest = met.rest;
        parts = met.parts;
        is = refused_as old new scope readers front met.row offence
            (same_scope ∙ on.follows.in_scope) met.is noted
            (rw (whole, take_at front (met.row ∷ met.rest) (follow.rows_of new.follower) count) at
            (accepts before on.follows.stands)) (same ∙ on.joined)
            (λ is. absurd (never_joined is)) (λ is. absurd (never_joined is));
      }

-- the row before the one at an index
pub last_at : (earlier rows : List Event) (i : ℕ) (d : Event) → i < length rows
    → last_of (earlier ++ take (i + 1) rows) ≡ Some (get_or rows i d)
last_at earlier rows i d within =
    rw (take_more rows i d within, sym (append_assoc earlier (take i rows) (get_or rows i d ∷ [])))
    (last_push (earlier ++ take i rows) (get_or rows i d))

-- and the row before it
before_more : (rows : List Event) (row : Event) → before_last (rows ++ row ∷ []) ≡ last_of rows
before_more [] row = refl
before_more (first ∷ []) row = refl
before_more (first ∷ next ∷ []) row = refl
before_more (first ∷ next ∷ other ∷ rows) row = before_more (next ∷ other ∷ rows) row

pub before_at : (earlier rows : List Event) (i : ℕ) → i < length rows
    → before_last (earlier ++ take (i + 1) rows) ≡ last_of (earlier ++ take i rows)
before_at earlier [] i within = absurd (omega (arith, within))
before_at earlier (d ∷ others) i within =
    let rows = d ∷ others in
    rw (take_more rows i d within, sym (append_assoc earlier (take i rows) (get_or rows i d ∷ [])))
    (before_more (earlier ++ take i rows) (get_or rows i d))

-- the last block up to a row, where the row begins one or doesn't
pub begun_more : (earlier rows : List Event) (i : ℕ) (d : Event) (own : Option ℕ)
    → own ≡ begins_block (get_or rows i d) → i < length rows
    → last_begun (earlier ++ take (i + 1) rows)
    ≡ option_or own (last_begun (earlier ++ take i rows))
begun_more earlier rows i d own is within =
    rw (
      is,
      take_more rows i d within,
      sym (append_assoc earlier (take i rows) (get_or rows i d ∷ [])),
    )
    (sym (last_more (earlier ++ take i rows) (get_or rows i d)))

-- no block begins in the rows from here up to there
pub record NoneBegins (rows : List Event) (left index : ℕ) : Type 0 where
  pub low : left ≤ index
  pub same : (earlier : List Event)
      → last_begun (earlier ++ take index rows) ≡ last_begun (earlier ++ take left rows)

-- where one of the rows is refused
module _ {heeding : Heeding} {scope : Scope} {readers : Levels} {earlier rows : List Event}
    (among : RefusesAmong scope readers heeding earlier rows) where
  -- so many of the rows were taken
  pub taken_among : (had : ℕ) → had ≡ length earlier
      → follow.rows_of heeding.follower ≡ had + length among.front
  taken_among had is = omega (arith, among.is.counted, is, length-append earlier among.front)

  pub front_within : length among.front < length rows
  front_within =
      omega (arith, ap length among.parts, length-append among.front (among.row ∷ among.rest))

  -- and what was met is what was met there
  pub met_there : (index : ℕ) (met : Met) → index ≡ length among.front
      → follow.offence_of heeding.follower ≡ Some met.offence
      → met.unjudged ≡ unjudged heeding.joined heeding.reported met.offence.rule
      met.offence.blame heeding.begun
      → ((other : Event) → met.row ≡ get_or rows index other)
      → met.last ≡ last_of (earlier ++ take index rows)
      → met.earlier ≡ before_last (earlier ++ take index rows)
      → met.unfollowed ≡ unfollowed met.offence.rule met.offence.blame
      (last_begun (earlier ++ take (index + 1) rows))
      → StopsAmong (λ before row. Meets scope readers heeding before row met) earlier rows
  met_there index met here noted is row last before left =
      let same : met.offence ≡ among.offence = cc (among.is.noted, noted) in
      let front : take index rows ≡ among.front =
      ap (take index) among.parts
      ∙ take_at among.front (among.row ∷ among.rest) index (sym here) in
      let there : get_or rows index among.row ≡ among.row =
      ap (λ l. get_or l index among.row) among.parts
      ∙ get_or_at among.front among.row among.rest among.row index (sym here) in
      let up_to : take (index + 1) rows ≡ among.front ++ among.row ∷ [] =
      take_more rows index among.row (rw here front_within)
      ∙ ap (λ l. l ++ get_or rows index among.row ∷ []) front
      ∙ ap (λ r. among.front ++ r ∷ []) there in
      record {
        front = among.front;
        row = among.row;
        rest = among.rest;
        parts = among.parts;
        stops = record {
          refused = rw same among.is;
          unjudged = is;
          there = row among.row ∙ there;
          unfollowed = left ∙ ap (λ l. unfollowed met.offence.rule met.offence.blame (last_begun l))
              (ap (λ l. earlier ++ l) up_to
              ∙ sym (append_assoc earlier among.front (among.row ∷ [])));
          last = last ∙ ap (λ l. last_of (earlier ++ l)) front;
          earlier = before ∙ ap (λ l. before_last (earlier ++ l)) front;
        };
      }
