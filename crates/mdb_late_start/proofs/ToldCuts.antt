-- Levels of which less is known, or less was told: so it stays with each act. An end has its act
-- list as well where levels are told that were told in front of it: what its replies say of levels
-- fits those as it fitted in the whole.
use Rattle.mdb_late_start.proofs.Words.{refl, ◌≡◌, ◌++◌, ◌⊎◌, inl, inr, ℕ, List, [], ◌∷◌, Option, Some, None, option_or, Event, Command, First, Second, Setups, Act, Levels, Beginning, Joined, Profile, levels_for, with_foreign, first_levels, profile_of, IsNothingOr, IsLessTold, IsLessKnown, foreign_levels, Scope, AreToldBy, levels_before, Base, Extended, Piece, Whole, IsLow, PieceFits, levels_by, levels_of, ap, ◌∙◌, append-nil, HasActList, no_levels, told, MayBeReadAlone, BeginAnew, SplitsAt, joined_with, WereTold, told_later, ArePieces, IsActList, position_of}
use Rattle.mdb_msgs.specs.declared.command.Command.TheVariants as commands
use Rattle.mdb_msgs.specs.declared.command.ReaderCommand.TheVariants as readers
use Rattle.mdb_msgs.specs.declared.reply.Reply.TheVariants as replies
use Rattle.mdb_bus.specs.declared.act.Act.TheVariants as acts
use Rattle.mdb_late_start.proofs.CutWords.{said_stays}
use Rattle.mdb_late_start.proofs.Cutting.{CutsLaw}

-- a profile is one of the two
pub by_profile : (profile : Profile) → (profile ≡ Base) ⊎ (profile ≡ Extended)
by_profile Base = inl refl
by_profile Extended = inr refl

-- ---- what stays with each act is so in the end of pieces, where it is so in front of it

abbrev StaysBy : Profile → (Levels → Levels → Type 0) → Type 0
StaysBy profile Less =
    (act : Act) (one other : Levels) → Less one other
    → Less (levels_by profile act one) (levels_by profile act other)

module _ (profile : Profile) (Less : Levels → Levels → Type 0) (stays : StaysBy profile Less)
    (less more : Levels) where
  pub less_later : (later : List Piece) (words : List Event) (before : List Piece)
      → Less less (levels_of profile more before)
      → Less (levels_of profile less (later ++ with_foreign words []))
      (levels_of profile more (later ++ before))
  less_later [] words before told = rw (foreign_levels profile less words []) told
  less_later (Whole act events ∷ later) words before told =
      stays act (levels_of profile less (later ++ with_foreign words []))
      (levels_of profile more (later ++ before)) (less_later later words before told)
  less_later (piece ∷ later) words before told = less_later later words before told

-- less told by the controller stays so with an act
told_by : (profile : Profile) → StaysBy profile IsLessTold
told_by profile (acts.Ask (commands.Reader First (readers.SetupConfig level columns rows display)))
    one other less = (refl, less.1)
told_by profile (acts.Ask (commands.Reader Second (readers.SetupConfig level columns rows display)))
    one other less = (less.0, refl)
told_by Extended (acts.Reply (commands.Reader First command) (replies.Reader list)) one other less =
    less
told_by Extended (acts.Reply (commands.Reader Second command) (replies.Reader list)) one other
    less = less
told_by profile act one other less = less

-- ---- by the base profile

-- a level that is none or the same is low if it was
is_low : (one other : Option ℕ) → IsNothingOr one other → IsLow other → IsLow one
is_low None other less low = tt
is_low (Some level) other less low = rw less at low

-- and so is that of a command's reader
low_for : (command : Command) (one other : Levels) → IsLessTold one other
    → IsLow (levels_for command other).asked → IsLow (levels_for command one).asked
low_for (commands.Reader First command) one other less low =
    is_low one.first.asked other.first.asked less.0 low
low_for (commands.Reader Second command) one other less low =
    is_low one.second.asked other.second.asked less.1 low
low_for command one other less low = low

-- so what a piece says of levels fits as it did, in mid-session
levels_fit : (begins : Beginning) (setups : Setups) → profile_of begins ≡ Base
    → (piece : Piece) (one other : Levels) → IsLessTold one other → PieceFits begins other piece
    → PieceFits (Joined setups (profile_of begins)) one piece
levels_fit begins setups base (Whole (acts.Reply command reply) events) one other less fits =
    let its = rw base at fits in
    rw base (its.0, λ high. low_for command one other less (its.1 high))
levels_fit begins setups base piece one other less fits = fits

-- the levels that are known as an end begins are those that are told of it
pub as_told : (setups : Setups) (profile : Profile) → profile ≡ Base → (levels : Levels)
    → first_levels (Joined setups profile) levels ≡ levels
as_told setups profile base levels = rw base

-- so what a piece says of levels fits in an end, where less is told than in front of it
pub fits_later : (scope : Scope) (setups : Setups) → profile_of scope.begins ≡ Base
    → (levels : Levels) (words : List Event) (before : List Piece) → AreToldBy scope before levels
    → (later : List Piece) (piece : Piece) → PieceFits scope.begins
    (levels_of (profile_of scope.begins) (levels_before scope) (later ++ before)) piece
    → PieceFits (Joined setups (profile_of scope.begins)) (levels_of (profile_of scope.begins)
    (first_levels (Joined setups (profile_of scope.begins)) levels)
    (later ++ with_foreign words [])) piece
fits_later scope setups base levels words before less later piece fits =
    let profile = profile_of scope.begins in
    let here = first_levels (Joined setups profile) levels in
    let there = levels_before scope in
    levels_fit scope.begins setups base piece
    (levels_of profile here (later ++ with_foreign words []))
    (levels_of profile there (later ++ before))
    (less_later profile IsLessTold (told_by profile) here there later words before
    (rw (as_told setups profile base levels) less)) fits

-- ---- levels that both told

-- what is told now goes before what was known
or_less : (now one other : Option ℕ) → IsNothingOr one other
    → IsNothingOr (option_or now one) (option_or now other)
or_less None one other less = less
or_less (Some level) one other less = refl

-- so less known of both stays so with an act
pub known_by : (profile : Profile) → StaysBy profile IsLessKnown
known_by profile (acts.Ask (commands.Reader First (readers.SetupConfig level _ _ _))) _ _ less =
    search
known_by profile (acts.Ask (commands.Reader Second (readers.SetupConfig level _ _ _))) _ _ less =
    search
known_by Extended (acts.Reply (commands.Reader First command) (replies.Reader list)) _ _ less =
    search or_less
known_by Extended (acts.Reply (commands.Reader Second command) (replies.Reader list)) _ _ less =
    search or_less
known_by profile act one other less = less

-- what pieces say of levels fits, where these were told before them
abbrev AllFit : Beginning → Levels → List Piece → Type 0
AllFit begins levels [] = Unit {0}
AllFit begins levels (piece ∷ pieces) =
    PieceFits begins (levels_of (profile_of begins) (first_levels begins levels) pieces) piece
    × AllFit begins levels pieces

-- foreign words say nothing of levels
foreign_fit : (begins : Beginning) (levels : Levels) (words : List Event) (pieces : List Piece)
    → AllFit begins levels pieces → AllFit begins levels (with_foreign words pieces)
foreign_fit begins levels [] pieces fit = fit
foreign_fit begins levels (word ∷ words) pieces fit =
    foreign_fit begins levels words (Whole acts.Foreign (word ∷ []) ∷ pieces) (tt, fit)

-- the bus is where it is, whatever was told
same_position : (levels : Levels) (scope : Scope) (pieces : List Piece)
    → position_of scope pieces ≡ position_of (told levels scope) pieces
same_position levels scope [] = refl
same_position levels scope (piece ∷ pieces) = refl

-- so pieces in order are in order where levels are told that they fit
told_order : (levels : Levels) (scope : Scope) (pieces : List Piece) → ArePieces scope pieces
    → AllFit scope.begins levels pieces → ArePieces (told levels scope) pieces
told_order levels scope [] are fit = tt
told_order levels scope (piece ∷ pieces) are fit = (
  record {
    said = said_stays scope.begins levels scope refl piece are.0.said;
    spaced = are.0.spaced;
  },
  record {
    first = are.1.first;
    others = are.1.others;
    begins = are.1.begins;
    comes = rw (same_position levels scope pieces) at are.1.comes;
    levels = fit.0;
  },
  told_order levels scope pieces are.2 fit.1,
)

module _ (setups : Setups) (scope : Scope) where
  abbrev profile : Profile
  profile = profile_of scope.begins

  -- what pieces of an end say fits, where less is told than in front of it
  later_fit : (levels : Levels) (words : List Event) (before : List Piece) → profile ≡ Base
      → AreToldBy scope before levels → (later : List Piece) → ArePieces scope (later ++ before)
      → AllFit (Joined setups profile) levels (later ++ with_foreign words [])
  later_fit levels words before base less [] are =
      foreign_fit (Joined setups profile) levels words [] tt
  later_fit levels words before base less (piece ∷ later) are = (
    fits_later scope setups base levels words before less later piece are.1.levels,
    later_fit levels words before base less later are.2,
  )

  -- by the extended profile the levels that are known as an end begins are those of its setup data,
  -- so all fits whatever else is told
  other_fit : (levels other : Levels) (pieces : List Piece) → profile ≡ Extended
      → ArePieces (told_later setups levels scope) pieces
      → AllFit (Joined setups profile) other pieces
  other_fit levels other [] extended are = tt
  other_fit levels other (piece ∷ pieces) extended are =
      let same : first_levels (Joined setups profile) levels
      ≡ first_levels (Joined setups profile) other = rw extended in
      (rw same at are.1.levels, other_fit levels other pieces extended are.2)

-- and an act list is one
pub other_levels : (setups : Setups) (levels other : Levels) (scope : Scope)
    (pieces : List Piece) (rows : List Event) → profile_of scope.begins ≡ Extended
    → IsActList (told_later setups levels scope) pieces rows
    → IsActList (told_later setups other scope) pieces rows
other_levels setups levels other scope pieces rows extended list = record {
  in_order = told_order other (told_later setups levels scope) pieces list.in_order
      (other_fit setups scope levels other pieces extended list.in_order);
  whole = list.whole;
}

-- The act list of an end is one where levels are told that were told in front of it. By the
-- extended profile these don't count.
pub told_list : (scope : Scope) (setups : Setups) (levels : Levels) (front end : List Event)
    (pieces : List Piece)
    → IsActList scope pieces (front ++ end) → (cut : SplitsAt scope setups front end pieces)
    → AreToldBy scope cut.before levels
    → IsActList (told_later setups levels scope) (cut.later ++ with_foreign cut.words []) end
told_list scope setups levels front end pieces list cut less =
    elim (by_profile (profile_of scope.begins)) [
      | inl base ↦ record {
        in_order = told_order levels (joined_with setups scope)
            (cut.later ++ with_foreign cut.words []) cut.act_list.in_order
            (later_fit setups scope levels cut.words cut.before base less cut.later
            (rw cut.order at list.in_order));
        whole = cut.act_list.whole;
      }
      | inr extended ↦ other_levels setups no_levels levels scope
          (cut.later ++ with_foreign cut.words []) end extended cut.act_list
    ]

-- where an end begins anew, the pieces in front of it are an act list of the rows there
pub front_list : {scope : Scope} {setups : Setups} {front end : List Event} {pieces : List Piece}
    (cut : SplitsAt scope setups front end pieces) → BeginAnew end
    → IsActList scope cut.before front
front_list {front = front} cut anew = record {
  in_order = cut.in_front;
  whole = cut.rows ∙ ap (λ ws. front ++ ws) (cut.clean anew) ∙ append-nil front;
}

-- so levels were told in front of it that the act list of the rows there tells
pub told_anew : CutsLaw
    → ((scope : Scope) (rows : List Event) (one other : List Piece)
    → IsActList scope one rows → IsActList scope other rows → one ≡ other)
    → (scope : Scope) (setups : Setups) (levels : Levels) (front end : List Event)
    (before : List Piece) → MayBeReadAlone scope setups front end
    → HasActList scope (front ++ end) → BeginAnew end
    → IsActList scope before front → AreToldBy scope before levels
    → WereTold scope setups levels front end
told_anew cuts one scope setups levels front end before may has anew list less =
    let cut = cuts scope setups front end has.0 may has.1 in
    record {
      pieces = has.0;
      act_list = has.1;
      cut = cut;
      in_front = rw (one scope front before cut.before list (front_list cut anew)) at less;
    }
