-- What is kept of a reply, message by message, and what a reply can tell of it.
use Rattle.mdb_machine.proofs.Words.{◌≡◌, ◌||◌, ◌&&◌, not, Bool, List, [], ◌∷◌, ◌++◌, Option, Some, None, IfNone, refl, ap, sym, subst, ◌∙◌, map, true, false, OnFalse, list_any, filter_map-append, Part, Choice, Lost, Restart, IsNew, MayBeRead, HasNews, has_reset, holds_acked, is_reset, keeps_early, kept_by, kept_of, IsSummary}
use Rattle.std.proofs.lemmas.List.Folds.{list_any-append}
use Rattle.mdb_machine.specs.declared.kept.Part.TheVariants as part

-- the kept list of a reply with one message more
pub kept_of-more : {M : Type 0} (parts : List (Part M)) (p : Part M)
    → kept_of (parts ++ p ∷ []) ≡ kept_of parts ++ kept_of (p ∷ [])
kept_of-more parts p = filter_map-append kept_by parts (p ∷ [])

-- whether it has a reset message
pub has_reset-more : {M : Type 0} (parts : List (Part M)) (p : Part M)
    → has_reset (parts ++ p ∷ []) ≡ (has_reset parts || has_reset (p ∷ []))
has_reset-more parts p = list_any-append is_reset parts (p ∷ [])

-- whether a kept message stands before its first reset message
pub keeps_early-more : {M : Type 0} (parts : List (Part M)) (p : Part M)
    → keeps_early (parts ++ p ∷ [])
    ≡ (keeps_early parts || (not (has_reset parts) && keeps_early (p ∷ [])))
keeps_early-more [] p = refl
keeps_early-more (part.Reset ∷ parts) p = refl
keeps_early-more (part.Kept message ∷ parts) p = refl
keeps_early-more (part.Other ∷ parts) p = keeps_early-more parts p

-- a reply that its device can't tell, since its kept list doesn't begin with what it holds
pub untold : {M X : Type 0} (o : Option X) (poll owed reset early : Bool) (choice : Choice)
    (holding : List M) {kept items : List M} → kept ≡ items
    → IfNone o ((other : List M) → IsNew poll holding kept other → ⊥)
    → IfNone o ((parts : List (Part M)) (other : List M) → IsSummary items reset early parts
    → HasNews poll choice owed holding parts other → ⊥)
untold (Some x) poll owed reset early choice holding is none = tt
untold None poll owed reset early choice holding is none =
    λ parts other summary tells. none other (rw (is, summary.kept_is) tells.new)

-- whether messages have a reset message
reset_among : {T M : Type 0} (part_of : T → Part M) (messages : List T)
    → has_reset (map part_of messages) ≡ list_any (λ m. is_reset (part_of m)) messages
reset_among part_of [] = refl
reset_among part_of (m ∷ messages) =
    ap (λ b. is_reset (part_of m) || b) (reset_among part_of messages)

-- messages that don't tell of a restart
pub no_restart : {T M : Type 0} (has : Bool) (part_of : T → Part M) (messages : List T)
    → has ≡ list_any (λ m. is_reset (part_of m)) messages
    → OnFalse has (MayBeRead Restart (map part_of messages) → ⊥)
no_restart true part_of messages is = tt
no_restart false part_of messages is = λ read.
    let has : has_reset (map part_of messages) ≡ true = read.0 in
    let hasnt : has_reset (map part_of messages) ≡ false = reset_among part_of messages ∙ sym is in
    absurd (cc (has, hasnt))

-- what a reply tells, and that it tells nothing else
pub record HasNewsOnly {M : Type 0} (poll : Bool) (choice : Choice) (owed : Bool) (holding : List M)
    (parts : List (Part M)) (news : List M) : Type 0 where
  pub has_news : HasNews poll choice owed holding parts news
  pub only : (other : List M) → HasNews poll choice owed holding parts other → other ≡ news

-- it, as the code finds it
pub only_news : {M : Type 0} {poll polls owed reset early : Bool} {choice : Choice}
    {holding held items news : List M} {parts messages : List (Part M)}
    → poll ≡ polls → holding ≡ held → messages ≡ parts → IsSummary items reset early messages
    → ((parts : List (Part M)) → IsSummary items reset early parts
    → HasNews poll choice owed holding parts news)
    → ((parts : List (Part M)) (other : List M) → IsSummary items reset early parts
    → HasNews poll choice owed holding parts other → other ≡ news)
    → HasNewsOnly polls choice owed held parts news
only_news {M} {poll} {polls} {owed} {reset} {early} {choice} {holding} {held} {items} {news} {parts}
    {messages} poll_is held_is parts_are summary found only =
    let so : HasNewsOnly poll choice owed holding messages news =
    record { has_news = found messages summary; only = λ other. only messages other summary } in
    subst (λ (p : Bool). HasNewsOnly p choice owed held parts news) poll_is
    (subst (λ (h : List M). HasNewsOnly poll choice owed h parts news) held_is
    (subst (λ (ps : List (Part M)). HasNewsOnly poll choice owed holding ps news) parts_are so))

-- an ACK leaves a device that holds nothing so, whether it hears that or not
pub free_acked : {M : Type 0} (choice : Choice) (kept : List M) {holds : Bool} → holds ≡ false
    → holds_acked choice kept holds ≡ false
free_acked choice kept free = ap (holds_acked choice kept) free ∙ never choice kept
  where
    never : {M : Type 0} (choice : Choice) (kept : List M) → holds_acked choice kept false ≡ false
    never choice [] = refl
    never Lost (message ∷ kept) = refl
    never choice (message ∷ kept) = refl
