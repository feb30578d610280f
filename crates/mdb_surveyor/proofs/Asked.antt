-- Which reader the block in which rows end asks for what isn't followed.
use Rattle.mdb_surveyor.proofs.Words.{ap, ◌∙◌, refl, sym, ◌≡◌, ℕ, List, [], ◌∷◌, Option, Some, None, Event, ReaderCommand, ReaderUnit, EnablesMore, Spells, Act, Rule, Scope, IsActList, Piece, Whole, AskTail, ReplyTail, RepeatTail, events_of, first_position, left_open, position_of, open_block, OtherMoneyIsAsked, WhoIsAsked, WhoIsAskedBefore, EndInBlock}
use Rattle.mdb_words.specs.Block.{block_of}
use Rattle.mdb_msgs.specs.declared.command.Command.TheVariants.{Reader}
use Rattle.mdb_msgs.specs.declared.command.ReaderCommand.TheVariants as readers
use Rattle.mdb_msgs.proofs.OneCommand.{one_command}
use Rattle.mdb_bus.specs.declared.act.Act.TheVariants as acts
use Rattle.mdb_bus.specs.declared.fault.Rule.TheVariants as rules
use Rattle.mdb_bus.proofs.Lists.{at_first}

-- the same bytes ask for the same
pub asked_there : (broken : Rule) (bytes others : List ℕ) (asked : Option ReaderUnit)
    → (broken ≡ rules.Profile → bytes ≡ others) → WhoIsAskedBefore broken bytes asked
    → WhoIsAskedBefore broken others asked
asked_there rules.Profile bytes others asked same is = rw (same refl) at is
asked_there broken bytes others asked same is = is

-- ---- one reader is asked

one_unit : (bytes : List ℕ) (one other : ReaderUnit) → OtherMoneyIsAsked bytes one
    → OtherMoneyIsAsked bytes other → one ≡ other
one_unit bytes one other a b = cc (one_command (block_of bytes) (Reader one a.command)
    (Reader other b.command) a.spelled b.spelled)

one_more : (bytes : List ℕ) (one other : Option ReaderUnit) → WhoIsAsked bytes one
    → WhoIsAsked bytes other → one ≡ other
one_more bytes (Some one) (Some other) a b = ap Some (one_unit bytes one other a b)
one_more bytes (Some one) None a b = absurd (b one a)
one_more bytes None (Some other) a b = absurd (a other b)
one_more bytes None None a b = refl

pub one_asked : (broken : Rule) (bytes : List ℕ) (one other : Option ReaderUnit)
    → WhoIsAskedBefore broken bytes one → WhoIsAskedBefore broken bytes other → one ≡ other
one_asked rules.Profile bytes one other a b = one_more bytes one other a b
one_asked broken bytes one other a b = a ∙ sym b

-- a reader is asked by `Profile` alone
pub asked_beyond : (broken : Rule) (bytes : List ℕ) (asked : Option ReaderUnit)
    (unit : ReaderUnit) → asked ≡ Some unit → WhoIsAskedBefore broken bytes asked
    → (broken ≡ rules.Profile) × OtherMoneyIsAsked bytes unit
asked_beyond rules.Profile bytes asked unit some is = (refl, rw some at is)
asked_beyond broken bytes asked unit some is = absurd (cc (some, is))

-- ---- where they stand

no_command : (unit : ReaderUnit) (command : ReaderCommand)
    → Spells (Reader unit command) (block_of []) → EnablesMore (Reader unit command) → ⊥
no_command unit (readers.EnableOptions options) spelled more = cc spelled.bytes
no_command unit command spelled more = more

-- no bytes ask
pub none_asked : (unit : ReaderUnit) → OtherMoneyIsAsked [] unit → ⊥
none_asked unit asks = no_command unit asks.command asks.spelled asks.more

act_open : (act : Act) → open_block (left_open act) ≡ []
act_open (acts.Ask command) = refl
act_open act = refl

none_at : {T : Type 0} (bytes : List ℕ) (unit : ReaderUnit) → bytes ≡ []
    → OtherMoneyIsAsked bytes unit → T
none_at bytes unit none asks = absurd (none_asked unit (rw none at asks))

-- rows with an act list end in the bytes that ask so
pub ends_so : (scope : Scope) (pieces : List Piece) (rows : List Event) (unit : ReaderUnit)
    → IsActList scope pieces rows
    → OtherMoneyIsAsked (open_block (position_of scope pieces)) unit
    → EndInBlock (open_block (position_of scope pieces)) rows
ends_so scope [] rows unit list asks =
    none_at (open_block (first_position scope.begins)) unit
    (at_first (λ position. open_block position ≡ []) refl refl scope.begins) asks
ends_so scope (AskTail bytes events ∷ earlier) rows unit list asks = record {
  before = events_of earlier;
  words = events;
  parts = sym list.whole;
  said = list.in_order.0.said.1;
}
ends_so scope (Whole act events ∷ earlier) rows unit list asks =
    none_at (open_block (left_open act)) unit (act_open act) asks
ends_so scope (ReplyTail command bytes events ∷ earlier) rows unit list asks =
    absurd (none_asked unit asks)
ends_so scope (RepeatTail command reply words events ∷ earlier) rows unit list asks =
    absurd (none_asked unit asks)
