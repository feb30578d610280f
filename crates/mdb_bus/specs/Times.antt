-- The times of a recording, in microseconds: how long after a row the next one may come, and how
-- long a break lasts (MDB/ICP 4.3, timing; what each profile keeps of it, this profile). The rules
-- of the link and the act lists read the same ones. Two words are at least WORD_GAP_MIN apart.
use Rattle.std.specs.Prelude.{ℕ, Option, Some, None}
use Rattle.mdb_words.specs.declared.event.Event.{Event}
use Rattle.mdb_words.specs.declared.event.Event.TheVariants.{Break}
use Rattle.mdb_words.specs.declared.limits.TheConstants.{WORD_GAP_MIN, BLOCK_GAP_MAX, ANSWER_GAP_MAX, NEW_BLOCK_GAP_MIN, BREAK_LENGTH_MIN, SHORT_BREAK_MIN, SETUP_GAP_MIN}
use Rattle.mdb_bus.specs.declared.scope.Profile.{Profile}
use Rattle.mdb_bus.specs.declared.scope.Profile.TheVariants.{Base, Extended}
use Rattle.mdb_bus.specs.Positions.{Position, Quiet, Asked, Replied, Returned}

-- how long a row rests after the row before it: after a break not at all
abbrev pub rest_after : Option Event → ℕ
rest_after (Some (Break at length)) = 0
rest_after _ = WORD_GAP_MIN

-- How long a block of the controller rests. By the base profile it leaves the devices time for
-- their setup after a break, and for an answer or a repeat that may still come.
abbrev pub block_rest : Position → Profile → Option Event → ℕ
block_rest Quiet Base (Some (Break at length)) = SETUP_GAP_MIN
block_rest (Asked command) Base from = NEW_BLOCK_GAP_MIN
block_rest (Replied command reply) Base from = NEW_BLOCK_GAP_MIN
block_rest (Returned command reply) Base from = NEW_BLOCK_GAP_MIN
block_rest position profile from = rest_after from

-- how long after a word the next word of its block may come at most, if there is a limit
abbrev pub block_most : Profile → Option ℕ
block_most Base = Some BLOCK_GAP_MAX
block_most Extended = None

-- how long after the last word of a block the answer, or the repeat, may begin at most
abbrev pub answer_most : Profile → Option ℕ
answer_most Base = Some ANSWER_GAP_MAX
answer_most Extended = None

-- how long a break lasts at least
abbrev pub break_least : Profile → ℕ
break_least Base = BREAK_LENGTH_MIN
break_least Extended = SHORT_BREAK_MIN
