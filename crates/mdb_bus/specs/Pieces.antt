-- How act lists go on, piece by piece. Lists of pieces and of acts are written newest first.
use Rattle.std.specs.Prelude.{◌≡◌, List, ◌∷◌, Option, Some, None}
use Rattle.mdb_words.specs.declared.event.Event.{Event}
use Rattle.mdb_bus.specs.declared.act.Act.{Act}
use Rattle.mdb_bus.specs.declared.levels.Levels.{Levels}
use Rattle.mdb_bus.specs.declared.scope.Profile.{Profile}
use Rattle.mdb_bus.specs.declared.scope.Scope.{Scope}
use Rattle.mdb_bus.specs.ActLists.{IsActList, Piece, Whole, acts_of, levels_by}
use Rattle.mdb_bus.specs.declared.act.Act.TheVariants as acts
use Rattle.mdb_bus.specs.Acts.{IsReply}

-- the act that a piece is, if it is a whole one
abbrev pub act_in : Piece → Option Act
act_in (Whole act events) = Some act
act_in _ = None

-- a piece is a tail
abbrev pub IsTail : Piece → Type 0
IsTail (Whole act events) = ⊥
IsTail _ = Unit {0}

-- after an act, if there is one
abbrev pub levels_if : Profile → Option Act → Levels → Levels
levels_if profile None levels = levels
levels_if profile (Some act) levels = levels_by profile act levels

-- the transcript has an act list
abbrev pub HasActList : Scope → List Event → Type 0
HasActList scope events = (pieces : List Piece) × IsActList scope pieces events

-- acts with one more, if there is one
abbrev pub with_act : Option Act → List Act → List Act
with_act None acts = acts
with_act (Some act) acts = act ∷ acts

-- pieces go on from an act list of these rows, by an act or by none
pub record GoesOnFrom (scope : Scope) (rows : List Event) (pieces : List Piece) : Type 0 where
  pub before : List Piece
  pub act : Option Act
  pub act_list : IsActList scope before rows
  pub acts : acts_of pieces ≡ with_act act (acts_of before)

-- what an act says of a reply is of one that may answer its command
abbrev pub NamesAReply : Act → Type 0
NamesAReply (acts.Reply command reply) = IsReply command reply
NamesAReply (acts.VmcAck command reply) = IsReply command reply
NamesAReply (acts.VmcNak command reply) = IsReply command reply
NamesAReply (acts.VmcRet command reply) = IsReply command reply
NamesAReply (acts.Repeat command reply) = IsReply command reply
NamesAReply _ = Unit {0}
