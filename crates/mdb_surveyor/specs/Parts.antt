-- What can be said of the faults of a survey, and of the stretches between them (this profile).
-- Lists of faults stand newest first.
use Rattle.std.specs.Prelude.{◌≡◌, ◌+◌, ℕ, List, [], ◌∷◌, ◌++◌, length, Any, Some}
use Rattle.mdb_words.specs.declared.event.Event.{Event}
use Rattle.mdb_words.specs.declared.word.Line.TheVariants.{Controller}
use Rattle.mdb_words.specs.Block.{words_on}
use Rattle.mdb_msgs.specs.declared.command.Device.{Device}
use Rattle.mdb_msgs.specs.declared.command.Device.TheVariants as devices
use Rattle.mdb_msgs.specs.declared.command.ReaderUnit.{ReaderUnit}
use Rattle.mdb_bus.specs.declared.fault.Rule.TheVariants as rules
use Rattle.mdb_bus.specs.Acts.{Say}
use Rattle.mdb_bus.specs.LinkFaults.{blame_on}
use Rattle.mdb_surveyor.specs.declared.stretch.Ended.{Ended}
use Rattle.mdb_surveyor.specs.OtherMoney.{OtherMoneyIsAsked}

-- The rows before one with this number are those of these stretches, each with the fault that ended
-- it, and no others. The first stretch begins with row 1, and each further one with the row after a
-- fault; the fault is the row after its stretch's last one. They are numbered from 1.
abbrev pub EndBefore : ℕ → List Ended → Type 0
EndBefore first [] = first ≡ 1
EndBefore first (it ∷ earlier) =
    (first ≡ it.fault.row + 1) × (it.fault.row ≡ it.stretch.last + 1)
    × (it.stretch.last + 1 ≡ it.stretch.first + it.stretch.report.rows)
    × (it.stretch.number ≡ length earlier + 1) × EndBefore it.stretch.first earlier

-- a reader that one of these faults is blamed on, which has the rule `Profile`
pub record IsReaderBeyond (ended : List Ended) (device : Device) : Type 0 where
  pub unit : ReaderUnit
  pub is : device ≡ devices.Reader unit
  pub fault : Any (λ it. (it.fault.rule ≡ rules.Profile)
      × (it.fault.blame ≡ blame_on (Some device))) ended

-- rows end in a block of the controller with these bytes so far
pub record EndInBlock (bytes : List ℕ) (rows : List Event) : Type 0 where
  pub before : List Event
  pub words : List Event
  pub parts : rows ≡ before ++ words
  pub said : Say Controller (words_on Controller bytes) words

-- a reader: rows end in all but the sum of an ENABLE OPTIONS that asks it for other money, and the
-- next row is one of these faults, with the rule `Profile`
pub record IsReaderAsked (rows : List Event) (ended : List Ended) (device : Device)
    : Type 0 where
  pub unit : ReaderUnit
  pub is : device ≡ devices.Reader unit
  pub front : List Event
  pub row : Event
  pub rest : List Event
  pub parts : rows ≡ front ++ row ∷ rest
  pub bytes : List ℕ
  pub ends : EndInBlock bytes front
  pub asks : OtherMoneyIsAsked bytes unit
  pub fault : Any (λ it. (it.fault.rule ≡ rules.Profile)
      × (it.fault.row ≡ length front + 1)) ended
