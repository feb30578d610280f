-- What standard error is told where there is an answer.
use Rattle.std.specs.Prelude.{◌≡◌, ◌++◌, ◌+◌, ◌/◌, ◌%◌, ◌==◌, ◌&&◌, ℕ, List, codes, Option, Some, None}
use Rattle.std.specs.Prelude.{Bool, true, false, if◌then◌else◌, is_some, IfSome, Result, Ok, Err}
use Rattle.std.specs.Fmt.{decimal}
use Rattle.csv.specs.Reading.{default_config, records, strip_bom}
use Rattle.mdb_msgs.specs.declared.command.Device.{Device}
use Rattle.mdb_msgs.specs.declared.command.Device.TheVariants.{Bill, Reader}
use Rattle.mdb_msgs.specs.declared.command.ReaderUnit.{ReaderUnit}
use Rattle.mdb_msgs.specs.Devices.{device_word}
use Rattle.mdb_bus.specs.declared.fault.Blame.{Blame}
use Rattle.mdb_bus.specs.declared.fault.Blame.TheVariants as blames
use Rattle.mdb_bus.specs.declared.fault.Rule.{Rule}
use Rattle.mdb_bus.specs.declared.fault.Rule.TheVariants as rules
use Rattle.mdb_bus.specs.ExtendedLevels.{levels_in}
use Rattle.mdb_bus.specs.declared.levels.Levels.{Levels}
use Rattle.mdb_bus.specs.declared.levels.ReaderLevels.{ReaderLevels}
use Rattle.mdb_bus.specs.declared.scope.Beginning.{Beginning}
use Rattle.mdb_bus.specs.declared.scope.Beginning.TheVariants.{PowerOn, Joined}
use Rattle.mdb_bus.specs.declared.scope.Profile.TheVariants.{Base, Extended}
use Rattle.mdb_bus.specs.declared.scope.Scope.{Scope}
use Rattle.mdb_bus.specs.FaultWords.{blame_word}
use Rattle.mdb_follow.specs.declared.follower.TheConstants.{ROWS_MAX}
use Rattle.mdb_follow.specs.declared.offence.Offence.{Offence}
use Rattle.mdb_text.specs.Text.{line}
use Rattle.mdb_text.specs.declared.outcome.Outcome.{Outcome}
use Rattle.mdb_text.specs.declared.outcome.Outcome.TheVariants.{Yes, No}
use Rattle.mdb_check.specs.declared.beside.Beside.{Beside}
use Rattle.mdb_check.specs.declared.beside.Spared.{Spared}
use Rattle.mdb_check.specs.declared.checking.Checked.{Checked}
use Rattle.mdb_check.specs.Verdict.{IsJudgedNo}
use Rattle.mdb_verdict.specs.declared.fault.RunFault.{RunFault}
use Rattle.mdb_writing.specs.Written.{HasTaken}
use Rattle.mdbcheck_run.specs.declared.aside.Remedy.{Remedy}
use Rattle.mdbcheck_run.specs.declared.aside.Remedy.TheVariants.{Extend, TellLevel, LeaveOut}
use Rattle.mdbcheck_run.specs.declared.task.Task.{Task}
use Rattle.mdbcheck_run.specs.declared.task.Task.TheVariants.{Check}

-- the line on a no that isn't judged
abbrev pub unjudged_line : ReaderUnit → List ℕ
unjudged_line unit =
    line (codes "mdbcheck: not judged: the rows don't show whether " ++ device_word (Reader unit)
    ++ codes " and the controller speak feature level 1: add --extended (or leave it out:"
    ++ codes " --without " ++ device_word (Reader unit) ++ codes ")")

-- whether the level of a reader is given: as both sides reported it
abbrev pub is_given : ReaderLevels → Bool
is_given levels = is_some levels.asked && is_some levels.told

-- what may help where a message of a device isn't followed: the extended profile, where the base
-- profile ends; and in mid-session the level of a reader, which may decide how it is read, unless
-- it is given
abbrev pub remedy_for : Beginning → Device → Remedy
remedy_for (PowerOn Base) device = Extend
remedy_for (Joined setups Base) device = Extend
remedy_for (Joined setups Extended) (Reader unit) =
    if is_given (levels_in setups unit) then LeaveOut else TellLevel
remedy_for (Joined setups Extended) device = LeaveOut
remedy_for (PowerOn Extended) device = LeaveOut

-- the words to type that leave out a device
abbrev pub leave_text : List ℕ → List ℕ
leave_text device = codes "leave it out: --without " ++ device ++ codes ")"

-- that a message of a device isn't followed, and the words to type, by what may help
abbrev pub message_text : Remedy → Device → List ℕ
message_text Extend Bill = codes "bill may report a recycler: add --extended"
message_text Extend (Reader unit) =
    device_word (Reader unit) ++ codes " goes beyond feature level 1: add --extended"
message_text TellLevel (Reader unit) =
    device_word (Reader unit)
    ++ codes " sends a message that isn't followed, at least while its level isn't known:"
    ++ codes " tell it, as in --setup '" ++ device_word (Reader unit) ++ codes " level 3' (or "
    ++ leave_text (device_word (Reader unit))
message_text remedy device =
    device_word device ++ codes " sends a message that isn't followed ("
    ++ leave_text (device_word device)

-- the same of a command to a device
abbrev pub command_text : List ℕ → List ℕ
command_text device =
    codes "the controller sends " ++ device ++ codes " a command that isn't followed ("
    ++ leave_text device

-- a device by its word; which it is, is always known
abbrev pub device_text : Option Device → List ℕ
device_text (Some device) = device_word device
device_text None = codes "DEVICE"

-- why a row isn't followed, and the words to type: by who sent the row, and by the device
abbrev pub beyond_text : Beginning → Blame → Option Device → List ℕ
beyond_text begins blames.Controller device = command_text (device_text device)
beyond_text begins sender (Some device) = message_text (remedy_for begins device) device
beyond_text begins sender None = codes "a device sends a message that isn't followed"

-- the line on a row that isn't followed
abbrev pub beyond_line : Beginning → Offence → Option Device → List ℕ
beyond_line begins offence device =
    line (codes "mdbcheck: row " ++ decimal offence.row ++ codes ": "
    ++ beyond_text begins offence.blame device)

-- whether a row that breaks a rule isn't followed
abbrev pub is_beyond : Rule → Bool
is_beyond rules.Profile = true
is_beyond broken = false

-- who sent a row
abbrev pub sender_text : Blame → List ℕ
sender_text blames.Controller = codes "the controller"
sender_text blames.Other = codes "a device"
sender_text sender = blame_word sender

-- what a row out of its time did: before its time and after it
abbrev pub did_text : Rule → List ℕ
did_text rules.Early = codes " sent a command "
did_text rules.Late = codes " answered "
did_text rules.Spacing = codes " sent a word "
did_text broken = codes " sent a break of "

abbrev pub since_text : Rule → Blame → Bool → List ℕ
since_text rules.Early sender after_ret = codes " after the row before it"
since_text rules.Late blames.Controller after_ret = codes " after the reply"
since_text rules.Late sender false = codes " after the command"
since_text rules.Late sender true = codes " after the controller asked again"
since_text rules.Spacing sender after_ret = codes " after the word before it"
since_text broken sender after_ret = codes ""

-- tenths of a millisecond: what is too long is rounded up, and what is too short down
abbrev pub tenths : Rule → ℕ → ℕ
tenths rules.Late micros = micros / 100 + (if micros % 100 == 0 then 0 else 1)
tenths rules.Spacing micros = micros / 100 + (if micros % 100 == 0 then 0 else 1)
tenths broken micros = micros / 100

-- tenths of a millisecond as a time
abbrev pub time_text : ℕ → List ℕ
time_text time = decimal (time / 10) ++ codes "." ++ decimal (time % 10) ++ codes " ms"

-- what a row out of its time did, and how long it took
abbrev pub deed_text : Rule → Blame → ℕ → Bool → List ℕ
deed_text broken sender time after_ret =
    sender_text sender ++ did_text broken ++ time_text time ++ since_text broken sender after_ret

-- the line on a row whose time the extended profile's times spare
abbrev pub spared_line : Offence → Spared → List ℕ
spared_line offence it =
    line (codes "mdbcheck: row " ++ decimal offence.row ++ codes ": "
    ++ deed_text offence.rule offence.blame (tenths offence.rule it.micros) it.after_ret
    ++ codes "; --extended counts that and goes on")

-- the line on a no: on the reader for which it isn't judged, else on a row whose time is spared,
-- else on a row that isn't followed; any other no has none
abbrev pub aside_by : Beginning → Offence → Option ReaderUnit → Option Spared → Option Device
    → Option (List ℕ)
aside_by begins offence (Some unit) spared device = Some (unjudged_line unit)
aside_by begins offence None (Some it) device = Some (spared_line offence it)
aside_by begins offence None None device =
    if is_beyond offence.rule then Some (beyond_line begins offence device) else None

abbrev pub aside_line : Beginning → Offence → Beside → Option (List ℕ)
aside_line begins offence beside =
    aside_by begins offence beside.unjudged beside.spared beside.unfollowed

-- a writer was told nothing, or this line, or a front of it
abbrev pub HasHeard : {E : Type 0} → (E → Option (List ℕ)) → E → E → Option (List ℕ) → Type 0
HasHeard contents old new None = new ≡ old
HasHeard contents old new (Some told) = HasTaken (contents old) (contents new) told

-- It was told nothing but a line that is one of these, if there is one.
abbrev pub HasToldAside : {E : Type 0} → (E → Option (List ℕ)) → E → E
    → (Option (List ℕ) → Type 0) → Type 0
HasToldAside contents old new IsAside = (aside : Option (List ℕ))
    × HasHeard contents old new aside × IsAside aside

-- The line on an answer of `check` to a text, with this status: on a no that isn't judged, at a row
-- whose time the extended profile's times spare, or at a row that isn't followed, and on no other
-- answer.
pub record IsAsideOfCheck (scope : Scope) (readers : Levels) (text : Option (List ℕ)) (status : ℕ)
    (aside : Option (List ℕ)) : Type 0 where
  pub possible : status ≡ 0 → aside ≡ None
  pub impossible : status ≡ 1 → IfSome text (λ bytes. (offence : Offence)
      × (beside : Beside)
      × IsJudgedNo scope readers ROWS_MAX (records default_config (strip_bom bytes)) offence beside
      × (aside ≡ aside_line scope.begins offence beside))

-- The same of a task. The others have none.
abbrev pub IsAside : Task → Option (List ℕ) → ℕ → Option (List ℕ) → Type 0
IsAside (Check scope readers form) text status aside =
    IsAsideOfCheck scope readers text status aside
IsAside task text status aside = aside ≡ None

-- The rest serves private functions: the line on an answer of `check`.
abbrev pub aside_on : Beginning → Outcome → Beside → Option (List ℕ)
aside_on begins (No offence) beside = aside_line begins offence beside
aside_on begins (Yes report) beside = None

abbrev pub aside_of : Beginning → Result Checked RunFault → Option (List ℕ)
aside_of begins (Ok checked) = aside_on begins checked.outcome checked.beside
aside_of begins (Err fault) = None
