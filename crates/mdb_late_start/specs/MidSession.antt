-- What a device does in the course of a recording, it may do in the end of that, too, taken as a
-- recording that begins in mid-session (this profile). Lists of acts stand newest first.
use Rattle.std.specs.Prelude.{◌≡◌, ◌≢◌, Bool, true, List, [], ◌∷◌, ◌++◌, Option, Some, None}
use Rattle.mdb_msgs.specs.declared.command.Device.{Device}
use Rattle.mdb_msgs.specs.declared.command.Device.TheVariants as devices
use Rattle.mdb_msgs.specs.declared.setups.Setups.{Setups}
use Rattle.mdb_msgs.specs.Setups.{config_known}
use Rattle.mdb_bus.specs.declared.act.Act.{Act}
use Rattle.mdb_bus.specs.declared.act.Act.TheVariants as acts
use Rattle.mdb_bus.specs.declared.scope.Beginning.{Beginning}
use Rattle.mdb_bus.specs.declared.scope.Beginning.TheVariants.{PowerOn, Joined}
use Rattle.mdb_bus.specs.Pieces.{NamesAReply}
use Rattle.mdb_bus.specs.Scopes.{profile_of}
use Rattle.mdb_machine.specs.declared.choice.Choice.{Choice}
use Rattle.mdb_machine.specs.declared.gains.Gains.{Gains}
use Rattle.mdb_cash.specs.BillFacts as bill
use Rattle.mdb_cash.specs.ChangerFacts as changer
use Rattle.mdb_machine.specs.Known.{Known, Is}
use Rattle.mdb_cashless.specs.declared.by_profile.state.StateByProfile.{StateByProfile}
use Rattle.mdb_cashless.specs.declared.by_profile.state.StateByProfile.TheVariants.{Base, Extended}
use Rattle.mdb_cashless.specs.ByProfileFacts as reader
use Rattle.mdb_cashless.specs.ByProfileFacts.{FactsByProfile, by_base, by_extended}
use Rattle.mdb_cashless.specs.Sales.{EndsInReply}
use Rattle.mdb_follow.specs.LeavingOut.{IsNotKnown}
use Rattle.mdb_follow.specs.Machines.{StateOf, machine_of}
use Rattle.mdb_follow.specs.Report.{unvalued_of}

-- An answer of a device stands right after the ask that it answers, and the controller's ACK after
-- the reply that it acknowledges.
abbrev pub AnswersLast : Act → List Act → Type 0
AnswersLast (acts.Ack command) so_far = (before : List Act) × (so_far ≡ acts.Ask command ∷ before)
AnswersLast (acts.Reply command reply) so_far =
    (before : List Act) × (so_far ≡ acts.Ask command ∷ before)
AnswersLast (acts.VmcAck command reply) so_far = EndsInReply command reply so_far
AnswersLast act so_far = Unit {0}

-- A device that holds messages has told a list of them: where its last list is known, it isn't
-- empty.
abbrev pub HasTold : {M : Type 0} → Bool → Known (List M) → Type 0
HasTold holds last = holds ≡ true → last ≢ Is []

-- A reader's state is one of its profile's machine. By the extended profile it holds nothing.
abbrev pub HasToldByProfile : FactsByProfile → StateByProfile → Type 0
HasToldByProfile (by_base known) (Base state) = HasTold state.holds known.past.last_kept
HasToldByProfile (by_extended facts) (Extended state) = Unit {0}
HasToldByProfile facts state = ⊥

-- so it is with the state of each device after acts of a recording that begins so: it has told what
-- it holds
abbrev pub HasToldWhatItHolds : Beginning → (device : Device) → List Act → StateOf device → Type 0
HasToldWhatItHolds begins devices.Changer so_far state =
    HasTold state.holds (changer.known_of begins so_far).past.last_kept
HasToldWhatItHolds begins devices.Bill so_far state =
    HasTold state.holds (bill.known_of begins so_far).past.last_kept
HasToldWhatItHolds begins (devices.Reader unit) so_far state =
    HasToldByProfile (reader.facts_of begins unit so_far) state

-- what is told from elsewhere is nothing, or what is known here
abbrev pub IsNothingOr : {X : Type 0} → Option X → Option X → Type 0
IsNothingOr None here = Unit {0}
IsNothingOr (Some told) here = here ≡ Some told

-- What setup data tell of a device is nothing, or how it is set up after these acts of a recording
-- that begins so.
abbrev pub TellsOnlyWhatIsSo : Setups → Beginning → Device → List Act → Type 0
TellsOnlyWhatIsSo setups begins devices.Changer so_far =
    IsNothingOr setups.changer (changer.known_of begins so_far).setup
TellsOnlyWhatIsSo setups begins devices.Bill so_far =
    IsNothingOr setups.bill (bill.known_of begins so_far).setup
TellsOnlyWhatIsSo setups begins (devices.Reader unit) so_far =
    IsNothingOr (config_known setups unit) (reader.config_of (reader.facts_of begins unit so_far))

-- A step in the end of a recording (`later`, after acts `front`) is one in that end by itself, by
-- the same act under the same choice, from the same state to the same. It gains the same where the
-- end leaves no amount without a value, and what was told from elsewhere is what was known in front
-- of the end; and where both are one recording from power-on on, and nothing was told.
pub record GoesOnInEnd (begins : Beginning) (setups : Setups) (device : Device)
    (later front : List Act) (act : Act) (choice : Choice) (before after : StateOf device)
    (gains : Gains) : Type 0 where
  pub other : Gains
  pub step : (machine_of (Joined setups (profile_of begins)) device).Step later act choice before
      after other
  pub valued : TellsOnlyWhatIsSo setups begins device front → AnswersLast act later
      → unvalued_of (Joined setups (profile_of begins)) device (act ∷ later) ≡ 0 → other ≡ gains
  pub alike : begins ≡ PowerOn (profile_of begins) → front ≡ []
      → IsNotKnown (Joined setups (profile_of begins)) device → other ≡ gains

-- A device may do in mid-session what it does: the end of a recording that begins so may start in
-- the state that the device has there, and each of its steps is one of that end by itself. For that
-- the device has to have told what it holds, and so it has as the recording begins, and after each
-- step.
pub record MayJoinLate (begins : Beginning) (setups : Setups) (device : Device)
    : Type 0 where
  pub starts : (state : StateOf device) → (machine_of begins device).Starts state
      → HasToldWhatItHolds begins device [] state
  pub starts_anew : (so_far : List Act) (state : StateOf device)
      → HasToldWhatItHolds begins device so_far state
      → (machine_of (Joined setups (profile_of begins)) device).Starts state
  pub goes_on : (so_far : List Act) (act : Act) (choice : Choice) (before after : StateOf device)
      (gains : Gains) → HasToldWhatItHolds begins device so_far before
      → (machine_of begins device).Step so_far act choice before after gains
      → HasToldWhatItHolds begins device (act ∷ so_far) after
  pub step : (later front : List Act) (act : Act) (choice : Choice)
      (before after : StateOf device) (gains : Gains) → NamesAReply act
      → HasToldWhatItHolds begins device (later ++ front) before
      → (machine_of begins device).Step (later ++ front) act choice before after gains
      → GoesOnInEnd begins setups device later front act choice before after gains
