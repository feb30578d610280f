-- How a recording is divided into stretches and faults (this profile). Lists of faults and of
-- pieces stand newest first, lists of events oldest first.
use Rattle.std.specs.Prelude.{◌≡◌, ◌+◌, ℕ, List, [], ◌∷◌, ◌++◌, length, Option, Some, None, if◌then◌else◌}
use Rattle.mdb_words.specs.declared.event.Event.{Event}
use Rattle.mdb_msgs.specs.declared.command.Device.TheVariants as devices
use Rattle.mdb_msgs.specs.declared.command.ReaderUnit.{ReaderUnit}
use Rattle.mdb_msgs.specs.declared.command.ReaderUnit.TheVariants.{First, Second}
use Rattle.mdb_msgs.specs.declared.device_set.DeviceSet.{DeviceSet}
use Rattle.mdb_msgs.specs.Settings.{with_device}
use Rattle.mdb_bus.specs.declared.act.Act.{Act}
use Rattle.mdb_bus.specs.declared.fault.Blame.{Blame}
use Rattle.mdb_bus.specs.declared.fault.Blame.TheVariants as blames
use Rattle.mdb_bus.specs.declared.fault.Rule.{Rule}
use Rattle.mdb_bus.specs.declared.fault.Rule.TheVariants as rules
use Rattle.mdb_bus.specs.declared.scope.Beginning.TheVariants.{Joined}
use Rattle.mdb_bus.specs.declared.scope.Profile.{Profile}
use Rattle.mdb_bus.specs.declared.scope.Profile.TheVariants.{Base, Extended}
use Rattle.mdb_bus.specs.declared.scope.Scope.{Scope}
use Rattle.mdb_bus.specs.ActLists.{IsActList, Piece, acts_of, position_of}
use Rattle.mdb_bus.specs.Bus.{open_block}
use Rattle.mdb_bus.specs.Scopes.{profile_of}
use Rattle.mdb_follow.specs.declared.offence.Offence.{Offence}
use Rattle.mdb_follow.specs.declared.report.Report.{Report}
use Rattle.mdb_follow.specs.Offences.{IsOffence}
use Rattle.mdb_follow.specs.Report.{IsReport}
use Rattle.mdb_surveyor.specs.declared.stretch.Ended.{Ended}
use Rattle.mdb_surveyor.specs.declared.stretch.Stretch.{Stretch}
use Rattle.mdb_surveyor.specs.declared.told.Told.{Told}
use Rattle.mdb_surveyor.specs.OtherMoney.{WhoIsAskedBefore}
use Rattle.mdb_surveyor.specs.Told.{is_told_below_2, levels_on, setups_on, told_after, told_before, told_on}

-- Where a stretch begins.
pub record StretchStart : Type 0 where
  -- how many faults stand before it
  pub faults : ℕ
  -- how many rows stand before it, those of the faults among them
  pub rows : ℕ
  -- how its rows are taken
  pub scope : Scope
  -- what the stretches before it tell of how the devices are set up
  pub told : Told

-- the first stretch begins with the recording, and is taken as that is taken
abbrev pub first_place : Scope → StretchStart
first_place scope = record { faults = 0; rows = 0; scope = scope; told = told_before scope }

-- a reader is left out from a `Profile` on that is blamed on it, unless the controller has last
-- told it a feature level below 2
abbrev pub without_reader : Told → ReaderUnit → DeviceSet → DeviceSet
without_reader told unit without =
    if is_told_below_2 told unit then without else with_device without (devices.Reader unit)

-- the devices that are left out after a fault that is blamed so, if it is a `Profile`
abbrev pub left_out_by : Told → Blame → DeviceSet → DeviceSet
left_out_by told blames.Cashless without = without_reader told First without
left_out_by told blames.Cashless2 without = without_reader told Second without
left_out_by told blamed without = without

-- the devices that are left out after a fault
abbrev pub left_out_for : Rule → Told → Blame → DeviceSet → DeviceSet
left_out_for rules.Profile told blamed without = left_out_by told blamed without
left_out_for broken told blamed without = without

abbrev pub left_out_after : Told → Offence → DeviceSet → DeviceSet
left_out_after told offence without = left_out_for offence.rule told offence.blame without

-- by the extended profile: a reader that is asked for other money
abbrev pub left_out_asked : Option ReaderUnit → DeviceSet → DeviceSet
left_out_asked (Some unit) without = with_device without (devices.Reader unit)
left_out_asked None without = without

-- the devices that are left out after a fault, by a profile
abbrev pub left_out_by_profile : Profile → Told → Offence → Option ReaderUnit → DeviceSet
    → DeviceSet
left_out_by_profile Base told offence asked without = left_out_after told offence without
left_out_by_profile Extended told offence asked without = left_out_asked asked without

-- How the rows after a fault are taken: as a recording that begins in mid-session, by the same
-- profile. `told` is what the rows up to it tell, `asked` the reader that they ask for other money,
-- and `scope` how they were taken.
abbrev pub scope_after : Told → Offence → Option ReaderUnit → Scope → Scope
scope_after told offence asked scope = record {
  begins = Joined (setups_on (profile_of scope.begins) told) (profile_of scope.begins);
  without = left_out_by_profile (profile_of scope.begins) told offence asked scope.without;
  levels = levels_on (profile_of scope.begins) told;
}

-- where the next stretch begins, after so many rows with these acts, and a fault
abbrev pub place_after : StretchStart → ℕ → List Act → Offence → Option ReaderUnit → StretchStart
place_after place rows acts offence asked =
    let told : Told = told_after place.scope.begins place.told acts in
    let scope : Scope = scope_after told offence asked place.scope in
    record {
      faults = place.faults + 1;
      rows = place.rows + (rows + 1);
      scope = scope;
      told = told_on scope.begins told;
    }

-- the stretch that begins there, with the report on its rows
abbrev pub stretch_at : StretchStart → Report → Stretch
stretch_at place report = record {
  number = place.faults + 1;
  first = place.rows + 1;
  last = place.rows + report.rows;
  scope = place.scope;
  report = report;
}

-- an offence by its number in the whole recording
abbrev pub fault_at : StretchStart → Offence → Offence
fault_at place offence = record offence { row = place.rows + offence.row }

-- A stretch begins there and has these rows: they can be, and this is the report on them.
pub record IsStretch (place : StretchStart) (rows : List Event) (stretch : Stretch) : Type 0 where
  pub is : IsReport place.scope rows stretch.report
  pub begins : stretch ≡ stretch_at place stretch.report

-- A stretch begins there and has these rows, and a fault ends it: the next row, which cannot follow
-- them. After it the next stretch begins.
pub record EndsBy (place : StretchStart) (rows : List Event) (row : Event) (ended : Ended)
    (next : StretchStart) : Type 0 where
  pub stretch : IsStretch place rows ended.stretch
  pub offence : Offence
  pub is : IsOffence place.scope rows row offence
  pub row_is : ended.fault ≡ fault_at place offence
  pub pieces : List Piece
  pub act_list : IsActList place.scope pieces rows
  -- the reader that the block before the row asks for other money, if the row breaks `Profile`
  pub asked : Option ReaderUnit
  pub asked_is : WhoIsAskedBefore offence.rule (open_block (position_of place.scope pieces)) asked
  pub on : next ≡ place_after place (length rows) (acts_of pieces) offence asked

-- One fault more: the rows up to it lead to a stretch, and it ends that.
pub record GoesOnAfter (Lead : List Event → List Event → StretchStart → Type 0) (rows : List Event)
    (ended : Ended) (running : List Event) (place : StretchStart) : Type 0 where
  pub front : List Event
  pub before : List Event
  pub from : StretchStart
  pub row : Event
  pub lead : Lead front before from
  pub parts : rows ≡ front ++ row ∷ running
  pub ends : EndsBy from before row ended place

-- From a place on rows lead over these faults, each with the stretch that it ended, to the rows of
-- a stretch that still runs, and that is where it begins. (Whether these rows can be is said where
-- this is used.)
abbrev pub LeadFrom : StretchStart → List Event → List Ended → List Event → StretchStart → Type 0
LeadFrom start rows [] running place = (rows ≡ running) × (place ≡ start)
LeadFrom start rows (ended ∷ earlier) running place =
    GoesOnAfter (λ front before from. LeadFrom start front earlier before from) rows ended running
    place

-- A survey of the rows of a recording with this scope: its faults, each with the stretch that it
-- ended, and the stretch that runs at the end.
pub record IsSurvey (scope : Scope) (rows : List Event) (ended : List Ended) (last : Stretch)
    : Type 0 where
  pub running : List Event
  pub place : StretchStart
  pub lead : LeadFrom (first_place scope) rows ended running place
  pub is : IsStretch place running last

-- the first fault of a survey, which stands last
abbrev pub first_fault : List Ended → Option Offence
first_fault [] = None
first_fault (ended ∷ []) = Some ended.fault
first_fault (ended ∷ more ∷ earlier) = first_fault (more ∷ earlier)

-- Rows that lead over faults, later ones and earlier ones, are cut after the last of the earlier
-- ones: the first rows lead over these, and the others from there over the later ones.
pub record IsCutAt (start : StretchStart) (rows : List Event) (later earlier : List Ended)
    (running : List Event) (place : StretchStart) : Type 0 where
  pub front : List Event
  pub rest : List Event
  pub parts : rows ≡ front ++ rest
  pub cut : StretchStart
  pub to : LeadFrom start front earlier [] cut
  pub onward : LeadFrom cut rest later running place
