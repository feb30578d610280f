-- What a report tells of a device is what the act list of its rows has of it.
use Rattle.mdb_follow.proofs.Words.{ap, refl, ◌∙◌, ◌≡◌, List, get_or, map, Event, Device, First, IsActList, Piece, acts_of, Beginning, Scope, Report, DEVICES, Silences, device_place, IsReport, device_report, device_report_of, device_facts_in, device_facts_of, asks_of, AllStandForAsks, silence_in}
use Rattle.mdb_msgs.specs.declared.command.Device.TheVariants.{Reader}
use Rattle.mdb_follow.specs.declared.report.DeviceFacts.{DeviceFacts}
use Rattle.mdb_follow.proofs.Following.{OneActList}
use Rattle.mdb_follow.proofs.OneAnswer.{map-alike}

-- a list with one entry for each device has that of a device in its place
pub listed : {T : Type 0} (of : Device → T) (none : T) (device : Device)
    → get_or (map of DEVICES) (device_place device) none ≡ of device
listed of none (Reader First) = refl
listed of none device = refl

-- what a report has of a device is that of any act list of its rows
pub device-told : (scope : Scope) → OneActList scope → (rows : List Event) (report : Report)
    (pieces : List Piece) → IsReport scope rows report → IsActList scope pieces rows
    → (device : Device)
    → device_report device report ≡ device_report_of scope.begins device pieces
device-told scope one rows report pieces is list device =
    ap (device_report device) is.telling
    ∙ listed (λ d. device_report_of scope.begins d is.pieces) _ device
    ∙ ap (device_report_of scope.begins device) (one rows is.pieces pieces is.act_list list)

-- what these pieces show of all, with what is counted of their asks, is what is reported
pub reports-are : (begins : Beginning) (pieces : List Piece) (facts : List DeviceFacts)
    (silences : Silences)
    → facts ≡ map (λ device. device_facts_of begins device (acts_of pieces)) DEVICES
    → AllStandForAsks silences (λ device. asks_of begins device pieces)
    → map (λ device. record {
      facts = device_facts_in facts device;
      asks = (silence_in silences device).counts;
    }) DEVICES ≡ map (λ device. device_report_of begins device pieces) DEVICES
reports-are begins pieces facts silences is stand = map-alike _ _ (λ device.
    let facts = ap (λ (all : List DeviceFacts). device_facts_in all device) is
    ∙ listed (λ d. device_facts_of begins d (acts_of pieces)) _ device in
    λ i. record { facts = facts i; asks = (stand device).counts i }) DEVICES
