-- The devices so far are members.
use Rattle.mdb_survey.proofs.Words.{◌≡◌, map, take, device_member}
use Rattle.serde_json.specs.View.{members_view}
use Rattle.mdb_json.specs.Reports.{members}
use Rattle.mdb_survey.proofs.json_text.devices_value.Given as goal

abbrev pub invariant-loop-device : goal.invariant-loop-device
invariant-loop-device l =
    members_view l.devices.entries
    ≡ members (map (device_member l.summary) (take l.device-index l.device-items))
