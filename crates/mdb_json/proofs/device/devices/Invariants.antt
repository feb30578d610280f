-- Each round adds the member of one device, so they stand in the order of all devices.
use Rattle.mdb_json.proofs.Words.{device_member, map, members, members_view, take, ◌≡◌}
use Rattle.mdb_json.proofs.device.devices.Given as goal

-- the devices so far are members
abbrev pub invariant-loop-device : goal.invariant-loop-device
invariant-loop-device l =
    members_view l.devices.entries
    ≡ members (map (device_member l.scope l.report) (take l.device-index l.device-items))
