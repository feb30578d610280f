-- The lines of a survey have no float.
use Rattle.mdb_survey.proofs.Words.{refl, ◌≡◌, ◌==◌, Bool, true, false, if◌then◌else◌, has_float, Stretch, Summary, device_member, device_total, devices_total, some_total, stretch_data, summary_data, total_data}
use Rattle.serde_json.specs.Data.{Data, null}
use Rattle.mdb_msgs.specs.declared.command.Device.{Device}
use Rattle.mdb_bus.specs.declared.scope.Profile.{Profile}
use Rattle.mdb_bus.specs.declared.scope.Profile.TheVariants.{Base, Extended}
use Rattle.mdb_follow.specs.declared.report.TheConstants.Report.{DEVICES}
use Rattle.mdb_json.proofs.Floats.{of_accounts, of_untimely, of_yes}
use Rattle.mdb_json.proofs.Objects.{without_float}

pub of_stretch : (stretch : Stretch) → has_float (stretch_data stretch) ≡ false
of_stretch stretch = rw (of_yes stretch.scope stretch.report) refl

of_device : (summary : Summary) (which : Device) → has_float (device_total summary which) ≡ false
of_device summary which = rw (of_accounts summary.totals.accounts which) refl

of_devices : (summary : Summary) → has_float (devices_total summary) ≡ false
of_devices summary = without_float (device_member summary) DEVICES (of_device summary)

or_null : (is_null : Bool) (given : Data) → has_float given ≡ false
    → has_float (if is_null then null else given) ≡ false
or_null true given none = refl
or_null false given none = none

of_some_total : (profile : Profile) (summary : Summary)
    → has_float (some_total profile summary) ≡ false
of_some_total Base summary = rw (of_devices summary) refl
of_some_total Extended summary =
    rw (of_devices summary) (rw (of_untimely summary.totals.untimely) refl)

of_total : (profile : Profile) (summary : Summary)
    → has_float (total_data profile summary) ≡ false
of_total profile summary =
    or_null (summary.totals.rows == 0) (some_total profile summary) (of_some_total profile summary)

pub of_summary : (profile : Profile) (summary : Summary)
    → has_float (summary_data profile summary) ≡ false
of_summary profile summary = rw (of_total profile summary) refl
