-- The rows have one act list, so the report has of each device what this list tells.
use Rattle.mdb_follow.proofs.Words.{ap}
use Rattle.mdb_follow.proofs.Told.{device-told}
use Rattle.mdb_follow.proofs.laws.reports_name_the_decimals_and_silences_of_devices.Goals as goal

pub returns-clause-decimals : goal.returns-clause-decimals
returns-clause-decimals c scope rows report pieces is list device =
    ap (λ r. r.facts.decimals) (device-told scope (c.transcripts_have_one_act_list.ensures scope)
    rows report pieces is list device)

pub returns-clause-silences : goal.returns-clause-silences
returns-clause-silences c scope rows report pieces is list device =
    ap (λ r. r.asks.silences) (device-told scope (c.transcripts_have_one_act_list.ensures scope)
    rows report pieces is list device)

pub returns-clause-unvalued : goal.returns-clause-unvalued
returns-clause-unvalued c scope rows report pieces is list device =
    ap (λ r. r.facts.unvalued) (device-told scope (c.transcripts_have_one_act_list.ensures scope)
    rows report pieces is list device)
