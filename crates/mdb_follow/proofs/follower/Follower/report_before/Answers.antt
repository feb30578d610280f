-- The report on the rows that were accepted is exact, and within their limit.
use Rattle.mdb_follow.proofs.Words.{account_by, Run, ap, arith, ◌∙◌, ◌≡◌, ◌*◌, ◌^◌, ℕ, Device, acts_of, cell_in, device_report, device_facts_in, silence_in}
use Rattle.mdb_follow.specs.declared.report.DeviceReport.{DeviceReport}
use Rattle.mdb_follow.specs.Follower.{scope_of}
use Rattle.mdb_follow.proofs.Following.{accepted, accepted-reached, accounts-of-cells, accounts-within, cell-of-runs, device-is, few-times, some-ways}
use Rattle.mdb_follow.proofs.Kept.{at-most-weaker}
use Rattle.mdb_follow.proofs.Told.{listed}
use Rattle.mdb_follow.proofs.follower.Follower.report_before.Goals as goal

pub returns-clause-before : goal.returns-clause-before
returns-clause-before c events has =
    let follower = c.args.self.now in
    let scope = scope_of follower in
    let acts = acts_of has.pieces in
    let cells = cell_in c.cells-cells.result in
    record {
      reached = accepted-reached follower events has;
      pieces = has.pieces;
      act_list = has.act_list;
      accounts = account_by cells;
      of_runs = accounts-of-cells (Run scope events) cells (λ device.
          cell-of-runs (Run scope events) _ _ (device-is scope
          (c.transcripts_have_one_act_list.ensures scope) events has.pieces has.act_list
          (some-ways follower events has) device) (cells device)
          (c.cells-cells.ensures.exact scope.begins acts has.sides device));
      telling = rw has.rows at (c.of.ensures.telling scope has.pieces
          (c.facts-facts.ensures.facts scope.begins acts has.sides) has.silences has.untimely);
    }

pub returns-clause-going : goal.returns-clause-going
returns-clause-going c events on =
    returns-clause-before c events (accepted c.args.self.now events on)

pub returns-clause-within : goal.returns-clause-within
returns-clause-within c =
    let limit : ℕ = c.args.self.now.rows * 2 ^ 32 in
    let within = c.args.self.now.within in
    let of : Device → DeviceReport = λ device. record {
      facts = device_facts_in c.facts-facts.result device;
      asks = (silence_in c.args.self.now.silences device).counts;
    } in
    let has : (device : Device) → device_report device c.of.result ≡ of device = λ device.
    ap (device_report device) c.of.ensures.has ∙ listed of _ device in
    record {
      accounts = accounts-within limit (cell_in c.cells-cells.result) c.of.result.accounts
          (ap (λ report. report.accounts) c.of.ensures.has)
          (λ device. c.cells-cells.ensures.within limit device (within device));
      asks = λ device. rw (ap (λ r. r.asks) (has device))
          (at-most-weaker (silence_in c.args.self.now.silences device).counts
          c.args.self.now.rows limit (omega arith) (c.args.self.now.few_silences device));
      untimely = few-times (ap (λ report. report.untimely) c.of.ensures.has)
          (c.args.self.now.rows) limit (omega arith) c.args.self.now.few_untimely;
      unvalued = λ device.
          let is = ap (λ r. r.facts.unvalued) (has device) in
          let kept = c.facts-facts.ensures.kept device in
          let few = (within device).count in
          omega (arith, is, kept, few);
    }
