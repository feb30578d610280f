-- A replay blames no device that is left out, and tells nothing of one.
use Rattle.mdb_run_search.proofs.Words.{ap, sym, ◌∙◌, ◌≡◌, inl, inr, ℕ, List, [], ◌∷◌, ◌++◌, ◌&&◌, Option, Some, All, All-from_recursion, Event, Device, Blame, Rule, Scope, ArePieces, Piece, Whole, acts_of, haste_of, is_excused, sender_of, acts_with, breaks_among, IsLeftOut, IsLinkFault, blame_on, IsFollowed, IsBreak, own_acts, Offence, Report, account_device, account_slot, sums_of, HasNothingLeftOut, device_report, device_report_of, AllSums, Run, Sums, no_sums, are_breaks, BreaksTellNothing, blamed_in, not_early, NamesFollowed, nothing_counted, listed, Mark, MarkedRun, IsReplayOffence, IsReplayReport}
use Rattle.mdb_follow.proofs.Ends.{account-none}
use Rattle.mdb_follow.proofs.OneAnswer.{one-account}
use Rattle.mdb_run_search.proofs.ReplayReports.{named_in_replay}

-- no offence of a replay is blamed on a device that is left out
pub offends_followed : ((scope : Scope) → NamesFollowed scope)
    → ((scope : Scope) (pieces : List Piece) (row : Event) (broken : Rule) (blamed : Blame)
    (device : Device) → ArePieces scope pieces → IsLinkFault scope pieces row broken blamed
    → blamed ≡ blame_on (Some device) → IsFollowed scope device)
    → (scope : Scope) (rows : List Event) (marks : List (ℕ × Mark)) (row : Event)
    (mark : Option Mark) (offence : Offence) (device : Device)
    → IsReplayOffence scope rows marks row mark offence
    → offence.blame ≡ blame_on (Some device) → IsFollowed scope device
offends_followed names faults scope rows marks row mark offence device is blamed = elim is.why [
  | inl link ↦ faults scope link.pieces row offence.rule offence.blame device
      link.act_list.in_order link.fault blamed
  | inr machine ↦ names scope machine.act (machine.begun ++ row ∷ []) machine.earlier device
      machine.act_list.in_order
      (blamed_in machine.act device
      (not_early (haste_of scope (Whole machine.act (machine.begun ++ row ∷ []) ∷ machine.earlier)
      && is_excused row machine.own)
      (record { rule = machine.own; blame = sender_of machine.act }) device
      (sym machine.blame ∙ blamed)))
]

-- what the laws say that this needs
pub record LeftOutLaws : Type 0 where
  pub names : (scope : Scope) → NamesFollowed scope
  pub alone : (scope : Scope) (pieces : List Piece) (device : Device) → ArePieces scope pieces
      → IsLeftOut scope device → acts_with device (acts_of pieces) ≡ breaks_among (acts_of pieces)
  pub adds : (scope : Scope) (rows : List Event) (sums : AllSums) → Run scope rows sums
      → (device : Device) → IsLeftOut scope device → sums device ≡ no_sums
  pub facts : BreaksTellNothing

-- a report of a replay has nothing of the devices that its scope leaves out
pub nothing_in_replay : LeftOutLaws → (scope : Scope) (rows : List Event)
    (marks : List (ℕ × Mark)) (report : Report) → IsReplayReport scope rows marks report
    → HasNothingLeftOut scope report
nothing_in_replay laws scope rows marks report is =
    let alone : (device : Device) → IsLeftOut scope device
    → All IsBreak (own_acts device (acts_of is.pieces)) = λ device left.
    rw (laws.alone scope is.pieces device is.act_list.in_order left)
    (All-from_recursion IsBreak _ (are_breaks (acts_of is.pieces))) in
    let told : (device : Device)
    → device_report device report ≡ device_report_of scope.begins device is.pieces = λ device.
    ap (device_report device) is.telling
    ∙ listed (λ d. device_report_of scope.begins d is.pieces) _ device in
    record {
      accounts = λ account left. one-account (MarkedRun scope rows marks) (sums_of account) _ _
          (named_in_replay scope rows marks report is account)
          (account-none (MarkedRun scope rows marks) (sums_of account) is.sums is.reached
          (λ sums marked. ap (λ (s : Sums). s (account_slot account))
          (laws.adds scope rows sums marked.run (account_device account) left)));
      decimals = λ device left none. ap (λ r. r.facts.decimals) (told device)
          ∙ laws.facts.decimals scope.begins device _ (alone device left) none;
      asks = λ device left. ap (λ r. r.asks) (told device)
          ∙ nothing_counted scope.begins scope (laws.names scope) device left is.pieces
          is.act_list.in_order;
      unvalued = λ device left. ap (λ r. r.facts.unvalued) (told device)
          ∙ laws.facts.unvalued scope.begins device _ (alone device left);
    }
