-- Reports, reached rows and offences where further devices are left out.
use Rattle.mdb_follow.proofs.Words.{ap, refl, sym, ◌∙◌, ◌≡◌, inl, inr, Bool, true, false, ◌&&◌, if◌then◌else◌, length, List, [], ◌∷◌, ◌++◌, Option, Some, None, All, Event, device_of, has, Device, First, Second, Act, Blame, LinkFault, Beginning, Scope, Piece, Whole, acts_of, LeavesOutMore, device_in, leave_out, blame_on, IsFollowed, IsLeftOut, IsBreak, own_acts, Account, AccountName, Offence, Report, reported_of, IsNotKnown, IsOffence, no_account, IsAccount, IsReport, decimals_of, device_report_of, report_of, device_facts_of, unvalued_of, AllSums, Run, no_sums, All-from_recursion, account_device, account_of, account_slot, sums_of, HasNothingLeftOut, HaveSameFollowed, sender_of}
use Rattle.mdb_msgs.specs.declared.command.Device.TheVariants as devices
use Rattle.mdb_bus.specs.declared.act.Act.TheVariants as acts
use Rattle.mdb_bus.specs.declared.fault.Blame.TheVariants as blame
use Rattle.mdb_bus.specs.declared.fault.Rule.TheVariants as rules
use Rattle.mdb_bus.specs.ExtendedHaste.{haste_of, is_excused}
use Rattle.mdb_bus.proofs.LeftOutActs.{breaks_alone, own_acts_stay}
use Rattle.mdb_bus.proofs.Named.{blamed_followed, named_followed}
use Rattle.mdb_follow.proofs.Following.{OneActList}
use Rattle.mdb_follow.proofs.LeavingOut.{ListsStay, run_leaves_nothing, run_with, run_without}
use Rattle.mdb_follow.proofs.OneAnswer.{named-account, one-account}
use Rattle.mdb_follow.proofs.OwnKnown.{no_decimals, no_unvalued, same_known, same_unvalued}
use Rattle.mdb_follow.proofs.OwnWays.{are_breaks}
use Rattle.mdb_follow.proofs.SilencesWithout.{counts_stay, nothing_counted}
use Rattle.mdb_follow.proofs.Told.{device-told}
use Rattle.mdb_follow.proofs.Ends.{account-moves, account-none}

-- breaks tell nothing of devices
pub record BreaksTellNothing : Type 0 where
  pub decimals : (begins : Beginning) (device : Device) (so_far : List Act)
      → All IsBreak (own_acts device so_far) → IsNotKnown begins device
      → decimals_of begins device so_far ≡ None
  pub unvalued : (begins : Beginning) (device : Device) (so_far : List Act)
      → All IsBreak (own_acts device so_far) → unvalued_of begins device so_far ≡ 0

-- what an account has come to in a run is of its device's sums there
of_device : (account : AccountName) (one other : AllSums)
    → one (account_device account) ≡ other (account_device account)
    → sums_of account one ≡ sums_of account other
of_device account one other same = ap (λ sums. sums (account_slot account)) same

-- what is told of a device is the same without further devices
told_alike : (begins : Beginning) (scope : Scope) (device : Device) → IsFollowed scope device
    → (pieces : List Piece) → device_report_of begins device (leave_out scope pieces)
    ≡ device_report_of begins device pieces
told_alike begins scope device followed pieces =
    let known = λ (pieces : List Piece). same_known begins device (acts_of (leave_out scope pieces))
    (acts_of pieces) (own_acts_stay scope device pieces followed) in
    let unvalued = same_unvalued begins device (acts_of (leave_out scope pieces))
    (acts_of pieces) (own_acts_stay scope device pieces followed) in
    let facts : device_facts_of begins device (acts_of (leave_out scope pieces))
    ≡ device_facts_of begins device (acts_of pieces) = cc (known pieces, unvalued) in
    let counts = counts_stay begins scope device followed
    (λ pieces. ap (reported_of device).limit (known pieces)) pieces in
    cc

-- A report, where transcripts have one act list, and act lists stay without further devices.
module _ (lists : (scope : Scope) → OneActList scope) (stay : ListsStay) (less more : Scope)
    (rows : List Event) (one : Report) (leaves : LeavesOutMore less more)
    (is : IsReport less rows one) where
  -- the accounts of a report are exact without further devices
  exact : (account : AccountName) → IsFollowed more (account_device account)
      → IsAccount (Run more rows) (sums_of account) (account_of account one)
  exact account followed = account-moves (Run less rows) (sums_of account) (Run more rows)
      (sums_of account)
      (λ sums run. let without = run_without stay less more rows sums leaves run in (
        without.0,
        without.2,
        of_device account sums without.0 (sym (without.1.followed _ followed)),
      ))
      (λ sums run. let with = run_with (λ less more rows pieces other leaves list its.
      lists more rows other (leave_out more pieces) its (stay less more rows pieces leaves list))
      less more rows sums leaves is.reached run in
      (with.0, with.2, of_device account sums with.0 (with.1.followed _ followed)))
      _ (named-account less rows one is account)

  -- a report has the same of the devices that are followed without further ones
  pub same_followed : (other : Report) → IsReport more rows other → HaveSameFollowed more one other
  same_followed other other_is = record {
    rows = ap (λ report. report.rows) is.telling
        ∙ sym (ap (λ report. report.rows) other_is.telling);
    accounts = λ account followed. one-account (Run more rows) (sums_of account) _ _
        (exact account followed) (named-account more rows other other_is account);
    devices = λ device followed.
        device-told less (lists less) rows one is.pieces is is.act_list device
        ∙ rw leaves.begins (sym (told_alike more.begins more device followed is.pieces))
        ∙ sym (device-told more (lists more) rows other (leave_out more is.pieces) other_is
        (stay less more rows is.pieces leaves is.act_list) device);
  }

  -- those of a report without further devices are, where the ones of these are nothing
  accounts_without : (account : AccountName) (left : Bool)
      → has more.without (account_device account) ≡ left
      → IsAccount (Run more rows) (sums_of account)
      (if left then no_account else account_of account one)
  accounts_without account true left =
      let some = run_without stay less more rows is.reached.0 leaves is.reached.1 in
      account-none (Run more rows) (sums_of account) some.0 some.2
      (λ sums run. of_device account sums (λ device. no_sums)
      (run_leaves_nothing more rows sums run _ left))
  accounts_without account false followed = exact account followed

  -- So there is a report without further devices.
  pub report_without : (other : Report) × IsReport more rows other × HaveSameFollowed more one other
  report_without =
      let accounts : AccountName → Account = λ account.
      if has more.without (account_device account) then no_account else account_of account one in
      let reached = run_without stay less more rows is.reached.0 leaves is.reached.1 in
      let other : Report = report_of more (length rows) (leave_out more is.pieces) accounts in
      let other_is : IsReport more rows other = record {
        reached = (reached.0, reached.2);
        pieces = leave_out more is.pieces;
        act_list = stay less more rows is.pieces leaves is.act_list;
        accounts = accounts;
        of_runs = λ account.
            accounts_without account (has more.without (account_device account)) refl;
        telling = refl;
      } in
      (other, other_is, same_followed other other_is)

-- a report has nothing of the devices that its scope leaves out
pub nothing_left : ((scope : Scope) → OneActList scope) → (scope : Scope) (rows : List Event)
    (report : Report) → IsReport scope rows report → HasNothingLeftOut scope report
nothing_left one scope rows report is =
    let alone : (device : Device) → IsLeftOut scope device
    → All IsBreak (own_acts device (acts_of is.pieces)) = λ device left.
    rw (breaks_alone scope device is.pieces is.act_list.in_order left)
    (All-from_recursion IsBreak _ (are_breaks (acts_of is.pieces))) in
    let told = device-told scope (one scope) rows report is.pieces is is.act_list in
    record {
      accounts = λ account left. one-account (Run scope rows) (sums_of account) _ _
          (named-account scope rows report is account)
          (account-none (Run scope rows) (sums_of account) is.reached.0 is.reached.1
          (λ sums run. of_device account sums (λ device. no_sums)
          (run_leaves_nothing scope rows sums run _ left)));
      decimals = λ device left none. ap (λ r. r.facts.decimals) (told device)
          ∙ no_decimals scope.begins device _ (alone device left) none;
      asks = λ device left. ap (λ r. r.asks) (told device)
          ∙ nothing_counted scope.begins scope (named_followed scope) device left is.pieces
          is.act_list.in_order;
      unvalued = λ device left. ap (λ r. r.facts.unvalued) (told device)
          ∙ no_unvalued scope.begins device _ (alone device left);
    }

-- the device that a blame is on
blamed_device : Blame → Option Device
blamed_device blame.Changer = Some devices.Changer
blamed_device blame.Bill = Some devices.Bill
blamed_device blame.Cashless = Some (devices.Reader First)
blamed_device blame.Cashless2 = Some (devices.Reader Second)
blamed_device blamed = None

blame_is_on : (device : Device) → blamed_device (blame_on (Some device)) ≡ Some device
unfolding blamed_device
blame_is_on (devices.Reader First) = refl
blame_is_on device = refl

one_blamed : (one device : Device) → blame_on (Some one) ≡ blame_on (Some device)
    → Some one ≡ Some device
one_blamed one device is = sym (blame_is_on one) ∙ ap blamed_device is ∙ blame_is_on device

-- the controller is no device
nobody : (device : Device) → blame.Controller ≡ blame_on (Some device) → ⊥
unfolding blamed_device
nobody device is =
    let clash : None ≡ Some device = ap blamed_device is ∙ blame_is_on device in cc clash

-- a device that is blamed for an act is the one that the act names
pub blamed_in : (act : Act) (device : Device) → sender_of act ≡ blame_on (Some device)
    → device_in act ≡ Some device
blamed_in (acts.Ack command) device is = one_blamed (device_of command) device is
blamed_in (acts.Nak command) device is = one_blamed (device_of command) device is
blamed_in (acts.Reply command reply) device is = one_blamed (device_of command) device is
blamed_in (acts.Repeat command reply) device is = one_blamed (device_of command) device is
blamed_in other device is = absurd (nobody device is)

-- Where what counts in haste is blamed on a device, so was what it counts for.
pub not_early : (is : Bool) (fault : LinkFault) (device : Device)
    → (if is then record { rule = rules.Early; blame = blame.Controller } else fault).blame
    ≡ blame_on (Some device)
    → fault.blame ≡ blame_on (Some device)
not_early true fault device blamed = absurd (nobody device blamed)
not_early false fault device blamed = blamed

-- No offence is blamed on a device that is left out.
pub blames_followed : (scope : Scope) (rows : List Event) (row : Event) (offence : Offence)
    (device : Device) → IsOffence scope rows row offence
    → offence.blame ≡ blame_on (Some device) → IsFollowed scope device
blames_followed scope rows row offence device is blamed = elim is.why [
  | inl link ↦ blamed_followed scope link.pieces row offence.rule offence.blame device
      link.act_list.in_order link.fault blamed
  | inr machine ↦ named_followed scope machine.act (machine.begun ++ row ∷ []) machine.earlier
      device machine.act_list.in_order
      (blamed_in machine.act device
      (not_early (haste_of scope (Whole machine.act (machine.begun ++ row ∷ []) ∷ machine.earlier)
      && is_excused row machine.own)
      (record { rule = machine.own; blame = sender_of machine.act }) device
      (sym machine.blame ∙ blamed)))
]
