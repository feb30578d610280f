-- Rows have one report, and a row has one offence.
use Rattle.mdb_follow.proofs.Words.{ap, arith, sym, subst, ◌∙◌, ◌≡◌, ◌⊎◌, inl, inr, ℕ, ℤ, ◌≤ℤ◌, List, [], ◌∷◌, ◌++◌, append_assoc, append-nil, length, map, Option, Some, None, ints, Event, Act, Blame, Rule, ArePieces, Piece, Whole, acts_of, HasActList, with_act, events_of, IsLinkFault, RowBreaks, situation_of, Beginning, AccountName, ALL, Account, Offence, Range, Report, IsRange, IsAccount, AccountSums, IsOffence, LinkFault, AreAccounts, IsReport, report_of, AllSums, IsReached, Run, machine_of, rule_of, Scope, account_of, sums_of, BreaksLink, BreaksMachine, act_fault}
use Rattle.mdb_follow.proofs.Accounts.{listed}
use Rattle.mdb_follow.proofs.Following.{OneActList}
use Rattle.mdb_follow.proofs.Machines.{is_machine_of, whose, whose_none}
use Rattle.mdb_follow.proofs.Reaching.{GoOnRowByRow, SomeArrive, before_last, some_of}

-- two ends that lie within each other are one
pub one-end : (a b : ℤ) → a ≤ℤ b → b ≤ℤ a → a ≡ b
one-end a b low high = omega (arith, ints, low, high)

module _ {S : Type 0} (Kind : S → Type 0) where
  -- sums of a kind have one range
  one-range : (value : S → ℤ) (a b : Range) → IsRange Kind value a → IsRange Kind value b → a ≡ b
  one-range value a b p q =
      let least = one-end a.least b.least (rw q.least.2 at (p.low q.least.0 q.least.1))
      (rw p.least.2 at (q.low p.least.0 p.least.1)) in
      let greatest = one-end a.greatest b.greatest
      (rw p.greatest.2 at (q.high p.greatest.0 p.greatest.1))
      (rw q.greatest.2 at (p.high q.greatest.0 q.greatest.1)) in
      λ i. record { least = least i; greatest = greatest i }

  pub one-account : (account : S → AccountSums) (a b : Account) → IsAccount Kind account a
      → IsAccount Kind account b → a ≡ b
  one-account account a b p q =
      let device = one-range _ a.device b.device p.device q.device in
      let controller = one-range _ a.controller b.controller p.controller q.controller in
      let difference = one-range _ a.difference b.difference p.difference q.difference in
      λ i. record { device = device i; controller = controller i; difference = difference i }

-- two functions that agree make one list of another
pub map-alike : {X Y : Type 0} (f g : X → Y) → ((x : X) → f x ≡ g x) → (xs : List X)
    → map f xs ≡ map g xs
map-alike f g alike xs = λ i. map (λ x. alike x i) xs

-- and so have all accounts
pub one-list : (Kind : AllSums → Type 0) (a b : AccountName → Account) → AreAccounts Kind a
    → AreAccounts Kind b → map a ALL ≡ map b ALL
one-list Kind a b p q =
    map-alike a b (λ name. one-account Kind (sums_of name) _ _ (p name) (q name)) ALL

-- what a report has of an account
pub named : (scope : Scope) (rows : ℕ) (pieces : List Piece) (accounts : AccountName → Account)
    (account : AccountName)
    → account_of account (report_of scope rows pieces accounts) ≡ accounts account
named scope rows pieces accounts account = listed accounts account

pub named-account : (scope : Scope) (rows : List Event) (report : Report)
    → IsReport scope rows report
    → (account : AccountName)
    → IsAccount (Run scope rows) (sums_of account) (account_of account report)
named-account scope rows report is account =
    subst (IsAccount (Run scope rows) (sums_of account))
    (sym (ap (account_of account) is.telling
    ∙ named scope (length rows) is.pieces is.accounts account)) (is.of_runs account)

abbrev pub with_accounts : Report → List Account → Report
with_accounts report accounts = record report { accounts = accounts }

pub one-report : (scope : Scope) → OneActList scope → (rows : List Event) (a b : Report)
    → IsReport scope rows a → IsReport scope rows b → a ≡ b
one-report scope one rows a b p q =
    let pieces = one rows p.pieces q.pieces p.act_list q.act_list in
    let accounts = one-list (Run scope rows) p.accounts q.accounts p.of_runs q.of_runs in
    p.telling ∙ ap (λ pieces. report_of scope (length rows) pieces p.accounts) pieces
    ∙ ap (with_accounts (report_of scope (length rows) q.pieces p.accounts)) accounts
    ∙ sym q.telling

-- what the laws of the bus say
pub record BusLaws (scope : Scope) : Type 0 where
  pub one : OneActList scope
  pub one_fault : (pieces : List Piece) (row : Event) (r s : Rule) (a b : Blame)
      → IsLinkFault scope pieces row r a → IsLinkFault scope pieces row s b → (r ≡ s) × (a ≡ b)
  pub ends : (pieces : List Piece) (row : Event) (broken : Rule) → ArePieces scope pieces
      → RowBreaks (situation_of scope pieces) row broken
      → HasActList scope (events_of pieces ++ row ∷ []) → ⊥
  pub goes : GoOnRowByRow scope

-- after acts of reached rows, and before an act of the next, each device has some way
cut : (begins : Beginning) (more : Option Act) (acts : List Act) (act : Act) (before : List Act)
    → with_act more acts ≡ act ∷ before → SomeArrive begins acts → SomeArrive begins before
cut begins None acts act before same some = before_last begins act before (rw same at some)
cut begins (Some last) acts act before same some =
    let rest : acts ≡ before = cc same in rw rest at some

-- A row after others.
module _ (scope : Scope) (laws : BusLaws scope) (events : List Event) (row : Event) where
  -- the act list up to a row that ends an act by which a machine has no step
  abbrev broken-list : {r : Rule} {a : Blame} → BreaksMachine scope events row r a → List Piece
  broken-list p = Whole p.act (p.begun ++ row ∷ []) ∷ p.earlier

  -- a row that breaks a rule of the link ends no act
  link-or-machine : {r s : Rule} {a b : Blame} → BreaksLink scope events row r a
      → BreaksMachine scope events row s b → ⊥
  link-or-machine p q =
      laws.ends p.pieces row p.fault.first p.act_list.in_order p.fault.rule.breaks
      (broken-list q, rw p.act_list.whole q.act_list)

  module _ (reached : IsReached scope events) where
    -- the rule of the device whose such an act is
    own-rule : {r : Rule} {a : Blame} (p : BreaksMachine scope events row r a)
        → rule_of (whose p.act) ≡ p.own
    own-rule p =
        let run = reached.1 in
        let from = laws.goes events row (broken-list p) p.act_list in
        let device = p.no_step.device in
        let way = cut scope.begins from.act (acts_of from.before) p.act (acts_of p.earlier)
        (sym from.acts) (rw (laws.one events run.pieces from.before run.act_list from.act_list) at
        (some_of scope events reached.0 run)) device in
        ap rule_of (whose_none device (machine_of scope.begins device)
        (is_machine_of scope.begins device) p.act (acts_of p.earlier) p.no_step.none way.state
        way.sums way.way) ∙ sym p.no_step.rule

    one-why : (r s : Rule) (a b : Blame)
        → BreaksLink scope events row r a ⊎ BreaksMachine scope events row r a
        → BreaksLink scope events row s b ⊎ BreaksMachine scope events row s b
        → (r ≡ s) × (a ≡ b)
    one-why r s a b (inl p) (inl q) = laws.one_fault p.pieces row r s a b p.fault
        (rw (laws.one events q.pieces p.pieces q.act_list p.act_list) at q.fault)
    one-why r s a b (inl p) (inr q) = absurd (link-or-machine p q)
    one-why r s a b (inr p) (inl q) = absurd (link-or-machine q p)
    one-why r s a b (inr p) (inr q) =
        let same : broken-list p ≡ broken-list q =
        laws.one (events ++ row ∷ []) _ _ p.act_list q.act_list in
        let acts : p.act ∷ acts_of p.earlier ≡ q.act ∷ acts_of q.earlier = ap acts_of same in
        let act : p.act ≡ q.act = cc acts in
        let own : p.own ≡ q.own =
        sym (own-rule p) ∙ ap (λ x. rule_of (whose x)) act ∙ own-rule q in
        let fault : act_fault scope (broken-list p) row p.act p.own
        ≡ act_fault scope (broken-list q) row q.act q.own =
        λ i. act_fault scope (same i) row (act i) (own i) in (
          p.counts ∙ ap (λ (f : LinkFault). f.rule) fault ∙ sym q.counts,
          p.blame ∙ ap (λ (f : LinkFault). f.blame) fault ∙ sym q.blame,
        )

  pub one-offence : (a b : Offence) → IsOffence scope events row a → IsOffence scope events row b
      → a ≡ b
  one-offence a b p q =
      let why = one-why p.reached a.rule b.rule a.blame b.blame p.why q.why in
      let number = p.number ∙ sym q.number in
      λ i. record { row = number i; rule = why.0 i; blame = why.1 i }

-- any first rows of reached ones are reached
pub fronts : (scope : Scope)
    → ((rows : List Event) (row : Event) → IsReached scope (rows ++ row ∷ [])
    → IsReached scope rows)
    → (rows more : List Event) → IsReached scope (rows ++ more) → IsReached scope rows
fronts scope shorter rows [] reached = rw append-nil at reached
fronts scope shorter rows (row ∷ more) reached =
    shorter rows row (fronts scope shorter (rows ++ row ∷ []) more (rw append_assoc reached))
