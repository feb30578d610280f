-- A row has one fault with given marks.
use Rattle.mdb_run_search.proofs.Words.{refl, sym, ap, subst, ◌∙◌, ◌≡◌, ◌⊎◌, inl, inr, ℕ, List, [], ◌∷◌, ◌++◌, Option, Event, Device, Act, Blame, Rule, Profile, Scope, profile_of, IsActList, Piece, Whole, acts_of, Choice, no_gains, Machine, IsMachineOf, Mark, Offence, ReplayFault, machine_of, BreaksLink, act_fault, rule_of, LinkFault, BreaksMarkedMachine, HasMarkedRun, HasNoMarkedStep, IsMarkFault, IsReplayFault, IsReplayOffence, MayStandOnNewest, HasNoStepFrom, is_machine_of, of_or_not, whose, whose_is, BusLaws}
use Rattle.mdb_run_search.specs.declared.replay.ReplayFault.TheVariants as faults

-- an act by which a machine has no step from some state is of its device alone
whose_from : {State : Type 0} (device : Device) (machine : Machine State)
    → IsMachineOf device machine → (act : Act) (before : List Act) (choice : Choice)
    (state : State) → HasNoStepFrom machine before act choice state → whose act ≡ device
whose_from device machine is act before choice state none =
    elim (of_or_not device act) [
      | inl own ↦ whose_is device act own (λ length same.
          let goes = is.breaks before length choice state in
          none goes.0 goes.1 (rw same goes.2))
      | inr apart ↦ absurd (none state no_gains
          ((is.elsewhere before act choice state state no_gains apart).1 (refl, refl)))
    ]

module _ (scope : Scope) (laws : BusLaws scope) (events : List Event) (marks : List (ℕ × Mark))
    (row : Event) (mark : Option Mark) where
  abbrev Link : Rule → Blame → Type 0
  Link = BreaksLink scope events row

  abbrev Machines : Rule → Blame → Type 0
  Machines = BreaksMarkedMachine scope events marks row mark

  -- so is one by which it has none where the run with these marks is
  whose_rule : {broken : Rule} {act : Act} {choice : Choice} {before : List Act}
      → HasNoMarkedStep scope events marks broken act choice before
      → HasMarkedRun scope events marks → rule_of (whose act) ≡ broken
  whose_rule {act = act} {choice} {before} stops reached =
      ap rule_of (whose_from stops.device (machine_of scope.begins stops.device)
      (is_machine_of scope.begins stops.device) act before choice
      (reached.1.run.states stops.device) (stops.none reached.0 reached.1))
      ∙ sym stops.rule

  -- the act list up to a row that ends an act by which a machine has no step
  abbrev broken_list : {r : Rule} {a : Blame} → Machines r a → List Piece
  broken_list p = Whole p.act (p.begun ++ row ∷ []) ∷ p.earlier

  -- a row that breaks a rule of the link has no act list
  unlisted : {r : Rule} {a : Blame} → Link r a → (pieces : List Piece)
      → IsActList scope pieces (events ++ row ∷ []) → ⊥
  unlisted p pieces list =
      laws.ends p.pieces row p.fault.first p.act_list.in_order p.fault.rule.breaks
      (pieces, rw p.act_list.whole list)

  -- a row breaks one rule, and one is to blame
  one-why : HasMarkedRun scope events marks → (r s : Rule) (a b : Blame)
      → Link r a ⊎ Machines r a → Link s b ⊎ Machines s b → (r ≡ s) × (a ≡ b)
  one-why reached r s a b (inl p) (inl q) = laws.one_fault p.pieces row r s a b p.fault
      (rw (laws.one events q.pieces p.pieces q.act_list p.act_list) at q.fault)
  one-why reached r s a b (inl p) (inr q) = absurd (unlisted p (broken_list q) q.act_list)
  one-why reached r s a b (inr p) (inl q) = absurd (unlisted q (broken_list p) p.act_list)
  one-why reached r s a b (inr p) (inr q) =
      let same : broken_list p ≡ broken_list q =
      laws.one (events ++ row ∷ []) (broken_list p) (broken_list q) p.act_list q.act_list in
      let acts : p.act ∷ acts_of p.earlier ≡ q.act ∷ acts_of q.earlier = ap acts_of same in
      let act : p.act ≡ q.act = cc acts in
      let own : p.own ≡ q.own = sym (whose_rule p.no_step reached)
      ∙ (ap (λ x. rule_of (whose x)) act ∙ whose_rule q.no_step reached) in
      let fault : act_fault scope (broken_list p) row p.act p.own
      ≡ act_fault scope (broken_list q) row q.act q.own =
      λ i. act_fault scope (same i) row (act i) (own i) in (
        p.counts ∙ (ap (λ (f : LinkFault). f.rule) fault ∙ sym q.counts),
        p.blame ∙ (ap (λ (f : LinkFault). f.blame) fault ∙ sym q.blame),
      )

  one-offence : (a b : Offence) → IsReplayOffence scope events marks row mark a
      → IsReplayOffence scope events marks row mark b → a ≡ b
  one-offence a b p q =
      let why = one-why p.reached a.rule b.rule a.blame b.blame p.why q.why in
      let number : a.row ≡ b.row = p.number ∙ sym q.number in
      λ i. record { row = number i; rule = why.0 i; blame = why.1 i }

  -- no row is an offence and has a mark that may not stand there
  one-kind : {r : Rule} {a : Blame} {number : ℕ} → Link r a ⊎ Machines r a
      → IsMarkFault scope events marks row mark number → ⊥
  one-kind (inl p) q = unlisted p q.pieces q.act_list
  one-kind (inr p) q =
      let profile : Profile = profile_of scope.begins in
      let may : MayStandOnNewest profile q.standing (broken_list p) = rw q.is at p.may in
      q.cannot (subst (MayStandOnNewest profile q.standing)
      (laws.one (events ++ row ∷ []) (broken_list p) q.pieces p.act_list q.act_list) may)

  -- a row has one fault
  pub one-fault : (a b : ReplayFault) → IsReplayFault scope events marks row mark a
      → IsReplayFault scope events marks row mark b → a ≡ b
  one-fault (faults.Offence a) (faults.Offence b) p q = ap faults.Offence (one-offence a b p q)
  one-fault (faults.Offence a) (faults.Mark n) p q = absurd (one-kind p.why q)
  one-fault (faults.Mark n) (faults.Offence b) p q = absurd (one-kind q.why p)
  one-fault (faults.Mark n) (faults.Mark m) p q = ap faults.Mark (p.at ∙ sym q.at)
