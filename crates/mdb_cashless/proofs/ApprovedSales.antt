-- By the extended profile a sale may be told exactly where it is approved: what an act makes of the
-- sale under way, and so what the acts make of it.
use Rattle.mdb_cashless.proofs.Words.{arith, zero, suc, ◌≡◌, ◌≢◌, ◌⊎◌, ◌∙◌, ◌∷◌, ◌++◌, ◌||◌, ◌&&◌, ◌==◌, not, ℕ, Bool, true, false, List, [], Some, None, Option, All, refl, ap, sym, subst, inl, inr, list_any, option_map_or, and_parts, eq-eqb, eqb-true, or_cases, common_steps, eqb_tells, All-head, All-tail, Command, ReaderCommand, ReaderUnit, Reply, ReaderMsg, Act, Beginning, PowerOn, Joined, is_approval, Sale, Unawaited, Awaited, Transaction, Cancel, Success, facts_after, sale_all_heard, IsEarlier, MaySell, messages_of, is_same, own, known_or_earlier, Any-from_list_any, Sold, sale_asked, sale_heard, own_messages, own_transaction, LeavesSale, MayBeRequestedBefore, is_request, is_sale_known, Contains}
use Rattle.mdb_cashless.specs.declared.approvals.sale.Sale.TheVariants.{Unknown, Asked, Approved}
use Rattle.mdb_cashless.specs.ExtendedFacts.{Facts, facts_of}
use Rattle.mdb_cashless.specs.ExtendedSales.{AcksAreOfReplies, IsApproved, SalesAreApproved, asks_request, hears_approval, is_open, leaves_asked, leaves_sale}
use Rattle.mdb_cashless.specs.Sales as base
use Rattle.mdb_cashless.proofs.Sales.{IsAgain, approved_by, own_is, own_of_unit, requests, same_is, still_approved, still_requested, still_unrequested}

-- whether an approval makes a sale approved, and whether VEND SUCCESS of an item may be told of it
abbrev awaits : Sale → Bool
awaits Awaited = true
awaits Asked = true
awaits sale = false

abbrev is_for : ℕ → Sale → Bool
is_for item (Approved amount) = true
is_for item (Sold last) = item == last
is_for item sale = false

-- whether an act is VEND SUCCESS of an item
abbrev sells_by : ℕ → Option ReaderCommand → Bool
sells_by item command = option_map_or (is_same (Success item)) (own_transaction command) false

abbrev sells : ReaderUnit → ℕ → Act → Bool
sells unit item (Act.Ask command) = sells_by item (own unit command)
sells unit item act = false

-- what messages make of a sale that the controller acknowledges, with a 05 among them or without
abbrev HeardAs : Bool → Sale → Sale → Type 0
HeardAs approval before after = (awaits after ≡ (not approval && awaits before))
    × ((item : ℕ) → is_for item after ≡ ((approval && awaits before) || is_for item before))

heard_one : (m : ReaderMsg) (sale : Sale) → HeardAs (is_approval m) sale (sale_heard m sale)
heard_one ReaderMsg.JustReset Awaited = (refl, λ item. refl)
heard_one ReaderMsg.VendDenied Awaited = (refl, λ item. refl)
heard_one (ReaderMsg.VendApproved amount) Awaited = (refl, λ item. refl)
heard_one m sale = (refl, λ item. refl)

heard_all : (told : List ReaderMsg) (sale : Sale)
    → HeardAs (list_any is_approval told) sale (sale_all_heard told sale)
heard_all [] sale = (refl, λ item. refl)
heard_all (m ∷ told) sale =
    let one = heard_one m sale in
    let rest = heard_all told (sale_heard m sale) in (
      grind (arith, common_steps, one.0, rest.0),
      λ item. grind (arith, common_steps, one.0, one.1 item, rest.1 item),
    )

-- what a command makes of it that the controller asks
asked : (command : Option ReaderCommand) (sale : Sale)
    → (awaits (sale_asked command sale)
    ≡ (is_request (own_transaction command) || (leaves_asked Cancel command && awaits sale)))
    × ((item : ℕ) → is_for item (sale_asked command sale)
    ≡ (leaves_asked (Success item) command && (sells_by item command || is_for item sale)))
asked (Some ReaderCommand.VendCancel) Awaited = (refl, λ item. refl)
asked (Some (ReaderCommand.VendSuccess last)) sale = (refl, λ item. grind (arith, common_steps))
asked command sale = (refl, λ item. refl)

module _ (unit : ReaderUnit) where
  -- what an act makes of the sale under way
  abbrev opens : Act → Bool → Bool
  opens act before = asks_request unit act
      || (leaves_sale unit Cancel act && (not (hears_approval unit act) && before))

  after_act : (act : Act) (facts : Facts) → let after = facts_after unit act facts in
      (awaits after.sale ≡ opens act (awaits facts.sale))
      × ((item : ℕ) → is_for item after.sale ≡ ((hears_approval unit act && awaits facts.sale)
      || (leaves_sale unit (Success item) act && (sells unit item act || is_for item facts.sale))))
      × (after.earlier ≡ (not (asks_request unit act) && facts.earlier))
  after_act (Act.Ask command) facts =
      let is = asked (own unit command) facts.sale in (is.0, is.1, refl)
  after_act (Act.VmcAck command reply) facts =
      let is = heard_all (own_messages unit command (messages_of reply)) facts.sale in
      (is.0, is.1, refl)
  after_act (Act.Break length) facts = (refl, λ item. refl, refl)
  after_act act facts = (refl, λ item. refl, refl)

  -- the acts that are VEND SUCCESS of an item, and VEND REQUEST
  sells_is : (item : ℕ) (act : Act) → sells unit item act ≡ true
      → act ≡ Act.Ask (Command.Reader unit (ReaderCommand.VendSuccess item))
  sells_is item (Act.Ask command) is =
      ap Act.Ask (own_is unit command (ReaderCommand.VendSuccess item) (by (own unit command) is))
    where
      by : (found : Option ReaderCommand) → sells_by item found ≡ true
          → found ≡ Some (ReaderCommand.VendSuccess item)
      by (Some (ReaderCommand.VendSuccess last)) is =
          ap (λ i. Some (ReaderCommand.VendSuccess i)) (sym (eqb-true item last is))
      by found is = absurd cc
  sells_is item act is = absurd cc

  requests_is : (act : Act) → asks_request unit act ≡ true → (price : ℕ) × (item : ℕ)
      × (act ≡ Act.Ask (Command.Reader unit (ReaderCommand.VendRequest price item)))
  requests_is (Act.Ask command) is = by (own unit command) refl is
    where
      by : (found : Option ReaderCommand) → own unit command ≡ found
          → is_request (own_transaction found) ≡ true → (price : ℕ) × (item : ℕ)
          × (Act.Ask command ≡ Act.Ask (Command.Reader unit (ReaderCommand.VendRequest price item)))
      by (Some (ReaderCommand.VendRequest price item)) found is =
          (price, item, ap Act.Ask (own_is unit command _ found))
      by found same is = absurd cc
  requests_is act is = absurd cc

  -- an act that leaves a sale that is approved asks no VEND REQUEST
  no_request : (item : ℕ) (act : Act) → leaves_sale unit (Success item) act ≡ true
      → asks_request unit act ≡ false
  no_request item (Act.Ask command) leaves = by (own unit command) leaves
    where
      by : (found : Option ReaderCommand) → leaves_asked (Success item) found ≡ true
          → is_request (own_transaction found) ≡ false
      by (Some (ReaderCommand.VendRequest price number)) leaves = absurd cc
      by found leaves = refl
  no_request item act leaves = refl

  -- whether a sale may have been requested before the recording
  to_earlier : (begins : Beginning) (so_far : List Act) → MayBeRequestedBefore begins unit so_far
      → (facts_of begins unit so_far).earlier ≡ true
  to_earlier (PowerOn profile) so_far may = absurd may
  to_earlier (Joined setups profile) [] may = refl
  to_earlier (Joined setups profile) (act ∷ so_far) may =
      let was = to_earlier (Joined setups profile) so_far
      (λ price item among. may price item (suc among.0, omega (arith, among.1), among.2)) in
      (after_act act (facts_of (Joined setups profile) unit so_far)).2
      ∙ rw was (none (asks_request unit act) (λ asks.
      let request = requests_is act asks in
      may request.0 request.1 (zero, omega arith, request.2)))
    where
      none : (asks : Bool) → (asks ≡ true → ⊥) → (not asks && true) ≡ true
      none true never = absurd (never refl)
      none false never = refl

  from_earlier : (begins : Beginning) (so_far : List Act)
      → (facts_of begins unit so_far).earlier ≡ true → MayBeRequestedBefore begins unit so_far
  from_earlier (PowerOn profile) [] is = absurd cc
  from_earlier (PowerOn profile) (act ∷ so_far) is =
      let after = (after_act act (facts_of (PowerOn profile) unit so_far)).2 in
      from_earlier (PowerOn profile) so_far (and_parts _ _ (sym after ∙ is)).1
  from_earlier (Joined setups profile) [] is = λ price item among. omega (arith, among.1)
  from_earlier (Joined setups profile) (act ∷ so_far) is =
      let after = (after_act act (facts_of (Joined setups profile) unit so_far)).2 in
      let parts = and_parts _ _ (sym after ∙ is) in
      still_unrequested unit act so_far (λ price item same.
      let none : not (asks_request unit act) ≡ true = parts.0 in
      let asks : asks_request unit act ≡ true =
      rw same (rw (own_of_unit unit (ReaderCommand.VendRequest price item)) refl) in
      absurd cc) (from_earlier (Joined setups profile) so_far parts.1)

module _ (unit : ReaderUnit) (begins : Beginning) where
  abbrev facts : List Act → Facts
  facts so_far = facts_of begins unit so_far

  opened : (so_far : List Act) → awaits (facts so_far).sale ≡ is_open unit so_far
  opened [] = elim begins as (λ b. awaits (facts_of b unit []).sale ≡ false) [
    | PowerOn profile ↦ refl
    | Joined setups profile ↦ refl
  ]
  opened (act ∷ so_far) = (after_act unit act (facts so_far)).0
      ∙ ap (opens unit act) (opened so_far)

  approved_for : (item : ℕ) (so_far : List Act) → IsApproved unit item so_far
      → is_for item (facts so_far).sale ≡ true
  approved_for item [] is = absurd is
  approved_for item (act ∷ so_far) (inl is) =
      (after_act unit act (facts so_far)).1 item ∙ rw (is.0, opened so_far ∙ is.2) refl
  approved_for item (act ∷ so_far) (inr is) =
      (after_act unit act (facts so_far)).1 item
      ∙ rw (is.0, approved_for item so_far is.1) (grind (arith, common_steps))

  -- a sale is approved, or may have been
  abbrev May : ℕ → List Act → Type 0
  May item so_far = IsApproved unit item so_far ⊎ MayBeRequestedBefore begins unit so_far

  goes_on : (item : ℕ) (act : Act) (so_far : List Act)
      → leaves_sale unit (Success item) act ≡ true → May item so_far → May item (act ∷ so_far)
  goes_on item act so_far leaves (inl is) = inl (inr (leaves, is))
  goes_on item act so_far leaves (inr may) = inr (from_earlier unit begins (act ∷ so_far)
      ((after_act unit act (facts so_far)).2
      ∙ rw (no_request unit item act leaves, to_earlier unit begins so_far may) refl))

  for_approved : (item : ℕ) (so_far : List Act) → AcksAreOfReplies so_far
      → SalesAreApproved begins unit so_far → is_for item (facts so_far).sale ≡ true
      → May item so_far
  for_approved item [] acks sales is =
      absurd (elim begins as (λ b. is_for item (facts_of b unit []).sale ≡ true → ⊥) [
        | PowerOn profile ↦ λ never. cc
        | Joined setups profile ↦ λ never. cc
      ] is)
  for_approved item (act ∷ so_far) acks sales is =
      elim (or_cases _ _ (sym ((after_act unit act (facts so_far)).1 item) ∙ is)) [
        | inl heard ↦
            let parts = and_parts _ _ heard in
            inl (inl (parts.0, acks.0, sym (opened so_far) ∙ parts.1))
        | inr left ↦
            let parts = and_parts _ _ left in
            goes_on item act so_far parts.0 (elim (or_cases _ _ parts.1) [
              | inl sold ↦ sales [] so_far item
                  (ap (λ (a : Act). a ∷ so_far) (sells_is unit item act sold))
              | inr before ↦ for_approved item so_far acks.1 (λ later rest number order.
                  sales (act ∷ later) rest number (ap (λ (l : List Act). act ∷ l) order)) before
            ])
      ]

  -- where VEND SUCCESS may be asked, its sale is approved, or may have been requested before
  pub may_be_told : (so_far : List Act) (item worth : ℕ) → AcksAreOfReplies so_far
      → SalesAreApproved begins unit so_far
      → MaySell (facts so_far) item (facts so_far).sale worth → May item so_far
  may_be_told so_far item worth acks sales may =
      elim (by (facts so_far).sale may (known_or_earlier begins unit so_far)) [
        | inl is ↦ for_approved item so_far acks sales is
        | inr is ↦ inr (from_earlier unit begins so_far is)
      ]
    where
      by : (s : Sale) → MaySell (facts so_far) item s worth
          → (is_sale_known s || (facts so_far).earlier) ≡ true
          → (is_for item s ≡ true) ⊎ ((facts so_far).earlier ≡ true)
      by Unknown may known = inr known
      by Unawaited may known = inr known
      by (Approved amount) may known = inl refl
      by (Sold last) (inl same) known = inl (eq-eqb item last (sym same.0))
      by (Sold last) (inr other) known = inr other.1.0
      by s may known = inr may.0

  -- where it is, VEND SUCCESS may be asked
  pub is_told : (so_far : List Act) (item : ℕ) → May item so_far
      → (worth : ℕ) × MaySell (facts so_far) item (facts so_far).sale worth
  is_told so_far item (inl is) = by (facts so_far).sale (approved_for item so_far is)
    where
      by : (s : Sale) → is_for item s ≡ true → (worth : ℕ) × MaySell (facts so_far) item s worth
      by (Approved amount) is = (_, refl)
      by (Sold last) is = (0, inl (sym (eqb-true item last is), refl))
      by s is = absurd cc
  is_told so_far item (inr may) = by (facts so_far).sale
    where
      earlier : (worth : ℕ) × IsEarlier (facts so_far) worth
      earlier = (_, (to_earlier unit begins so_far may, refl))

      by : (s : Sale) → (worth : ℕ) × MaySell (facts so_far) item s worth
      by Unknown = (0, inl refl)
      by Unawaited = (0, inl refl)
      by (Approved amount) = (_, refl)
      by (Sold last) = elim (eqb_tells last item) [
        | inl same ↦ (0, inl (same.1, refl))
        | inr other ↦ (earlier.0, inr (other.1, earlier.1))
      ]
      by s = earlier

-- a sale that is approved so is one by the base profile's law
module _ (unit : ReaderUnit) where
  leaves : (may : Transaction) (May : Transaction → Type 0) (act : Act)
      → leaves_sale unit may act ≡ true
      → ((t : Transaction) → is_same may t ≡ true → May t) → LeavesSale unit May act
  leaves may May (Act.Ask command) is all = by (own unit command) is
    where
      by : (found : Option ReaderCommand) → leaves_asked may found ≡ true
          → (found ≢ Some ReaderCommand.Reset) × ((t : Transaction) → own_transaction found ≡ Some t
          → May t)
      by (Some ReaderCommand.Reset) is = absurd cc
      by (Some command) is = (
        λ same. absurd cc,
        λ t sent. all t (subst (λ o. option_map_or (is_same may) o true ≡ true) sent is),
      )
      by None is = (λ same. absurd cc, λ t sent. absurd cc)
  leaves may May (Act.Break length) is all = absurd cc
  leaves may May act is all = tt

  requested : (so_far : List Act) → is_open unit so_far ≡ true → base.IsRequested unit so_far
  requested [] is = absurd cc
  requested (act ∷ so_far) is = elim (or_cases _ _ is) [
    | inl asks ↦
        let request = requests_is unit act asks in
        rw request.2 (requests unit so_far request.0 request.1)
    | inr stays ↦
        let parts = and_parts _ _ stays in
        still_requested unit act so_far (requested so_far (and_parts _ _ parts.1).1)
        (leaves Cancel _ act parts.0 (λ t same. inr (sym (same_is Cancel t same))))
  ]

  replied : (command : Command) (reply : Reply) (again before : List Act)
      → All (IsAgain command reply) again
      → is_open unit (again ++ (Act.Reply command reply ∷ before)) ≡ is_open unit before
  replied command reply [] before all = refl
  replied command reply (act ∷ again) before all =
      let rest = replied command reply again before
      (All-tail (IsAgain command reply) act again all) in
      elim (All-head (IsAgain command reply) act again all) [
        | inl is ↦ rw is rest
        | inr is ↦ rw is rest
      ]

  approval_in : (told : List ReaderMsg) → list_any is_approval told ≡ true
      → (amount : ℕ) × Contains told (ReaderMsg.VendApproved amount)
  approval_in told some =
      let one = Any-from_list_any is_approval told some in
      let is = by one.1 one.4 in
      (is.0, subst (Contains told) is.1 (one.0, one.2, one.3))
    where
      by : (m : ReaderMsg) → is_approval m ≡ true → (amount : ℕ) × (m
          ≡ ReaderMsg.VendApproved amount)
      by (ReaderMsg.VendApproved amount) is = (amount, refl)
      by m is = absurd cc

  pub approved : (item : ℕ) (so_far : List Act) → IsApproved unit item so_far
      → base.IsApproved unit item so_far
  approved item [] is = absurd is
  approved item (Act.VmcAck command reply ∷ so_far) (inl is) = by (own unit command) refl is.0
    where
      by : (found : Option ReaderCommand) → own unit command ≡ found
          → list_any is_approval (elim found [ Some c ↦ messages_of reply | None ↦ [] ]) ≡ true
          → base.IsApproved unit item (Act.VmcAck command reply ∷ so_far)
      by None found hears = absurd cc
      by (Some its) found hears =
          let same = own_is unit command its found in
          let ends = rw same at is.1 in
          let approval = approval_in (messages_of reply) hears in
          rw same (approved_by unit its reply so_far ends approval.0 approval.1
          (requested ends.before (sym (replied (Command.Reader unit its) reply ends.again
          ends.before ends.repeats) ∙ rw ends.order at is.2)) item)
  approved item (act ∷ so_far) (inl is) = absurd cc
  approved item (act ∷ so_far) (inr is) =
      still_approved unit item act so_far (approved item so_far is.1)
      (leaves (Success item) _ act is.0 (λ t same. sym (same_is (Success item) t same)))
