-- A reader by the extended profile has one step at most from power-on, by an act under a choice.
use Rattle.mdb_run_search.proofs.Words.{arith, rules, ◌≡◌, ℕ, false, List, sym, ◌∙◌, ReaderCommand, ReaderUnit, Reply, Act, PowerOn, Profile, Choice, own}
use Rattle.mdb_bus.specs.declared.act.Act.TheVariants as acts
use Rattle.mdb_machine.specs.Known.{Is}
use Rattle.mdb_cashless.specs.declared.approvals.sale.Sale.{Sale}
use Rattle.mdb_cashless.specs.declared.approvals.state.ApprovalState.{ApprovalState}
use Rattle.mdb_cashless.specs.ExtendedFacts.{Facts, facts_of}
use Rattle.mdb_cashless.specs.ExtendedReader.{AskStep, IsSale, MayAsk, ReaderStep, ReplyStep, VmcAckStep, machine}
use Rattle.mdb_cashless.specs.shared.ApprovalWays as ways
use Rattle.mdb_cashless.specs.shared.ApprovalWays.{IsSure}
use Rattle.mdb_run_search.proofs.OneKind.{IsOneStep, own_one}

-- what a VEND SUCCESS is worth, where the sale is known and none was requested before
one_ask : (facts : Facts) (command : ReaderCommand) (one other : ℕ) → facts.earlier ≡ false
    → IsSure facts.sale → MayAsk facts command one → MayAsk facts command other → one ≡ other
one_ask facts command one other none sure p q = grind arith

-- the sale that counts for an ACK
one_sale : (known one other : Sale) → IsSure known → IsSale known one → IsSale known other
    → one ≡ other
one_sale known one other sure p q = grind arith

-- where all is known, there is one step
module _ (facts : Facts) (last : List ℕ) (sure : IsSure facts.sale)
    (none : facts.earlier ≡ false) (told : facts.approvals ≡ Is last) where
  replies : (command : ReaderCommand) (reply : Reply) (choice : Choice) (before : ApprovalState)
      → IsOneStep (ReplyStep facts command reply choice before)
  replies command reply choice before one other gains more p q =
      let its : p.last ≡ q.last = (rw told at p.may_be_last) ∙ sym (rw told at q.may_be_last) in
      let new : p.new ≡ q.new = cc in
      (cc, cc)

  vmc_acks : (reply : Reply) (choice : Choice) (before : ApprovalState)
      → IsOneStep (VmcAckStep facts reply choice before)
  vmc_acks reply choice before one other gains more p q =
      (p.2 ∙ sym q.2, (rw (one_sale facts.sale p.0 q.0 sure p.1 q.1) at p.3) ∙ sym q.3)

  asks : (command : ReaderCommand) (before : ApprovalState)
      → IsOneStep (AskStep facts command before)
  asks command before one other gains more p q =
      (p.2 ∙ sym q.2, (rw (one_ask facts command p.0 q.0 none sure p.1 q.1) at p.3) ∙ sym q.3)

  pub reader_one : (unit : ReaderUnit) (act : Act) (choice : Choice) (before : ApprovalState)
      → IsOneStep (ReaderStep unit facts act choice before)
  reader_one unit (acts.Ask command) choice before =
      own_one (own unit command) _ before (λ c. asks c before)
  reader_one unit (acts.Ack command) choice before =
      own_one (own unit command) _ before
      (λ c one other gains more p q. search rules)
  reader_one unit (acts.Reply command reply) choice before =
      own_one (own unit command) _ before (λ c. replies c reply choice before)
  reader_one unit (acts.VmcAck command reply) choice before =
      own_one (own unit command) _ before (λ c. vmc_acks reply choice before)
  reader_one unit act choice before = λ one other gains more p q. search rules

-- so it is after acts from power-on
pub approval_one : (profile : Profile) (unit : ReaderUnit) (so_far : List Act) (act : Act)
    (choice : Choice) (before : ApprovalState)
    → IsOneStep ((machine unit (PowerOn profile)).Step so_far act choice before)
approval_one profile unit so_far = reader_one (facts_of (PowerOn profile) unit so_far) last.0
    (ways.sure profile unit so_far) (ways.never_earlier profile unit so_far) last.1 unit
  where
    last : (last : List ℕ) × ((facts_of (PowerOn profile) unit so_far).approvals ≡ Is last)
    last = ways.last_told profile unit so_far
