-- Where it is of no matter what is chosen of an act of a reader.
use Rattle.mdb_cashless.proofs.Words.{◌≡◌, false, Command, ReaderCommand, ReaderUnit, Reply, Act, Choice, Plain, Lost, Restart, Gains, CanStand, MayBeRead, kept_of, free_acked, ReaderState, parts_of, own, view_taken, AckStep, ReaderStep, ReplyStep, VmcAckStep, Facts, own_as}
use Rattle.mdb_cashless.proofs.Sales.{own_is}

module _ (unit : ReaderUnit) (facts : Facts) (before after : ReaderState) (gains : Gains) where
  -- a step by an act leads nowhere else under a choice than the plain one
  abbrev Unheeded : Act → Choice → Type 0
  Unheeded act choice = ReaderStep unit facts act choice before after gains
      → ReaderStep unit facts act Plain before after gains

  -- an ACK whose hearing leaves the view
  ack_still : (command : ReaderCommand) (choice : Choice)
      → view_taken command before.view ≡ before.view
      → AckStep facts command choice before after gains
      → AckStep facts command Plain before after gains
  ack_still command Lost still step =
      record { poll = step.poll; to = rw still step.to; gained = step.gained }
  ack_still command choice still step =
      record { poll = step.poll; to = step.to; gained = step.gained }

  pub untaken : (of : ReaderUnit) (command : ReaderCommand) (choice : Choice)
      → view_taken command before.view ≡ before.view
      → Unheeded (Act.Ack (Command.Reader of command)) choice
  untaken of command choice still = own_as (own unit (Command.Reader of command))
      (λ its. AckStep facts its choice) (λ its. AckStep facts its Plain) before after gains
      (λ its found.
      let meant = own_is unit (Command.Reader of command) its found in
      let same : command ≡ its = cc in
      ack_still its choice (rw same at still))

  -- a reply that tells of no restart
  pub unread : (command : Command) (reply : Reply) (choice : Choice)
      → (MayBeRead Restart (parts_of reply) → ⊥) → CanStand (Act.Reply command reply) choice
      → Unheeded (Act.Reply command reply) choice
  unread command reply Plain never stands = λ step. step
  unread command reply Lost never stands = absurd stands
  unread command reply choice never stands = own_as (own unit command)
      (λ its. ReplyStep facts its reply choice) (λ its. ReplyStep facts its reply Plain) before
      after gains (λ its found step. absurd (search (never, step.has_news.read)))

  -- the controller's ACK while nothing is held
  pub unheard : (command : Command) (reply : Reply) (choice : Choice) → before.holds ≡ false
      → Unheeded (Act.VmcAck command reply) choice
  unheard command reply choice free = own_as (own unit command)
      (λ its. VmcAckStep facts its reply choice) (λ its. VmcAckStep facts its reply Plain) before
      after gains (λ its found step. record {
        to = rw (free_acked Plain (kept_of (parts_of reply)) free)
            (rw (free_acked choice (kept_of (parts_of reply)) free) at step.to);
        gained = step.gained;
      })
