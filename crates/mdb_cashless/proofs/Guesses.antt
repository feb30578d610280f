-- A reader's step depends on unknown facts only as far as a few guesses of them tell.
use Rattle.mdb_cashless.proofs.Words.{common_steps, ◌≡◌, ◌≢◌, ◌⊎◌, ◌<◌, ◌&&◌, ℕ, suc, Bool, true, false, List, [], ◌∷◌, length, Option, Some, None, refl, if◌then◌else◌, arith, ap, sym, ◌∙◌, inl, inr, take-append_seam, ReaderCommand, Reply, Choice, Restart, Gains, IsNew, held, kept_of, or_else, DeviceState, ReaderActivity, ReaderState, Transaction, Request, Success, View, all_told, parts_of, sent, is_again, is_same, transaction_of, again, asked, is_poll, sold_any, take_any, then_by, AllowsFacts, KnownFacts, own_transaction, length-append, nat_tests, Cancel, take, AckStep, AskStep, ReplyStep, before_messages, read, taken, Facts}
use Rattle.mdb_cashless.specs.declared.reader.messages.ReaderActivity.TheVariants.{VendApproved}
use Rattle.mdb_cashless.specs.ReaderDevice.{told}

-- a transaction command is itself
pub is_itself : (t : Transaction) → is_same t t ≡ true
is_itself Cancel = refl
is_itself t = grind (arith, nat_tests)

-- what is sent after some last transaction command is sent after itself
where_sent : (is : Bool) (to : View) {after : View}
    → (if is then Some to else None) ≡ Some after → Some to ≡ Some after
where_sent is to e = grind arith

sent_again : (last : Option Transaction) (t : Transaction) (before : View) {after : View}
    → sent last t before ≡ Some after → sent (Some t) t before ≡ Some after
sent_again last (Request price item) View.Asked e =
    rw (is_itself (Request price item)) (where_sent (is_again last (Request price item)) _ e)
sent_again last (Success item) View.SuccessOwed e =
    rw (is_itself (Success item)) (where_sent (is_again last (Success item)) _ e)
sent_again last t before e = e

-- the last transaction command that was sent is another, irrelevant, or this
sent_as : (one other its : Option Transaction) (before : View) {after : View}
    → ((other ≡ one) ⊎ (its ≡ None)) ⊎ (other ≡ its)
    → elim its [ Some t ↦ sent one t before | None ↦ Some before ] ≡ Some after
    → elim its [ Some t ↦ sent other t before | None ↦ Some before ] ≡ Some after
sent_as one other None before how e = e
sent_as one other (Some t) before (inl (inl same)) e = rw same e
sent_as one other (Some t) before (inl (inr none)) e = absurd cc
sent_as one other (Some t) before (inr is) e = rw is (sent_again one t before e)

asked_as : (one other : Facts) (command : ReaderCommand) (before : View) {after : View}
    → ((other.asked ≡ one.asked) ⊎ (transaction_of command ≡ None))
    ⊎ (other.asked ≡ transaction_of command)
    → asked one command before ≡ Some after → asked other command before ≡ Some after
asked_as one other ReaderCommand.Reset before how e = e
asked_as one other command before how e =
    sent_as one.asked other.asked (transaction_of command) before how e

-- whether a transaction command, if it is one, is repeated while the reader holds
abbrev pub repeats : Option Transaction → Option Transaction → Bool → Bool
repeats last its holds =
    holds && elim its [ Some transaction ↦ is_again last transaction | None ↦ false ]

-- A guess of the last transaction that the reader took does as well as what it was: the command is
-- repeated or isn't, and what messages need is there.
pub record Meets (its last guess : Option Transaction) : Type 0 where
  pub repeated : (holds : Bool) → repeats guess its holds ≡ repeats last its holds
  pub told : (news : List ReaderActivity) (before after : DeviceState)
      → all_told (or_else its last) news before ≡ Some after
      → all_told (or_else its guess) news before ≡ Some after

pub meets_itself : (its : Option Transaction) {last guess : Option Transaction} → guess ≡ last
    → Meets its last guess
meets_itself its same = record {
  repeated = λ holds. ap (λ g. repeats g its holds) same;
  told = λ news before after e. ap (λ g. all_told (or_else its g) news before) same ∙ e;
}

-- where kept messages can be told after some last transaction, they can after a VEND REQUEST
module _ (last : Option Transaction) (price item : ℕ) where
  told_request : (message : ReaderActivity) (before after : DeviceState)
      → told last message before ≡ Some after
      → told (Some (Request price item)) message before ≡ Some after
  told_request (VendApproved amount) (DeviceState.Vend back) after e = grind (arith, common_steps)
  told_request message before after e = e

  all_told_request : (news : List ReaderActivity) (before after : DeviceState)
      → all_told last news before ≡ Some after
      → all_told (Some (Request price item)) news before ≡ Some after
  all_told_request [] before after e = e
  all_told_request (message ∷ news) before after e =
      by (λ between. all_told_request news between after) (told last message before) refl e
    where
      by : ((between : DeviceState) → all_told last news between ≡ Some after
          → all_told (Some (Request price item)) news between ≡ Some after)
          → (one : Option DeviceState) → told last message before ≡ one
          → then_by one (all_told last news) ≡ Some after
          → all_told (Some (Request price item)) (message ∷ news) before ≡ Some after
      by rest None is e = absurd cc
      by rest (Some x) is e = rw (told_request message before x is) (rest x e)

-- so one of two guesses does: none, or that the command is it again
pub either_meets : (its last : Option Transaction)
    → Meets its last None ⊎ Meets its last (Some (again its))
either_meets None last =
    inr (record { repeated = λ holds. refl; told = all_told_request last 0 0 })
either_meets (Some t) last = by (is_again last t) refl
  where
    by : (is : Bool) → is_again last t ≡ is
        → Meets (Some t) last None ⊎ Meets (Some t) last (Some t)
    by true is = inr (record {
      repeated = λ holds. rw (is_itself t, is) refl;
      told = λ news before after e. e;
    })
    by false is =
        inl (record { repeated = λ holds. rw is refl; told = λ news before after e. e })

-- facts that differ by what may not be known alone
abbrev pub Alike : Facts → Facts → Type 0
Alike one other = (other.config ≡ one.config) × (other.amount ≡ one.amount)
    × (other.past.reset_owed ≡ one.past.reset_owed)

-- as facts do that may be
pub alike : {known : KnownFacts} {holds : Bool} {one other : Facts} → AllowsFacts known holds one
    → AllowsFacts known holds other → Alike one other
alike its others = (
  others.config ∙ sym its.config,
  others.amount ∙ sym its.amount,
  others.past.reset_owed ∙ sym its.past.reset_owed,
)

-- a step after one of them is one after the other
module _ (one other : Facts) (like : Alike one other) where
  -- an ask depends on what was asked last alone
  pub ask_with : (command : ReaderCommand) (before after : ReaderState) (gains : Gains)
      → ((other.asked ≡ one.asked) ⊎ (transaction_of command ≡ None))
      ⊎ (other.asked ≡ transaction_of command) → AskStep one command before after gains
      → AskStep other command before after gains
  ask_with command before after gains how step = record {
    view = asked_as one other command before.view how step.view;
    device = step.device;
    holds = step.holds;
    gained = rw (like.0, like.1) step.gained;
  }

  -- taking a command depends on the last transaction by this alone
  abbrev Repeats : Option Transaction → Type 0
  Repeats its = (holds : Bool) → repeats other.taken its holds ≡ repeats one.taken its holds

  pub same_repeats : (its : Option Transaction) → (other.taken ≡ one.taken) ⊎ (its ≡ None)
      → Repeats its
  same_repeats its (inl same) holds = ap (λ t. repeats t its holds) same
  same_repeats its (inr none) holds = rw none refl

  pub ack_with : (command : ReaderCommand) (choice : Choice) (before after : ReaderState)
      (gains : Gains) → Repeats (transaction_of command)
      → AckStep one command choice before after gains
      → AckStep other command choice before after gains
  ack_with command choice before after gains same step = record {
    poll = step.poll;
    to = rw (same before.holds) step.to;
    gained = rw (same before.holds, like.0, like.1) step.gained;
  }

  -- and so does taking the command of a reply, if it is taken
  taken_with : (its : Option ReaderCommand) (before : ReaderState) → Repeats (own_transaction its)
      → (take_any other its before ≡ take_any one its before)
      × (sold_any other its before ≡ sold_any one its before)
  taken_with None before same = (refl, refl)
  taken_with (Some command) before same =
      (rw (same before.holds) refl, rw (same before.holds, like.0, like.1) refl)

  -- a reply depends on these guesses by the last transaction, and by what the reader holds
  pub reply_with : (command : ReaderCommand) (reply : Reply) (choice : Choice)
      (before after : ReaderState) (gains : Gains)
      → Meets (own_transaction (taken command reply)) one.taken other.taken
      → (step : ReplyStep one command reply choice before after gains)
      → IsNew (is_poll command)
      (held (before_messages one command reply choice before).holds other.past.last_kept)
      (kept_of (parts_of reply)) step.news → ReplyStep other command reply choice before after gains
  reply_with command reply choice before after gains meets step new =
      let with = taken_with (taken command reply) (read choice before) meets.repeated in
      record {
        news = step.news;
        has_news = record {
          read = step.has_news.read;
          reset = rw like.2 step.has_news.reset;
          new = rw with.0 new;
        };
        told = rw with.0 (meets.told step.news _ after.device step.told);
        view = step.view;
        holds = rw with.0 step.holds;
        gained = rw (with.1, like.0) step.gained;
      }

-- A reader holds on once it has taken a command only where it held before.
held_taken : (facts : Facts) (its : Option ReaderCommand) (before : ReaderState)
    → (take_any facts its before).holds ≡ true → before.holds ≡ true
held_taken facts None before holds = holds
held_taken facts (Some command) before holds = grind (arith, common_steps)

held_read : (choice : Choice) (before : ReaderState) → (read choice before).holds ≡ true
    → before.holds ≡ true
held_read Restart before holds = absurd cc
held_read choice before holds = holds

pub held_before : (facts : Facts) (command : ReaderCommand) (reply : Reply) (choice : Choice)
    (before : ReaderState) → (before_messages facts command reply choice before).holds ≡ true
    → before.holds ≡ true
held_before facts command reply choice before holds =
    held_read choice before (held_taken facts (taken command reply) (read choice before) holds)

-- What a reader holds is a front of a reply's kept list, or that is empty and so are the new ones.
pub fronts : {M : Type 0} (other : M) (poll holds : Bool) (last kept news : List M)
    → (holds ≡ true → last ≢ []) → IsNew poll (held holds last) kept news
    → IsNew poll (held holds (other ∷ [])) kept news
    ⊎ ((n : ℕ) × (n < length kept) × IsNew poll (held holds (take (suc n) kept)) kept news)
fronts other poll false last kept news some is = inl is
fronts other poll true [] kept news some is = absurd (some refl refl)
fronts other poll true (x ∷ xs) kept news some (inr none) = inl (inr none)
fronts other poll true (x ∷ xs) kept news some (inl order) =
    let lengths = ap length order ∙ length-append (x ∷ xs) news in
    let front = ap (take (suc (length xs))) order ∙ take-append_seam (x ∷ xs) news in
    inr (length xs, omega (arith, lengths), inl (rw front order))
