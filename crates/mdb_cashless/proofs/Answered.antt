-- What a reply of a reader tells, for the function that reads it.
use Rattle.mdb_cashless.proofs.Words.{◌≡◌, ◌∙◌, ℕ, Bool, List, Option, Some, refl, sym, ReaderCommand, Reply, Choice, Gains, Part, device_gains, in_slots, held, IsSummary, IsOnlyStep, or_else, DeviceState, ReaderActivity, ReaderState, Ended, Transaction, all_told, config_in, last_said, messages_of, parts_of, amounts, HasNews, holds_after, all_approved, is_poll, last_transaction, owes_reset, sold_any, take_any, ReplyStep, before_messages, read, taken, Facts}
use Rattle.mdb_msgs.specs.declared.setups.ReaderConfig.{ReaderConfig}
use Rattle.mdb_cashless.proofs.ReaderMoves.{same_state}

-- what the code has found out of a reply before it looks for new messages
pub record Looked (facts : Facts) (command : ReaderCommand) (reply : Reply) (choice : Choice)
    (before : ReaderState) (poll owed reset early : Bool) (middle : ReaderState)
    (holding kept : List ReaderActivity) : Type 0 where
  pub polls : poll ≡ is_poll command
  pub owed_is : owed ≡ owes_reset facts (taken command reply)
  pub middle_is : middle ≡ before_messages facts command reply choice before
  pub holding_is : holding ≡ held middle.holds facts.past.last_kept
  pub summary : IsSummary kept reset early (parts_of reply)

pub looked_by : {facts : Facts} {command : ReaderCommand} {reply : Reply} {choice : Choice}
    {before start middle : ReaderState} {its : Option ReaderCommand} {poll owed reset early : Bool}
    {holding items kept : List ReaderActivity} → poll ≡ is_poll command → its ≡ taken command reply
    → start ≡ read choice before → owed ≡ owes_reset facts its → middle ≡ take_any facts its start
    → items ≡ facts.past.last_kept → holding ≡ held middle.holds items
    → IsSummary kept reset early (parts_of reply)
    → Looked facts command reply choice before poll owed reset early middle holding kept
looked_by polls its start owed middle items holding summary = record {
  polls = polls;
  owed_is = rw its at owed;
  middle_is = rw (its, start) at middle;
  holding_is = rw items at holding;
  summary = summary;
}

module _ {facts : Facts} {command : ReaderCommand} {reply : Reply} {choice : Choice}
    {before : ReaderState} {poll owed reset early : Bool} {middle : ReaderState}
    {holding kept : List ReaderActivity}
    (looked : Looked facts command reply choice before poll owed reset early middle holding kept)
  where
    -- what the reply tells, in the words of the code
    abbrev Telling : List (Part ReaderActivity) → List ReaderActivity → Type 0
    Telling parts news = HasNews poll choice owed holding parts news

    telling : {after : ReaderState} {gains : Gains}
        (step : ReplyStep facts command reply choice before after gains)
        → Telling (parts_of reply) step.news
    telling step =
        rw (looked.polls, looked.owed_is, looked.holding_is, looked.middle_is) step.has_news

    -- a reply that the reader can't tell: it doesn't tell what is held
    pub untold : ((parts : List (Part ReaderActivity)) (other : List ReaderActivity)
        → IsSummary kept reset early parts → Telling parts other → ⊥)
        → (after : ReaderState) (gains : Gains)
        → ReplyStep facts command reply choice before after gains → ⊥
    untold none after gains step =
        none (parts_of reply) step.news looked.summary (telling step)

    -- a reply that it can tell, and what that is
    pub told : {news : List ReaderActivity} {last : Option Transaction} {device : DeviceState}
        {after_holds : Bool} {config : Option ReaderConfig} {approved : ℕ} {sold : Ended}
        {gains : Gains}
        → ((parts : List (Part ReaderActivity)) → IsSummary kept reset early parts
        → Telling parts news)
        → ((parts : List (Part ReaderActivity)) (other : List ReaderActivity)
        → IsSummary kept reset early parts → Telling parts other → other ≡ news)
        → last ≡ last_transaction facts (taken command reply)
        → all_told last news middle.device ≡ Some device
        → after_holds ≡ holds_after kept middle.holds
        → config ≡ or_else (last_said config_in (messages_of reply)) facts.config
        → approved ≡ all_approved config news
        → sold ≡ sold_any facts (taken command reply) (read choice before)
        → gains ≡ device_gains (in_slots (amounts approved sold))
        → IsOnlyStep (ReplyStep facts command reply choice before)
        (Some (record { device = device; view = before.view; holds = after_holds }, gains))
    told {device = device} found only last_is told_is after_holds_is config_is approved_is sold_is
        gains_are =
        let tells = rw (last_is, looked.middle_is) at told_is in
        let holds = rw (looked.summary.kept_is, looked.middle_is) at after_holds_is in
        let found = found (parts_of reply) looked.summary in
        let gained = rw (approved_is, config_is, sold_is) at gains_are in (
          record {
            news = _;
            has_news =
                rw (looked.polls, looked.owed_is, looked.holding_is, looked.middle_is) at found;
            told = tells;
            view = refl;
            holds = holds;
            gained = gained;
          },
          λ other more step.
              let same = only (parts_of reply) step.news looked.summary (telling step) in
              let both : Some other.device ≡ Some device = sym (rw same at step.told) ∙ tells in
              let devices : other.device ≡ device = cc in (
                same_state devices step.view (step.holds ∙ sym holds),
                (rw same at step.gained) ∙ sym gained,
              ),
        )
