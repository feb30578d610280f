-- That each sale in a run follows its approval.
use Rattle.mdb_follow.proofs.Words.{ap, ◌≡◌, ◌⊎◌, inl, inr, ℕ, List, [], ◌∷◌, ◌++◌, All-cons, All-nil, Event, ReaderUnit, Act, ArePieces, Piece, Position, Whole, acts_of, StateByProfile, Arrives, Sums, Beginning, PowerOn, Joined, Profile, Scope, profile_of, Replied, Returned, first_position, position_of, base_state, by_profile, extended_state, machine_in, EndsInReply, MayBeRequestedBefore, SalesAreApproved, SalesFollowApprovals}
use Rattle.mdb_msgs.specs.declared.command.Command.{Command}
use Rattle.mdb_msgs.specs.declared.command.Command.TheVariants as commands
use Rattle.mdb_msgs.specs.declared.command.Device.TheVariants as devices
use Rattle.mdb_msgs.specs.declared.command.ReaderCommand.TheVariants as readers
use Rattle.mdb_msgs.specs.declared.reply.Reply.{Reply}
use Rattle.mdb_bus.specs.declared.act.Act.TheVariants as acts
use Rattle.mdb_cashless.specs.declared.reader.state.ReaderState.{ReaderState}
use Rattle.mdb_cashless.specs.declared.approvals.state.ApprovalState.{ApprovalState}
use Rattle.mdb_cashless.specs.declared.by_profile.state.StateByProfile.TheVariants.{Base, Extended}
use Rattle.mdb_cashless.specs.ExtendedReader as extended
use Rattle.mdb_cashless.specs.ExtendedSales as extended_sales
use Rattle.mdb_cashless.specs.ExtendedSales.{AcksAreOfReplies}
use Rattle.mdb_cashless.specs.Reader as reader
use Rattle.mdb_cashless.specs.shared.SaleViews.{MayTellOfSale}
use Rattle.mdb_cashless.proofs.ApprovedSales.{approved, may_be_told}
use Rattle.mdb_cashless.proofs.Sales.{own_of_unit, sales_may_stand, starts_tell, steps_may_tell}
use Rattle.mdb_follow.proofs.ByProfile.{own_way}
use Rattle.mdb_follow.proofs.Choosing.{arrives, chosen}
use Rattle.mdb_follow.proofs.Joining.{split}
use Rattle.mdb_bus.specs.declared.scope.Profile.TheVariants as profiles

-- a reply, RET for it, or its repeat
abbrev pub IsOfReply : Command → Reply → Act → Type 0
IsOfReply command reply act = (act ≡ acts.VmcRet command reply) ⊎ (act ≡ acts.Repeat command reply)

-- what is open where a reply is, or where it was asked for again
abbrev pub IsOpen : Command → Reply → Position → Type 0
IsOpen command reply position =
    (position ≡ Replied command reply) ⊎ (position ≡ Returned command reply)

-- one act more
pub again : (command : Command) (reply : Reply) (act : Act) (so_far : List Act)
    → IsOfReply command reply act → EndsInReply command reply so_far
    → EndsInReply command reply (act ∷ so_far)
again command reply act so_far of ends = record {
  again = act ∷ ends.again;
  before = ends.before;
  order = ap (λ (l : List Act). act ∷ l) ends.order;
  repeats = All-cons (IsOfReply command reply) act ends.again of ends.repeats;
}

-- a recording begins with no reply open
pub first_closed : (command : Command) (reply : Reply) (begins : Beginning)
    → IsOpen command reply (first_position begins) → ⊥
first_closed command reply (PowerOn profile) (inl e) = cc
first_closed command reply (PowerOn profile) (inr e) = cc
first_closed command reply (Joined setups profile) (inl e) = cc
first_closed command reply (Joined setups profile) (inr e) = cc

module _ (scope : Scope) where
  -- pieces where a reply is open end in it
  pub ends_in : (command : Command) (reply : Reply) (pieces : List Piece) → ArePieces scope pieces
      → IsOpen command reply (position_of scope pieces)
      → EndsInReply command reply (acts_of pieces)
  ends_in command reply [] are here = absurd (first_closed command reply scope.begins here)
  ends_in command reply (Whole (acts.Reply c r) events ∷ pieces) are (inl e) = record {
    again = [];
    before = acts_of pieces;
    order =
        let same : acts.Reply c r ≡ acts.Reply command reply = cc in
        ap (λ (a : Act). a ∷ acts_of pieces) same;
    repeats = All-nil (IsOfReply command reply);
  }
  ends_in command reply (Whole (acts.Repeat c r) events ∷ pieces) are (inl e) =
      let before = are.1.comes.0 in
      again command reply (acts.Repeat c r) (acts_of pieces) (inr cc)
      (ends_in command reply pieces are.2 (inr cc))
  ends_in command reply (Whole (acts.VmcRet c r) events ∷ pieces) are (inr e) =
      let before = are.1.comes.0 in
      again command reply (acts.VmcRet c r) (acts_of pieces) (inl cc)
      (ends_in command reply pieces are.2 (inl cc))
  ends_in command reply (piece ∷ pieces) are (inl e) = absurd cc
  ends_in command reply (piece ∷ pieces) are (inr e) = absurd cc

  -- each ACK of the controller stands after the reply that it acknowledges
  acks_fit : (pieces : List Piece) → ArePieces scope pieces → AcksAreOfReplies (acts_of pieces)
  acks_fit [] are = tt
  acks_fit (Whole (acts.VmcAck c r) events ∷ pieces) are =
      (ends_in c r pieces are.2 (inl are.1.comes.0), acks_fit pieces are.2)
  acks_fit (Whole act events ∷ pieces) are = (tt, acks_fit pieces are.2)
  acks_fit (tail ∷ pieces) are = acks_fit pieces are.2

module _ (unit : ReaderUnit) where
  -- of each sale among acts this is so
  abbrev EachSold : (ℕ → List Act → Type 0) → List Act → Type 0
  EachSold Is so_far = (later before : List Act) (item : ℕ)
      → so_far ≡ later ++ (acts.Ask (commands.Reader unit (readers.VendSuccess item)) ∷ before)
      → Is item before

  module _ (Is : ℕ → List Act → Type 0) where
    -- before the first act there is none
    none_sold : EachSold Is []
    none_sold [] before item order = absurd cc
    none_sold (act ∷ later) before item order = absurd cc

    -- one act more: a sale is the last act, or stands before it
    one_more : (act : Act) (so_far : List Act)
        → ((item : ℕ) → act ≡ acts.Ask (commands.Reader unit (readers.VendSuccess item))
        → Is item so_far) → EachSold Is so_far → EachSold Is (act ∷ so_far)
    one_more act so_far last earlier [] before item order =
        let same : so_far ≡ before = cc in rw same at (last item cc)
    one_more act so_far last earlier (other ∷ later) before item order =
        earlier later before item cc

  module _ (begins : Beginning) where
    -- a way of a reader through acts: the view where it leads may tell of the sale, and each sale
    -- is approved, or may have been requested before
    all_sold : (so_far : List Act) (state : ReaderState) (sums : Sums) → AcksAreOfReplies so_far
        → Arrives (reader.machine unit begins) so_far state sums
        → MayTellOfSale begins unit state.view so_far × SalesAreApproved begins unit so_far
    all_sold [] state sums fit way = (starts_tell unit begins state way.0, none_sold _)
    all_sold (act ∷ so_far) state sums fit way =
        let earlier = all_sold so_far way.before way.sums_before fit.1 way.way in (
          steps_may_tell unit begins so_far act way.choice way.before state way.gains fit.0
              earlier.0 way.step,
          one_more _ act so_far
              (λ item is. sales_may_stand unit begins so_far item way.choice way.before state
              way.gains earlier.0 (rw is at way.step)) earlier.1,
        )

    all_approved : (so_far : List Act) (state : ApprovalState) (sums : Sums)
        → AcksAreOfReplies so_far → Arrives (extended.machine unit begins) so_far state sums
        → extended_sales.SalesAreApproved begins unit so_far
    all_approved [] state sums fit way = none_sold (λ item before.
        extended_sales.IsApproved unit item before ⊎ MayBeRequestedBefore begins unit before)
    all_approved (act ∷ so_far) state sums fit way =
        let earlier = all_approved so_far way.before way.sums_before fit.1 way.way in
        one_more _ act so_far (λ item is.
        let asks = rw (own_of_unit unit (readers.VendSuccess item)) at (rw is at way.step) in
        may_be_told unit begins so_far item asks.0 fit.1 earlier asks.1) earlier

    -- by either profile each sale is approved
    each_sold : (profile : Profile) (so_far : List Act) (state : StateByProfile) (sums : Sums)
        → AcksAreOfReplies so_far → Arrives (by_profile profile
        (machine_in base_state (Base reader.power_on) (reader.machine unit begins))
        (machine_in extended_state (Extended extended.power_on) (extended.machine unit begins)))
        so_far state sums
        → SalesAreApproved begins unit so_far
    each_sold profiles.Base so_far state sums fit way =
        let machine = reader.machine unit begins in
        let all = chosen (machine_in base_state _ machine) so_far state sums way in
        let its = own_way base_state _ machine so_far all.0 state sums all.1 in
        (all_sold so_far its.0 sums fit (arrives machine so_far all.0 its.0 sums its.2)).1
    each_sold profiles.Extended so_far state sums fit way =
        let machine = extended.machine unit begins in
        let all = chosen (machine_in extended_state _ machine) so_far state sums way in
        let its = own_way extended_state _ machine so_far all.0 state sums all.1 in
        let sold = all_approved so_far its.0 sums fit
        (arrives machine so_far all.0 its.0 sums its.2) in
        λ later before item order. elim (sold later before item order) [
          | inl is ↦ inl (approved unit item before is)
          | inr may ↦ inr may
        ]

pub sales_follow : (scope : Scope) (rows : List Event) → SalesFollowApprovals scope rows
sales_follow scope rows sums run unit =
    each_sold unit scope.begins (profile_of scope.begins) (acts_of run.pieces)
    (run.states (devices.Reader unit)) (sums (devices.Reader unit))
    (acks_fit scope run.pieces run.act_list.in_order)
    (split scope.begins run.loss run.pieces run.states sums run.way (devices.Reader unit))
