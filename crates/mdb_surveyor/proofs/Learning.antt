-- What is told, and what was said last.
use Rattle.mdb_surveyor.proofs.Words.{common_steps, arith, refl, ap, sym, ◌∙◌, ◌≡◌, List, [], ◌∷◌, Option, Some, None, option_map, Command, Device, ReaderUnit, First, Second, ReaderConfig, Setups, device_of, ReaderMessages, known_with, last_config, with_config, nothing_known, Act, Beginning, PowerOn, Joined, Profile, Piece, Whole, acts_of, levels_by, levels_of, levels_told, profile_of, last_told, or_else, Told, AreKnown, learnt_by, setups_of, told_after, with_answer}
use Rattle.mdb_msgs.specs.declared.command.Command.TheVariants as commands
use Rattle.mdb_msgs.specs.declared.command.Device.TheVariants as devices
use Rattle.mdb_msgs.specs.declared.reply.reader.ReaderMsg.{ReaderMsg}
use Rattle.mdb_msgs.specs.declared.reply.reader.ReaderMsg.TheVariants as messages
use Rattle.mdb_msgs.specs.declared.reply.Reply.TheVariants as replies
use Rattle.mdb_msgs.specs.SetupData as setup
use Rattle.mdb_msgs.specs.Setups.{config_known}
use Rattle.mdb_bus.specs.declared.act.Act.TheVariants as acts
use Rattle.mdb_bus.specs.declared.scope.Profile.TheVariants as profiles
use Rattle.mdb_cash.specs.BillFacts as bill
use Rattle.mdb_cash.specs.ChangerFacts as changer
use Rattle.mdb_machine.specs.Keeper.{setup_by}
use Rattle.mdb_machine.specs.Known.{known_before}
use Rattle.mdb_cashless.specs.ByProfileFacts.{config_of, facts_of}
use Rattle.mdb_cashless.specs.ExtendedFacts as extended
use Rattle.mdb_cashless.specs.ReaderFacts as reader
use Rattle.mdb_cashless.specs.ReaderMessages.{config_in, last_said}
use Rattle.mdb_cashless.specs.shared.ReaderWays.{first_of_three}

-- the feature levels
answer_leaves_levels : (device : Device) (known : Option Setups) (told : Told)
    → (with_answer device known told).levels ≡ told.levels
answer_leaves_levels device None told = refl
answer_leaves_levels device (Some setups) told = refl

pub levels_step : (profile : Profile) (act : Act) (told : Told)
    → (learnt_by profile act told).levels ≡ levels_by profile act told.levels
levels_step profile (acts.Ask command) told = refl
levels_step profile (acts.Reply command reply) told =
    answer_leaves_levels (device_of command) (known_with told.setups (device_of command) reply)
    (record told { levels = levels_told profile command reply told.levels })
levels_step profile act told = refl

pub levels_later : (begins : Beginning) (told : Told) (pieces : List Piece)
    → (told_after begins told (acts_of pieces)).levels
    ≡ levels_of (profile_of begins) told.levels pieces
levels_later begins told [] = refl
levels_later begins told (Whole act events ∷ pieces) =
    levels_step (profile_of begins) act (told_after begins told (acts_of pieces))
    ∙ ap (levels_by (profile_of begins) act) (levels_later begins told pieces)
levels_later begins told (piece ∷ pieces) = levels_later begins told pieces

-- what is known of a device, where an act tells it or leaves it
known_last : {X : Type 0} (of : Setups → Option X) (tells : Act → Option X) (begins : Beginning)
    → ((act : Act) (told : Told) → of (learnt_by (profile_of begins) act told).setups
    ≡ or_else (tells act) (of told.setups))
    → (told : Told) → of told.setups ≡ known_before of begins
    → (acts : List Act) → of (told_after begins told acts).setups
    ≡ or_else (last_told tells acts) (known_before of begins)
known_last of tells begins step told is [] = is
known_last of tells begins step told is (act ∷ acts) =
    step act (told_after begins told acts)
    ∙ ap (or_else (tells act)) (known_last of tells begins step told is acts)
    ∙ first_of_three (tells act) (last_told tells acts) (known_before of begins)

-- what is known before
known_first : {X : Type 0} (of : Setups → Option X) → of nothing_known ≡ None
    → (begins : Beginning) (told : Told) → told.setups ≡ setups_of begins
    → of told.setups ≡ known_before of begins
known_first of none (PowerOn profile) told is = ap of is ∙ none
known_first of none (Joined setups profile) told is = ap of is

-- what is told once a reader's level is
abbrev pub heard : Profile → Command → ReaderMessages → Told → Told
heard profile command list told = record told {
  levels = levels_told profile command (replies.Reader list) told.levels;
}

-- what a reader's answer tells: its config, and nothing of other devices
abbrev answered : ReaderUnit → Option ReaderConfig → Told → Setups
answered unit config told =
    (with_answer (devices.Reader unit) (option_map (with_config told.setups unit) config)
    told).setups

config_leaves : (unit : ReaderUnit) (config : Option ReaderConfig) (told : Told)
    → ((answered unit config told).changer ≡ told.setups.changer)
    × ((answered unit config told).bill ≡ told.setups.bill)
config_leaves unit None told = (refl, refl)
config_leaves First (Some config) told = (refl, refl)
config_leaves Second (Some config) told = (refl, refl)

own_config : (unit : ReaderUnit) (config : Option ReaderConfig) (told : Told)
    → config_known (answered unit config told) unit
    ≡ or_else config (config_known told.setups unit)
own_config unit None told = refl
own_config First (Some config) told = refl
own_config Second (Some config) told = refl

other_config : (config : Option ReaderConfig) (told : Told)
    → ((answered Second config told).first_reader ≡ told.setups.first_reader)
    × ((answered First config told).second_reader ≡ told.setups.second_reader)
other_config None told = (refl, refl)
other_config (Some config) told = (refl, refl)

-- changer and validator
cash_step : (profile : Profile) (act : Act) (told : Told)
    → ((learnt_by profile act told).setups.changer
    ≡ or_else (setup_by changer.tables act) told.setups.changer)
    × ((learnt_by profile act told).setups.bill
    ≡ or_else (setup_by bill.tables act) told.setups.bill)
cash_step profile (acts.Reply (commands.Changer command) (replies.ChangerSetup table)) told =
    (refl, refl)
cash_step profile (acts.Reply (commands.Bill command) (replies.BillSetup table)) told = (refl, refl)
cash_step profile (acts.Reply (commands.Reader unit command) (replies.Reader list)) told =
    config_leaves unit (last_config list.messages)
    (heard profile (commands.Reader unit command) list told)
cash_step profile act told = (refl, refl)

-- the config of a reader's last config message, in one way and the other
same_config : (message : ReaderMsg) → setup.config_in message ≡ config_in message
same_config (messages.Config level code scale decimals response options) = refl
same_config message = refl

same_else : (one other : Option ReaderConfig) → setup.or_else one other ≡ or_else one other
same_else one other = grind (arith, common_steps)

same_last : (list : List ReaderMsg) → last_config list ≡ last_said config_in list
same_last [] = refl
same_last (message ∷ list) =
    same_else (last_config list) (setup.config_in message)
    ∙ ap (λ c. or_else (last_config list) c) (same_config message)
    ∙ ap (λ c. or_else c (config_in message)) (same_last list)

-- a reader
own_step : (unit : ReaderUnit) (profile : Profile) (act : Act) (told : Told)
    → config_known (learnt_by profile act told).setups unit
    ≡ or_else (reader.config_by unit act) (config_known told.setups unit)
own_step First profile (acts.Reply (commands.Reader First command) (replies.Reader list)) told =
    own_config First (last_config list.messages)
    (heard profile (commands.Reader First command) list told)
    ∙ rw (same_last list.messages) refl
own_step Second profile (acts.Reply (commands.Reader Second command) (replies.Reader list)) told =
    own_config Second (last_config list.messages)
    (heard profile (commands.Reader Second command) list told)
    ∙ rw (same_last list.messages) refl
own_step First profile (acts.Reply (commands.Reader Second command) (replies.Reader list)) told =
    ap (λ r. r.config) (other_config (last_config list.messages)
    (heard profile (commands.Reader Second command) list told)).0
own_step Second profile (acts.Reply (commands.Reader First command) (replies.Reader list)) told =
    ap (λ r. r.config) (other_config (last_config list.messages)
    (heard profile (commands.Reader First command) list told)).1
own_step unit profile (acts.Reply (commands.Changer command) (replies.ChangerSetup table)) told =
    refl
own_step unit profile (acts.Reply (commands.Bill command) (replies.BillSetup table)) told = refl
own_step unit profile act told = refl

-- the config that a reader's machine knows, by either profile
config_told : (begins : Beginning) (unit : ReaderUnit) (acts : List Act)
    → or_else (last_told (reader.config_by unit) acts)
    (known_before (λ setups. config_known setups unit) begins)
    ≡ (extended.facts_of begins unit acts).config
config_told (PowerOn profile) unit [] = refl
config_told (Joined setups profile) unit [] = refl
config_told begins unit (act ∷ before) =
    sym (first_of_three (reader.config_by unit act) (last_told (reader.config_by unit) before)
    (known_before (λ setups. config_known setups unit) begins))
    ∙ ap (or_else (reader.config_by unit act)) (config_told begins unit before)
    ∙ told_by_act unit act (extended.facts_of begins unit before)
  where
    told_by_act : (unit : ReaderUnit) (act : Act) (facts : extended.Facts)
        → or_else (reader.config_by unit act) facts.config
        ≡ (extended.facts_after unit act facts).config
    told_by_act unit (acts.Ask command) facts = refl
    told_by_act unit act facts = refl

same_known : (begins : Beginning) (unit : ReaderUnit) (acts : List Act)
    → or_else (last_told (reader.config_by unit) acts)
    (known_before (λ setups. config_known setups unit) begins)
    ≡ config_of (facts_of begins unit acts)
same_known (PowerOn profiles.Base) unit acts = refl
same_known (Joined setups profiles.Base) unit acts = refl
same_known begins unit acts = config_told begins unit acts

none_known : (unit : ReaderUnit) → config_known nothing_known unit ≡ None
none_known First = refl
none_known Second = refl

pub setups_after : (begins : Beginning) (told : Told) (acts : List Act)
    → told.setups ≡ setups_of begins → AreKnown begins (told_after begins told acts).setups acts
setups_after begins told acts is = record {
  changer = known_last (λ setups. setups.changer) (setup_by changer.tables) begins
      (λ act told. (cash_step (profile_of begins) act told).0) told
      (known_first (λ setups. setups.changer) refl begins told is) acts;
  bill = known_last (λ setups. setups.bill) (setup_by bill.tables) begins
      (λ act told. (cash_step (profile_of begins) act told).1) told
      (known_first (λ setups. setups.bill) refl begins told is) acts;
  reader = λ unit. known_last (λ setups. config_known setups unit) (reader.config_by unit) begins
      (own_step unit (profile_of begins)) told
      (known_first (λ setups. config_known setups unit) (none_known unit) begins told is) acts
      ∙ same_known begins unit acts;
}
