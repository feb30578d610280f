-- What options give tells one thing: the setup data that are known with it.
use Rattle.std.proofs.Common.{◌≡◌, ◌≢◌, ◌⊎◌, ℕ, zero, suc, refl, List, sym, ◌∙◌, arith, inl, inr}
use Rattle.mdb_msgs.specs.declared.command.Command.{Command}
use Rattle.mdb_msgs.specs.declared.command.Device.{Device}
use Rattle.mdb_msgs.specs.declared.command.Device.TheVariants.{Reader}
use Rattle.mdb_msgs.specs.declared.command.ReaderUnit.{ReaderUnit}
use Rattle.mdb_msgs.specs.declared.command.ReaderUnit.TheVariants.{First, Second}
use Rattle.mdb_msgs.specs.declared.device_set.DeviceSet.{DeviceSet}
use Rattle.mdb_msgs.specs.declared.setups.Setups.{Setups}
use Rattle.mdb_msgs.specs.Commands.{Spells}
use Rattle.mdb_msgs.specs.SetupData.{IsToldBy}
use Rattle.mdb_page.specs.declared.options.PageReader.{PageReader}
use Rattle.mdb_page.specs.declared.options.PageSetup.{PageSetup}
use Rattle.mdb_page.specs.Options.{AddsAsk, AddsLevel, AddsTold, AreTold, IsTold, told_at}

-- a block has at most one command
abbrev pub BlockHasOneCommand : Type 0
BlockHasOneCommand = (block : List ℕ) (one other : Command) → Spells one block
    → Spells other block → one ≡ other

zero_or_not : (n : ℕ) → (n ≡ 0) ⊎ (n ≢ 0)
zero_or_not zero = inl refl
zero_or_not (suc n) = inr (λ none. absurd (omega (arith, none)))

one_command : BlockHasOneCommand → (device : Device) (bytes : List ℕ) (before one other : Setups)
    → IsToldBy device bytes before one → IsToldBy device bytes before other → one ≡ other
one_command law device bytes before one other is also =
    cc (law bytes is.command also.command is.spells also.spells)

pub one_ask : BlockHasOneCommand → (unit : ReaderUnit) (block : PageSetup)
    (before one other : Setups) → AddsAsk unit block before one → AddsAsk unit block before other
    → one ≡ other
one_ask law unit block before one other is also = elim (zero_or_not block.count) [
  | inl none ↦ is.not_given none ∙ sym (also.not_given none)
  | inr some ↦ one_command law (Reader unit) _ before one other
      (is.given some).1 (also.given some).1
]

pub one_level : (unit : ReaderUnit) (level : ℕ) (before one other : Setups)
    → AddsLevel unit level before one → AddsLevel unit level before other → one ≡ other
one_level unit level before one other is also = elim (zero_or_not level) [
  | inl none ↦ is.not_given none ∙ sym (also.not_given none)
  | inr some ↦ is.given some ∙ sym (also.given some)
]

pub one_told : BlockHasOneCommand → (unit : ReaderUnit) (told : PageReader)
    (before one other : Setups) → IsTold unit told before one → IsTold unit told before other
    → one ≡ other
one_told law unit told before one other is also =
    let level = one_level unit told.level before also.with_level is.with_level also.level
    is.level in
    let config = one_ask law unit told.config is.with_level also.with_config is.with_config
    (rw level at also.config) is.config in
    one_ask law unit told.options is.with_config one other is.options (rw config at also.options)

-- nothing is known of a reader where what its options give isn't known with what comes before
pub no_options : BlockHasOneCommand → (unit : ReaderUnit) (told : PageReader)
    (before one two : Setups) → AddsLevel unit told.level before one
    → AddsAsk unit told.config one two
    → ((after : Setups) → AddsAsk unit told.options two after → ⊥) → (after : Setups)
    → IsTold unit told before after → ⊥
no_options law unit told before one two level config none after is =
    let first = one_level unit told.level before is.with_level one is.level level in
    let second = one_ask law unit told.config one is.with_config two (rw first at is.config)
    config in
    none after (rw second at is.options)

-- nothing is known of both readers where what is given of the second isn't known with the first
pub no_second : BlockHasOneCommand → (left : DeviceSet) (readers : List PageReader)
    (before one : Setups) → AddsTold left First (told_at readers 0) before one
    → ((after : Setups) → AddsTold left Second (told_at readers 1) one after → ⊥)
    → (after : Setups) → AreTold left readers before after → ⊥
no_second law left readers before one first none after are =
    let same = one_told law First (told_at readers 0) before are.with_first one are.first.is
    first.is in
    none after (rw same at are.second)
