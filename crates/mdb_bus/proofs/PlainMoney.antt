-- Where all features are known, the rule that counts is the first one that is broken.
use Rattle.mdb_bus.proofs.Words.{[], Act, all_known, amounts_to, ap, Asked, asked_with_amounts, Command, cond_both, counted_as, false, First, first_known, InAsk, InReply, is_wide, known_after, known_by, known_of, KnownFeatures, Levels, levels_before, levels_of, List, Option, Piece, Position, profile_of, reader_asked, refl, refuses, Rule, Scope, Some, wide_at, wide_of, ◌∙◌, ◌∷◌, ◌≡◌}
use Rattle.mdb_msgs.specs.declared.command.ReaderUnit.{ReaderUnit}
use Rattle.mdb_msgs.specs.declared.command.Command.TheVariants as commands
use Rattle.mdb_bus.specs.declared.act.Act.TheVariants as acts
use Rattle.mdb_bus.specs.declared.fault.Rule.TheVariants as rule

-- features that are all known stay so
after_all : (command : Command) → known_after command all_known ≡ all_known
after_all (commands.Reader First command) = refl
after_all command = refl

stay_known : (act : Act) → known_by act all_known ≡ all_known
stay_known (acts.Ack command) = after_all command
stay_known (acts.Reply command reply) =
    cond_both (refuses reply) all_known (known_after command all_known)
    (λ (known : KnownFeatures). known ≡ all_known) (λ refused. refl) (λ taken. after_all command)
stay_known act = refl

all_stay : (acts : List Act) → known_of all_known acts ≡ all_known
all_stay [] = refl
all_stay (act ∷ acts) = ap (known_by act) (all_stay acts) ∙ stay_known act

-- so no money is wide
none_wide : (levels : Levels) (unit : Option ReaderUnit)
    → is_wide (wide_at all_known levels) unit ≡ false
none_wide levels (Some First) = refl
none_wide levels unit = refl

-- and each rule counts as it is
as_it_is : (broken : Rule) (position : Position) (levels : Levels)
    → counted_as broken position (wide_at all_known levels) ≡ broken
as_it_is rule.Sum (InAsk bytes) levels = rw (none_wide levels (asked_with_amounts bytes))
as_it_is rule.Mode (Asked command) levels = rw (none_wide levels (amounts_to command))
as_it_is rule.Message (InReply command bytes) levels = rw (none_wide levels (reader_asked command))
as_it_is broken position levels = refl

pub counts_plainly : (scope : Scope) (pieces : List Piece) (broken : Rule) (position : Position)
    → first_known scope.begins ≡ all_known
    → counted_as broken position (wide_of scope pieces) ≡ broken
counts_plainly scope pieces broken position known =
    rw (known, all_stay) (as_it_is broken position
    (levels_of (profile_of scope.begins) (levels_before scope) pieces))
