-- By the base profile nothing counts of what the extended one alone says.
use Rattle.mdb_bus.proofs.Words.{all_known, ap, As, asked_device, Base, base, Beginning, blame_of, Command, counted_for, counted_in, Device, Event, Extended, fault_of, first_known, format_by, format_for, haste_by, haste_of, is_in_haste, Joined, Levels, LinkFault, List, None, Option, Piece, Position, position_of, PowerOn, profile_of, refl, Rule, Scope, times_of, untimely_of, untold_format, ◌∙◌, ◌≡◌}
use Rattle.mdb_bus.proofs.PlainMoney.{counts_plainly}

pub one_format : (begins : Beginning) (levels : Levels) (command : Command)
    → profile_of begins ≡ Base → format_for begins levels command ≡ As base
one_format begins levels command is =
    ap (λ profile. format_by profile (untold_format begins) levels command) is

pub no_haste : (scope : Scope) (pieces : List Piece) (row : Event) (fault : LinkFault)
    → profile_of scope.begins ≡ Base → counted_in (haste_of scope pieces) row fault ≡ fault
no_haste scope pieces row fault is =
    ap (λ profile. counted_in (haste_by profile (is_in_haste pieces)) row fault) is

pub no_times : (scope : Scope) (pieces : List Piece) → profile_of scope.begins ≡ Base
    → times_of scope pieces ≡ None
no_times scope pieces is = ap (λ profile. counted_for profile (untimely_of scope pieces)) is

features_known : (begins : Beginning) → profile_of begins ≡ Base → first_known begins ≡ all_known
features_known (PowerOn profile) is = refl
features_known (Joined setups Base) is = refl
features_known (Joined setups Extended) is = absurd cc

abbrev made : Position → Option Device → Event → Rule → LinkFault
made position asked row broken =
    record { rule = broken; blame = blame_of position asked row broken }

pub first_counts : (scope : Scope) (pieces : List Piece) (row : Event) (first : Rule)
    → profile_of scope.begins ≡ Base → fault_of scope pieces row first
    ≡ made (position_of scope pieces) (asked_device pieces) row first
first_counts scope pieces row first is =
    no_haste scope pieces row _ is ∙ ap (made (position_of scope pieces) (asked_device pieces) row)
    (counts_plainly scope pieces first (position_of scope pieces) (features_known scope.begins is))
