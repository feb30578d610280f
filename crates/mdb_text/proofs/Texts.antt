-- Texts that are written in parts.
use Rattle.mdb_text.proofs.Words.{Appends, Bool, Err, List, Ok, Option, Result, [], append_assoc, codes, devices_text, false, flat_map, flat_map_more, get_or, length, line, line_of_devices, refl, sym, take, take_all, take_more, true, untimely_counts, ℕ, ◌++◌, ◌+◌, ◌<◌, ◌≡◌, ◌≤◌}
use Rattle.std.proofs.KnownBytes.{Appends-trans}
use Rattle.std.specs.Fmt.{decimal}
use Rattle.std.specs.Prelude.{OnOk}
use Rattle.mdb_msgs.specs.declared.device_set.DeviceSet.{DeviceSet}
use Rattle.mdb_msgs.specs.declared.device_set.TheConstants.DeviceSet.{NONE}
use Rattle.mdb_bus.specs.declared.untimely.Untimely.{Untimely}

-- a part after what was written, where it was
pub on_ok : {T E : Type 0} (r : Result T E) (P Q : Type 0) → (P → Q) → OnOk r P → OnOk r Q
on_ok (Ok x) P Q weaker h = weaker h
on_ok (Err e) P Q weaker h = tt

pub then_written : {T E : Type 0} (r : Result T E) (a b c : Option (List ℕ))
    (first second : List ℕ) → Appends a b first → OnOk r (Appends b c second)
    → OnOk r (Appends a c (first ++ second))
then_written r a b c first second written =
    on_ok r _ _ (Appends-trans a b c first second written)

-- a text that is made of a list, with one part more
pub one_part_more : {X : Type 0} (part : X → List ℕ) (a b c : Option (List ℕ)) (head : List ℕ)
    (xs : List X) (i : ℕ) (d : X) (text : List ℕ) → i < length xs
    → Appends a b (head ++ flat_map part (take i xs)) → text ≡ part (get_or xs i d)
    → Appends b c text → Appends a c (head ++ flat_map part (take (i + 1) xs))
one_part_more part a b c head xs i d text below so_far is more =
    rw (take_more xs i d below, ← flat_map_more part head (take i xs) (get_or xs i d))
    (Appends-trans a b c (head ++ flat_map part (take i xs)) (part (get_or xs i d)) so_far
    (rw is at more))

-- and with all of them
pub all_parts : {X : Type 0} (part : X → List ℕ) (a b : Option (List ℕ)) (head : List ℕ)
    (xs : List X) (i : ℕ) → length xs ≤ i
    → Appends a b (head ++ flat_map part (take i xs)) → Appends a b (head ++ flat_map part xs)
all_parts part a b head xs i past so_far = rw (take_all i xs past) at so_far

-- the line of a word and of the devices of a set, where there are some
some_words : (word : List ℕ) (changer bill first second : Bool)
    → let set : DeviceSet =
    record { changer = changer; bill = bill; first_reader = first; second_reader = second } in
    (set ≡ NONE → ⊥) → line_of_devices word (devices_text set) ≡ line (word ++ devices_text set)
some_words word true bill first second some = refl
some_words word false true first second some = refl
some_words word false false true second some = refl
some_words word false false false true some = refl
some_words word false false false false some = absurd (some refl)

pub with_line : (word : List ℕ) (set : DeviceSet) → (set ≡ NONE → ⊥)
    → line (word ++ devices_text set) ≡ line_of_devices word (devices_text set)
with_line word set some =
    sym (some_words word set.changer set.bill set.first_reader set.second_reader some)

pub without_line : (word : List ℕ) (set : DeviceSet) → set ≡ NONE
    → line_of_devices word (devices_text set) ≡ []
without_line word set none = rw none

-- the line of rows out of their time is written in two parts
abbrev pub untimely_first : List ℕ → Untimely → List ℕ
untimely_first word counts =
    word ++ (codes " controller " ++ (decimal counts.controller
    ++ (codes " changer " ++ (decimal counts.changer
    ++ (codes " bill " ++ decimal counts.bill)))))

abbrev pub untimely_second : Untimely → List ℕ
untimely_second counts =
    codes " cashless " ++ (decimal counts.cashless
    ++ (codes " cashless-2 " ++ (decimal counts.cashless2 ++ codes "\n")))

pub untimely_parts : (word : List ℕ) (counts : Untimely)
    → untimely_first word counts ++ untimely_second counts ≡ untimely_counts word counts
untimely_parts word counts = simp append_assoc
