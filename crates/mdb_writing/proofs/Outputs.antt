-- What is on its way to a writer.
use Rattle.std.proofs.Common.{ap, sym, subst, ◌∙◌, ◌≡◌, ◌-◌, ◌+◌, ◌<◌, ◌≤◌, ℕ, List, [], ◌++◌, Option, Result, Ok, Err, OnErr, OnOk, append-nil, append_assoc, drop, get_or, length, take, take-append-drop}
use Rattle.std.proofs.KnownBytes.{Appends-nil, Appends-trans}
use Rattle.std.proofs.lemmas.List.{flat_map_more, take_all, take_more as one_more_taken, take_rest}
use Rattle.std.proofs.lemmas.List.Concat.{flat_map-append}
use Rattle.std.specs.Io.KnownBytes.{Appends}
use Rattle.std.specs.List.{flat_map}
use Rattle.mdb_writing.specs.Output.{Breaks, Output, Puts, begun, output}
use Rattle.mdb_writing.specs.Written.{HasTaken}

-- so many bytes more are taken of a text
pub taken_more : (text done rest now : List ℕ) (n : ℕ) → text ≡ done ++ rest
    → now ≡ take (length rest - n) (drop n rest) → text ≡ (done ++ take n rest) ++ now
taken_more text done rest now n parts is =
    parts ∙ (ap (λ l. done ++ l) (sym (take-append-drop n rest))
    ∙ (sym (append_assoc done (take n rest) (drop n rest))
    ∙ ap (λ l. (done ++ take n rest) ++ l) (sym (is ∙ take_rest rest n))))

-- A front of a text is one of a longer text.
pub taken_longer : (before after : Option (List ℕ)) (text more : List ℕ)
    → HasTaken before after text → HasTaken before after (text ++ more)
taken_longer before after text more taken = record {
  front = taken.front;
  rest = taken.rest ++ more;
  parts = ap (λ l. l ++ more) taken.parts ∙ append_assoc taken.front taken.rest more;
  grown = taken.grown;
}

-- A text was written, and then a front of another.
pub taken_after : (before now later : Option (List ℕ)) (first second : List ℕ)
    → Appends before now first → HasTaken now later second → HasTaken before later (first ++ second)
taken_after before now later first second written taken = record {
  front = first ++ taken.front;
  rest = taken.rest;
  parts = ap (λ l. first ++ l) taken.parts ∙ sym (append_assoc first taken.front taken.rest);
  grown = Appends-trans before now later first taken.front written taken.grown;
}

-- nothing is put there
pub put_none : (now : Output) → Puts now now []
put_none now =
    record { taken = []; parts = append-nil now.waiting; grown = Appends-nil now.held }

-- What waited is written, and then a text.
pub put_written : (before after : Output) (now : Option (List ℕ)) (text : List ℕ)
    → Appends before.held now before.waiting → Appends now after.held text → after.waiting ≡ []
    → Puts before after text
put_written before after now text first second none = record {
  taken = before.waiting ++ text;
  parts = sym (ap (λ l. (before.waiting ++ text) ++ l) none ∙ append-nil (before.waiting ++ text));
  grown = Appends-trans before.held now after.held before.waiting text first second;
}

-- what was taken of two texts
both_parts : (waiting first taken between second other rest : List ℕ)
    → waiting ++ first ≡ taken ++ between → between ++ second ≡ other ++ rest
    → waiting ++ (first ++ second) ≡ (taken ++ other) ++ rest
both_parts waiting first taken between second other rest one two =
    sym (append_assoc waiting first second)
    ∙ (ap (λ l. l ++ second) one ∙ (append_assoc taken between second
    ∙ (ap (λ l. taken ++ l) two ∙ sym (append_assoc taken other rest))))

-- two texts in turn
pub put_both : (before now later : Output) (first second : List ℕ) → Puts before now first
    → Puts now later second → Puts before later (first ++ second)
put_both before now later first second one two = record {
  taken = one.taken ++ two.taken;
  parts = both_parts before.waiting first one.taken now.waiting second two.taken later.waiting
      one.parts two.parts;
  grown = Appends-trans before.held now.held later.held one.taken two.taken one.grown two.grown;
}

-- the writer fails at the second
pub break_both : (before now later : Output) (first second : List ℕ) → Puts before now first
    → Breaks now later second → Breaks before later (first ++ second)
break_both before now later first second one two = record {
  front = one.taken ++ two.front;
  rest = two.rest;
  parts = both_parts before.waiting first one.taken now.waiting second two.front two.rest
      one.parts two.parts;
  grown = Appends-trans before.held now.held later.held one.taken two.front one.grown two.grown;
}

-- and so it fails at a longer text
pub break_longer : (before later : Output) (text more : List ℕ) → Breaks before later text
    → Breaks before later (text ++ more)
break_longer before later text more broken =
    subst (HasTaken before.held later.held) (append_assoc before.waiting text more)
    (taken_longer before.held later.held (before.waiting ++ text) more broken)

-- An empty page.
pub put_begun : (contents : Option (List ℕ)) (page : List ℕ) → page ≡ []
    → Puts (begun contents) (output contents page) []
put_begun contents page none =
    subst (λ waiting. Puts (begun contents) (output contents waiting) []) (sym none)
    (put_none (begun contents))

-- Of a list, the text of one element more is on its way.
pub put_more : {X : Type 0} (part : X → List ℕ) (before now later : Output) (xs : List X) (i : ℕ)
    (d : X) (text : List ℕ) → i < length xs → Puts before now (flat_map part (take i xs))
    → text ≡ part (get_or xs i d) → Puts now later text
    → Puts before later (flat_map part (take (i + 1) xs))
put_more part before now later xs i d text below so_far is more =
    subst (Puts before later)
    (flat_map_more part [] (take i xs) (get_or xs i d)
    ∙ ap (flat_map part) (sym (one_more_taken xs i d below)))
    (put_both before now later (flat_map part (take i xs)) (part (get_or xs i d)) so_far
    (subst (Puts now later) is more))

-- the writer fails at one
pub break_more : {X : Type 0} (part : X → List ℕ) (before now later : Output) (xs : List X) (i : ℕ)
    (d : X) (text : List ℕ) → i < length xs → Puts before now (flat_map part (take i xs))
    → text ≡ part (get_or xs i d) → Breaks now later text → Breaks before later (flat_map part xs)
break_more part before now later xs i d text below so_far is broken =
    let first : Breaks before later (flat_map part (take i xs) ++ part (get_or xs i d)) =
    break_both before now later (flat_map part (take i xs)) (part (get_or xs i d)) so_far
    (subst (Breaks now later) is broken) in
    let more : List ℕ = flat_map part (drop (i + 1) xs) in
    let whole : flat_map part xs ≡ (flat_map part (take i xs) ++ part (get_or xs i d)) ++ more =
    ap (flat_map part) (sym (take-append-drop (i + 1) xs))
    ∙ (flat_map-append part (take (i + 1) xs) (drop (i + 1) xs)
    ∙ ap (λ l. l ++ more) (sym (flat_map_more part [] (take i xs) (get_or xs i d)
    ∙ ap (flat_map part) (sym (one_more_taken xs i d below))))) in
    subst (Breaks before later) (sym whole) (break_longer before later _ more first)

-- all of them are
pub put_all : {X : Type 0} (part : X → List ℕ) (before now : Output) (xs : List X) (i : ℕ)
    → length xs ≤ i → Puts before now (flat_map part (take i xs))
    → Puts before now (flat_map part xs)
put_all part before now xs i past so_far =
    subst (λ ys. Puts before now (flat_map part ys)) (take_all i xs past) so_far

-- What waits is written at last, or a front of it.
pub written_out : (before later : Option (List ℕ)) (now : Output) (text : List ℕ)
    → Puts (begun before) now text → Appends now.held later now.waiting → Appends before later text
written_out before later now text puts written =
    subst (Appends before later) (sym puts.parts)
    (Appends-trans before now.held later puts.taken now.waiting puts.grown written)

pub broken_out : (before later : Option (List ℕ)) (now : Output) (text : List ℕ)
    → Puts (begun before) now text → HasTaken now.held later now.waiting
    → HasTaken before later text
broken_out before later now text puts taken =
    subst (HasTaken before later) (sym puts.parts)
    (taken_after before now.held later puts.taken now.waiting puts.grown taken)

-- what is known at a success
pub if_ok : {T E : Type 0} (answer : Result T E) (P Q : Type 0) → (P → Q) → OnOk answer P
    → OnOk answer Q
if_ok (Ok done) P Q more holds = more holds
if_ok (Err fault) P Q more holds = tt

pub at_error : {T E : Type 0} (answer : Result T E) (P : Type 0) → P → OnErr answer P
at_error (Ok done) P holds = tt
at_error (Err fault) P holds = holds
