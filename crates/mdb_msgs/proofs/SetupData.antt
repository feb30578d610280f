-- Setup data, as they are read.
use Rattle.mdb_msgs.proofs.Words.{◌≡◌, Command, Device, ReaderUnit, MsgFault, Length, Answer, Reply, base, early, early_long, SpellsReply, ap, refl, subst, sym, true, false, inl, inr, ◌∙◌, ℕ, Bool, List, Option, Some, None, option_map, option_or, IsIn, IsReadFault, reply_bytes, IsSetup, IsSetupOf, known_with, leveled, IsToldAs, ReaderCommand}
use Rattle.std.proofs.lemmas.Option.{same_Some}
use Rattle.mdb_msgs.specs.declared.command.Device.TheVariants.{Changer, Bill, Reader}
use Rattle.mdb_msgs.specs.declared.setups.Setups.{Setups}
use Rattle.mdb_msgs.specs.inner.SetupAsked.{setup_of}
use Rattle.mdb_msgs.proofs.OneReply.{one_content, one_reply, reply_has_no_fault}

-- what a reader is told with the command is irrelevant
module _ (unit : ReaderUnit) (level columns rows display : ℕ) where
  abbrev Config : Command
  Config = Command.Reader unit (ReaderCommand.SetupConfig level columns rows display)

  fault_so : (bytes : List ℕ) (fault : MsgFault) → IsReadFault early Config bytes fault
      → IsReadFault early (setup_of (Reader unit)) bytes fault
  fault_so bytes Answer (inl none) = inl none
  fault_so bytes Answer (inr kept) = let extended = kept.4 in absurd (cc extended)
  fault_so bytes Length bad = bad
  fault_so bytes fault bad = bad

  told_so : (extended : Bool) (answer : Reply) → IsToldAs extended Config answer
      → IsToldAs extended (setup_of (Reader unit)) answer
  told_so false answer reads = reads
  told_so true answer (inl reads) = inl reads
  told_so true answer (inr reads) =
      inr (reads.0, reads.1, fault_so (reply_bytes answer) reads.1 reads.2)

  answers_so : (answer : Reply) (bytes : List ℕ) → SpellsReply Config answer bytes
      → SpellsReply (setup_of (Reader unit)) answer bytes
  answers_so answer bytes so = record {
    answers = record {
      form = so.answers.form;
      count = so.answers.count;
      fields = so.answers.fields;
    };
    bytes = so.bytes;
  }

module _ (extended : Bool) (device : Device) (bytes : List ℕ) (before : Setups) {after : Setups}
    (is : IsSetupOf extended device bytes before after) where
  abbrev Told : Command → Type 0
  Told asked = SpellsReply asked is.answer bytes × IsToldAs extended asked is.answer

  told_of : Told (setup_of device)
  told_of = by device is.asked is.asks (is.spells, is.reading)
    where
      by : (device : Device) (asked : Command) → IsSetup device asked → Told asked
          → Told (setup_of device)
      by (Reader unit) asked (level, columns, rows, display, same) told =
          let config : Told (Config unit level columns rows display) = subst Told same told in (
            answers_so unit level columns rows display is.answer bytes config.0,
            told_so unit level columns rows display extended is.answer config.1,
          )
      by Changer asked same told = subst Told same told
      by Bill asked same told = subst Told same told

-- a told answer is one reply
module _ (asked : Command) (block : List ℕ) (one other : Reply)
    (spells : SpellsReply asked one block) (too : SpellsReply asked other block) where
  -- a block that is read as of level 1 has no fault in that
  no_fault : (fault : MsgFault) → IsIn early asked one
      → IsReadFault early asked (reply_bytes other) fault → ⊥
  no_fault fault is bad = reply_has_no_fault early asked one fault spells.answers is
      (subst (λ bytes. IsReadFault early asked bytes fault)
      (one_content _ _ (sym too.bytes ∙ spells.bytes)) bad)

one_told : (extended : Bool) (asked : Command) (block : List ℕ) (one other : Reply)
    → SpellsReply asked one block → SpellsReply asked other block → IsToldAs extended asked one
    → IsToldAs extended asked other → one ≡ other
one_told false asked block one other spells too is also =
    one_reply base asked block one other is also spells too
one_told true asked block one other spells too (inl is) (inl also) =
    one_reply early asked block one other is also spells too
one_told true asked block one other spells too (inl is) (inr also) =
    absurd (no_fault asked block one other spells too also.1 is also.2)
one_told true asked block one other spells too (inr is) (inl also) =
    absurd (no_fault asked block other one too spells is.1 also is.2)
one_told true asked block one other spells too (inr is) (inr also) =
    one_reply early_long asked block one other is.0 also.0 spells too

-- what is known with an answer
abbrev pub told_by : Device → Setups → Reply → Option Setups
told_by device before answer = option_map (leveled device answer) (known_with before device answer)

-- one thing is known with it
pub one_setup : (extended : Bool) (device : Device) (bytes : List ℕ) (before a b : Setups)
    → IsSetupOf extended device bytes before a → IsSetupOf extended device bytes before b → a ≡ b
one_setup extended device bytes before a b is_a is_b =
    let answer : is_a.answer ≡ is_b.answer =
    let one = told_of extended device bytes before is_a in
    let other = told_of extended device bytes before is_b in
    one_told extended (setup_of device) bytes is_a.answer is_b.answer one.0 other.0 one.1 other.1 in
    same_Some a b (sym is_a.told ∙ ap (told_by device before) answer ∙ is_b.told)

module _ (extended : Bool) (device : Device) (bytes : List ℕ) (before : Setups) (asked : Command)
    (asks : asked ≡ setup_of device) (read : Option Reply)
    (only : (answer : Reply) → SpellsReply asked answer bytes → IsToldAs extended asked answer
    → read ≡ Some answer) where
  reads : (after : Setups) (is : IsSetupOf extended device bytes before after)
      → read ≡ Some is.answer
  reads after is =
      let told = subst (Told extended device bytes before is) (sym asks)
      (told_of extended device bytes before is) in
      only is.answer told.0 told.1

  pub learns : (reply : Reply) → read ≡ Some reply → (added : Bool)
      → (added ≡ false → known_with before device reply ≡ None)
      → (after : Setups) → IsSetupOf extended device bytes before after → added ≡ true
  learns reply found true untold after is = refl
  learns reply found false untold after is =
      let same = same_Some reply is.answer (sym found ∙ reads after is) in
      absurd (cc (
        ap (option_map (leveled device reply)) (untold refl),
        ap (told_by device before) same ∙ is.told,
      ))

  pub learns_none : read ≡ None → (after : Setups)
      → IsSetupOf extended device bytes before after → false ≡ true
  learns_none found after is = absurd (cc (found, reads after is))

-- of three the first goes before the second, and this before the third
pub or_assoc : {X : Type 0} (a b c : Option X)
    → option_or (option_or a b) c ≡ option_or a (option_or b c)
or_assoc None b c = refl
or_assoc (Some x) b c = refl

pub or_none : {X : Type 0} (a : Option X) → option_or a None ≡ a
or_none None = refl
or_none (Some x) = refl
