-- Data bytes are a reply to a command, or have a fault.
use Rattle.mdb_msgs.proofs.Words.{◌≡◌, ◌*◌, ◌≤◌, length, cases_eq, cases_lt, IsContent, DataForm, Command, MsgFault, Length, Message, Profile, Answer, Reading, Reply, BillSetup, ChangerSetup, Stacker, TubeStatus, IsByte, is_extended, two_bytes, ◌≢◌, ℕ, ◌+◌, ◌-◌, ◌<◌, ◌⊎◌, inl, inr, Bool, true, false, Option, Some, None, List, [], ◌∷◌, slice_index, All, refl, sym, ap, ◌∙◌, arith, if◌then◌else◌, form_of_reply, reply_bytes, tells_of_sales, HasMessages, IsIn, IsReplyTo, IsReadFault, NoReply, changer_setup_bytes, tube_status_bytes, bill_setup_bytes, stacker_bytes, IsStacker}
use Rattle.mdb_msgs.specs.Answers.{form_of, lengths_of, may_tell_of_sales, IsDataLength}
use Rattle.mdb_msgs.specs.Replies.{HasFields}
use Rattle.mdb_msgs.proofs.ReaderBytes.{pair_bytes}
use Rattle.mdb_msgs.proofs.Recycler.{all_extended}
use Rattle.mdb_msgs.proofs.SomeReading.{changer_reads, bill_reads, reader_reads, within}

-- setup data of the changer, of bytes that are enough
setup_of_changer : (bytes : List ℕ) → All IsByte bytes → 7 ≤ length bytes → (setup : ChangerSetup)
    × (bytes ≡ changer_setup_bytes setup)
setup_of_changer (a ∷ b ∷ c ∷ d ∷ e ∷ f ∷ g ∷ rest) low least =
    let code = pair_bytes b c (low 2 0 (omega arith)) in
    let routing = pair_bytes f g (low 6 0 (omega arith)) in (
      record {
        level = a;
        code = 256 * b + c;
        scaling = d;
        decimals = e;
        routing = 256 * f + g;
        credits = record { items = rest };
      },
      cc,
    )
setup_of_changer bytes low least = absurd (omega arith)

-- the status of its tubes
tubes_of : (bytes : List ℕ) → All IsByte bytes → 2 ≤ length bytes → (status : TubeStatus)
    × (bytes ≡ tube_status_bytes status)
tubes_of (a ∷ b ∷ rest) low least =
    let full = pair_bytes a b (low 1 0 (omega arith)) in
    (record { full = 256 * a + b; counts = record { items = rest } }, cc)
tubes_of bytes low least = absurd (omega arith)

-- setup data of the validator, but for a byte of the escrow that is neither FF nor 00
setup_of_bill : (bytes : List ℕ) → All IsByte bytes → 11 ≤ length bytes
    → ((setup : BillSetup) × (bytes ≡ bill_setup_bytes setup))
    ⊎ ((slice_index bytes 10 ≢ 0) × (slice_index bytes 10 ≢ 255))
setup_of_bill (a ∷ b ∷ c ∷ d ∷ e ∷ f ∷ g ∷ h ∷ i ∷ j ∷ k ∷ rest) low least =
    by (cases_eq k 255) (cases_eq k 0)
  where
    setup : Bool → BillSetup
    setup escrow =
        record {
          level = a;
          code = 256 * b + c;
          scaling = 256 * d + e;
          decimals = f;
          capacity = 256 * g + h;
          security = 256 * i + j;
          escrow = escrow;
          credits = record { items = rest };
        }

    spelled : (escrow : Bool) → k ≡ (if escrow then 255 else 0)
        → a ∷ b ∷ c ∷ d ∷ e ∷ f ∷ g ∷ h ∷ i ∷ j ∷ k ∷ rest ≡ bill_setup_bytes (setup escrow)
    spelled escrow is =
        let code = pair_bytes b c (low 2 0 (omega arith)) in
        let scaling = pair_bytes d e (low 4 0 (omega arith)) in
        let capacity = pair_bytes g h (low 7 0 (omega arith)) in
        let security = pair_bytes i j (low 9 0 (omega arith)) in
        cc

    by : (k ≡ 255) ⊎ (k ≢ 255) → (k ≡ 0) ⊎ (k ≢ 0)
        → ((setup : BillSetup)
        × (a ∷ b ∷ c ∷ d ∷ e ∷ f ∷ g ∷ h ∷ i ∷ j ∷ k ∷ rest ≡ bill_setup_bytes setup))
        ⊎ ((k ≢ 0) × (k ≢ 255))
    by (inl held) other = inl (setup true, spelled true held)
    by (inr missing) (inl none) = inl (setup false, spelled false none)
    by (inr missing) (inr present) = inr (present, missing)
setup_of_bill bytes low least = absurd (omega arith)

-- the stacker's two bytes
stacker_of : (bytes : List ℕ) → All IsByte bytes → length bytes ≡ 2
    → (stacker : Stacker) × IsStacker stacker × (bytes ≡ stacker_bytes stacker)
stacker_of (a ∷ b ∷ []) low two =
    let high : a < 256 = low 0 0 (omega arith) in
    let small : b < 256 = low 1 0 (omega arith) in
    let spelled = pair_bytes a b small in
    elim (cases_lt a 128) [
      | inl less ↦ (record { full = false; count = 256 * a + b }, omega arith, grind arith)
      | inr more ↦
          let number : 256 * a + b ≡ 32768 + (256 * (a - 128) + b) = omega arith in (
            record { full = true; count = 256 * (a - 128) + b },
            omega arith,
            spelled ∙ ap two_bytes number,
          )
    ]
stacker_of bytes low two = absurd (omega arith)

module _ (r : Reading) (bytes : List ℕ) where
  -- bytes are a reply of a form
  record ReadsForm (f : DataForm) : Type 0 where
    reply : Reply
    form : form_of_reply reply ≡ f
    fields : HasFields reply
    is_in : HasMessages r reply
    spelled : bytes ≡ reply_bytes reply

  -- or have a fault
  abbrev InForm : DataForm → Type 0
  InForm f = ReadsForm f ⊎ (NoReply r f bytes Message ⊎ NoReply r f bytes Profile)

  is_read : (answer : Reply) → HasFields answer → HasMessages r answer → bytes ≡ reply_bytes answer
      → InForm (form_of_reply answer)
  is_read answer fields is_in spelled =
      inl (record {
        reply = answer;
        form = refl;
        fields = fields;
        is_in = is_in;
        spelled = spelled;
      })

  reads_form : (f : DataForm) → All IsByte bytes → IsDataLength f (length bytes) → InForm f
  reads_form DataForm.ChangerSetup low count =
      let found = setup_of_changer bytes low count.0 in
      is_read (Reply.ChangerSetup found.0) tt tt found.1
  reads_form DataForm.TubeStatus low count =
      let found = tubes_of bytes low count.0 in is_read (Reply.TubeStatus found.0) tt tt found.1
  reads_form DataForm.ChangerPoll low count =
      elim (changer_reads bytes low) [
        | inl read ↦ is_read (Reply.ChangerPoll (record { items = read.list })) read.messages tt
            read.spelled
        | inr stops ↦ inr stops
      ]
  reads_form DataForm.ChangerIdentification low count =
      is_read (Reply.ChangerIdentification bytes) tt tt refl
  reads_form DataForm.BillSetup low count =
      elim (setup_of_bill bytes low count.0) [
        | inl found ↦ is_read (Reply.BillSetup found.0) tt tt found.1
        | inr none ↦ inr (inl (refl, none.0, none.1))
      ]
  reads_form DataForm.BillPoll low count =
      elim (bill_reads (is_extended r) bytes low) [
        | inl read ↦ is_read (Reply.BillPoll (record { items = read.list }))
            (all_extended (is_extended r) read.list read.messages) read.messages read.spelled
        | inr stops ↦ inr stops
      ]
  reads_form DataForm.Stacker low count =
      let found = stacker_of bytes low (omega (arith, count.0, count.1)) in
      is_read (Reply.Stacker found.0) found.1 tt found.2
  reads_form DataForm.BillIdentification low count =
      is_read (Reply.BillIdentification bytes) tt tt refl
  reads_form DataForm.BillIdentificationWithOptions low count =
      is_read (Reply.BillIdentificationWithOptions bytes) tt tt refl
  reads_form DataForm.Reader low count =
      elim (reader_reads r bytes count.1 low) [
        | inl read ↦ is_read (Reply.Reader read.list) read.is_list read.is_in read.spelled
        | inr stops ↦ inr stops
      ]

-- whether a form allows a number
allowed_or_not : (f : DataForm) (count : ℕ) → IsDataLength f count ⊎ (IsDataLength f count → ⊥)
allowed_or_not f count =
    elim (within count (lengths_of f).0 ((lengths_of f).1 + 1)) [
      | inl is ↦ inl (omega (arith, is.0), omega (arith, is.1))
      | inr other ↦ inr (λ h. other (omega (arith, h.0), omega (arith, h.1)))
    ]

kept_or_not : (extended kept may : Bool)
    → ((extended ≡ false) × (kept ≡ true) × (may ≡ false))
    ⊎ (extended ≡ false → may ≡ false → kept ≡ false)
kept_or_not true kept may = inr (λ h. absurd (cc h))
kept_or_not false true true = inr (λ e h. h)
kept_or_not false true false = inl (refl, refl, refl)
kept_or_not false false may = inr (λ e h. refl)

module _ (r : Reading) (command : Command) (bytes : List ℕ) where
  abbrev Decided : Type 0
  Decided = ((reply : Reply) × IsReplyTo command reply × IsIn r command reply
      × (bytes ≡ reply_bytes reply))
      ⊎ ((fault : MsgFault) × IsReadFault r command bytes fault)

  by_reading : (f : DataForm) → form_of command ≡ Some f → IsDataLength f (length bytes)
      → InForm r bytes f → Decided
  by_reading f e count (inl read) =
      let answer : IsReplyTo command read.reply = record {
        form = e ∙ ap Some (sym read.form);
        count = rw (read.form, ← read.spelled) count;
        fields = read.fields;
      } in
      elim (kept_or_not (is_extended r) (tells_of_sales read.reply) (may_tell_of_sales command)) [
        | inl kept ↦ inr (
          Answer,
          inr (
            read.reply,
            answer,
            read.is_in,
            read.spelled,
            kept.0,
            kept.1,
            kept.2,
          ),
        )
        | inr free ↦ inl (read.reply, answer, (read.is_in, free), read.spelled)
      ]
  by_reading f e count (inr (inl none)) = inr (Message, (f, e, count, none))
  by_reading f e count (inr (inr none)) = inr (Profile, (f, e, count, none))

  by_form : All IsByte bytes → (asked : Option DataForm) → form_of command ≡ asked → Decided
  by_form low None e = inr (Answer, inl e)
  by_form low (Some f) e =
      elim (allowed_or_not f (length bytes)) [
        | inl count ↦ by_reading f e count (reads_form r bytes f low count)
        | inr wrong ↦ inr (Length, (f, e, wrong))
      ]

  pub decided : IsContent bytes → Decided
  decided content = by_form content.in_range (form_of command) refl

-- no form allows less than one byte or more than 35
pub one_to_35 : (f : DataForm) (count : ℕ) → IsDataLength f count → (1 ≤ count) × (count ≤ 35)
one_to_35 DataForm.ChangerSetup count h = (omega (arith, h.0), omega (arith, h.1))
one_to_35 f count h = (omega (arith, h.0), omega (arith, h.1))
