-- For a command, bytes have one reply or one fault.
use Rattle.mdb_msgs.proofs.Words.{◌≡◌, length, block_of, DataForm, Command, MsgFault, Reading, Reply, BillSetup, ChangerSetup, Stacker, TubeStatus, is_extended, SpellsReply, ◌≢◌, ℕ, ◌+◌, ◌/◌, ◌%◌, ◌<◌, inl, inr, if◌then◌else◌, Bool, true, false, Some, Result, Ok, Err, IfOk, IfErr, List, [], ◌∷◌, ◌++◌, refl, sym, ap, ◌∙◌, arith, length-append, subst, sum, form_of_reply, reply_bytes, HasMessages, IsIn, tells_of_sales, IsReplyTo, NoReply, IsNoReplyTo, IsReadFault, changer_setup_bytes, tube_status_bytes, bill_setup_bytes, stacker_bytes, IsStacker}
use Rattle.mdb_msgs.specs.Replies.{HasFields}
use Rattle.mdb_msgs.proofs.OneReader.{one_reader_list, reader_no_stop, one_reader_stop}
use Rattle.mdb_msgs.proofs.ReaderBytes.{same_fronts}
use Rattle.mdb_msgs.proofs.OneReading.{bill_way, changer_way, no_stop, one_list, one_stop}

-- a number is told by its two bytes
same_number : (a b : ℕ) → a / 256 ≡ b / 256 → a % 256 ≡ b % 256 → a ≡ b
same_number a b e d = omega arith

same_changer_setup : (a b : ChangerSetup) → changer_setup_bytes a ≡ changer_setup_bytes b → a ≡ b
same_changer_setup a b e =
    let code = same_number a.code b.code (cc) (cc) in
    let routing = same_number a.routing b.routing (cc) (cc) in
    let same : record a { credits = record { items = a.credits.items } }
    ≡ record b { credits = record { items = b.credits.items } } = cc in
    same

same_tube_status : (a b : TubeStatus) → tube_status_bytes a ≡ tube_status_bytes b → a ≡ b
same_tube_status a b e =
    let full = same_number a.full b.full (cc) (cc) in
    let same : record a { counts = record { items = a.counts.items } }
    ≡ record b { counts = record { items = b.counts.items } } = cc in
    same

same_bill_setup : (a b : BillSetup) → bill_setup_bytes a ≡ bill_setup_bytes b → a ≡ b
same_bill_setup a b e =
    let code = same_number a.code b.code (cc) (cc) in
    let scaling = same_number a.scaling b.scaling (cc) (cc) in
    let capacity = same_number a.capacity b.capacity (cc) (cc) in
    let security = same_number a.security b.security (cc) (cc) in
    let escrow = same_escrow a.escrow b.escrow (cc) in
    let same : record a { credits = record { items = a.credits.items } }
    ≡ record b { credits = record { items = b.credits.items } } = cc in
    same
  where
    same_escrow : (a b : Bool) → ◌≡◌ {A = ℕ} (if a then 255 else 0) (if b then 255 else 0) → a ≡ b
    same_escrow true false e = absurd (omega arith)
    same_escrow false true e = absurd (omega arith)
    same_escrow true true e = refl
    same_escrow false false e = refl

same_stacker : (a b : Stacker) → IsStacker a → IsStacker b → stacker_bytes a ≡ stacker_bytes b
    → a ≡ b
same_stacker a b ha hb e =
    let parts = same_full a.full b.full ha hb (same_number _ _ (cc) (cc)) in
    let same : record a { full = a.full } ≡ record b { full = b.full } = cc (parts.0, parts.1) in
    same
  where
    same_full : (a b : Bool) {m n : ℕ} → m < 32768 → n < 32768
        → (if a then 32768 else 0) + m ≡ (if b then 32768 else 0) + n → (a ≡ b) × (m ≡ n)
    same_full true false l k e = absurd (omega arith)
    same_full false true l k e = absurd (omega arith)
    same_full true true l k e = (refl, omega arith)
    same_full false false l k e = (refl, omega arith)

-- a block has one content
pub one_content : (a b : List ℕ) → block_of a ≡ block_of b → a ≡ b
one_content a b e =
    let left = length-append a ((sum a % 256) ∷ []) in
    let right = length-append b ((sum b % 256) ∷ []) in
    let long : length (block_of a) ≡ length (block_of b) = ap length e in
    (same_fronts a b ((sum a % 256) ∷ []) ((sum b % 256) ∷ []) (omega arith) e).0

-- what reading a block found, it spells
pub found_reply : (command : Command) (block content : List ℕ) (result : Result Reply MsgFault)
    → block ≡ block_of content → IfOk result (IsReplyTo command)
    → IfOk result (λ found. content ≡ reply_bytes found)
    → IfOk result (λ found. SpellsReply command found block)
found_reply command block content (Ok found) e is spelled =
    record { answers = is; bytes = e ∙ ap block_of spelled }
found_reply command block content (Err a) e is spelled = spelled

module _ (r : Reading) where
  -- of one form, two replies with the same bytes are one
  same_reply : (a b : Reply) → form_of_reply a ≡ form_of_reply b → HasFields a → HasFields b
      → HasMessages r a → HasMessages r b → reply_bytes a ≡ reply_bytes b → a ≡ b
  same_reply (Reply.ChangerSetup a) (Reply.ChangerSetup b) f ha hb ia ib e =
      ap Reply.ChangerSetup (same_changer_setup a b e)
  same_reply (Reply.TubeStatus a) (Reply.TubeStatus b) f ha hb ia ib e =
      ap Reply.TubeStatus (same_tube_status a b e)
  same_reply (Reply.ChangerPoll a) (Reply.ChangerPoll b) f ha hb ia ib e =
      ap (λ x. Reply.ChangerPoll (record { items = x })) (one_list changer_way a.items b.items [] []
      ha hb (ap (λ x. x ++ []) e) (inl refl) (inl refl)).0
  same_reply (Reply.ChangerIdentification a) (Reply.ChangerIdentification b) f ha hb ia ib e = cc
  same_reply (Reply.BillSetup a) (Reply.BillSetup b) f ha hb ia ib e =
      ap Reply.BillSetup (same_bill_setup a b e)
  same_reply (Reply.BillPoll a) (Reply.BillPoll b) f ha hb ia ib e =
      ap (λ x. Reply.BillPoll (record { items = x })) (one_list (bill_way (is_extended r)) a.items
      b.items [] [] ia ib (ap (λ x. x ++ []) e) (inl refl) (inl refl)).0
  same_reply (Reply.Stacker a) (Reply.Stacker b) f ha hb ia ib e =
      ap Reply.Stacker (same_stacker a b ha hb e)
  same_reply (Reply.Reader a) (Reply.Reader b) f ha hb ia ib e =
      ap Reply.Reader (one_reader_list r a b ha hb ia ib e)
  same_reply (Reply.BillIdentification a) (Reply.BillIdentification b) f ha hb ia ib e = cc
  same_reply (Reply.BillIdentificationWithOptions a) (Reply.BillIdentificationWithOptions b) f ha hb
      ia ib e = cc
  same_reply a b f ha hb ia ib e = cc

  escrow_byte : (b : Bool) → ◌≢◌ {A = ℕ} (if b then 255 else 0) 0
      → ◌≢◌ {A = ℕ} (if b then 255 else 0) 255 → ⊥
  escrow_byte true h k = k refl
  escrow_byte false h k = h refl

  -- a reply's bytes are a reply of its form
  reply_is_one : (a : Reply) (fault : MsgFault) → HasFields a → HasMessages r a
      → NoReply r (form_of_reply a) (reply_bytes a) fault → ⊥
  reply_is_one (Reply.ChangerPoll a) fault h is none = no_stop changer_way a.items fault h none
  reply_is_one (Reply.BillPoll a) fault h is none =
      no_stop (bill_way (is_extended r)) a.items fault is none
  reply_is_one (Reply.Reader a) fault h is none = reader_no_stop r a fault is none
  reply_is_one (Reply.BillSetup a) fault h is none = escrow_byte a.escrow none.1 none.2
  reply_is_one a fault h is none = none

  -- of one form, bytes have one fault
  one_form_fault : (f : DataForm) (bytes : List ℕ) (a b : MsgFault) → NoReply r f bytes a
      → NoReply r f bytes b → a ≡ b
  one_form_fault DataForm.ChangerPoll bytes a b h k = one_stop changer_way bytes a b h k
  one_form_fault DataForm.BillPoll bytes a b h k = one_stop (bill_way (is_extended r)) bytes a b h k
  one_form_fault DataForm.Reader bytes a b h k = one_reader_stop r bytes a b h k
  one_form_fault DataForm.BillSetup bytes a b h k = h.0 ∙ sym k.0
  one_form_fault _ bytes a b h k = absurd h

  module _ (command : Command) where
    -- for a command, two replies with the same bytes are one
    pub one_answer : (a b : Reply) → IsReplyTo command a → IsReplyTo command b → HasMessages r a
        → HasMessages r b → reply_bytes a ≡ reply_bytes b → a ≡ b
    one_answer a b ha hb ia ib e =
        same_reply a b (cc (ha.form, hb.form)) ha.fields hb.fields ia ib e

    answer_is_one : (a : Reply) (fault : MsgFault) → IsReplyTo command a → HasMessages r a
        → IsNoReplyTo r command (reply_bytes a) fault → ⊥
    answer_is_one a fault h is none =
        let same : none.0 ≡ form_of_reply a = cc (none.1, h.form) in
        reply_is_one a fault h.fields is (rw same at none.3)

    -- what may answer a command can be read
    pub reply_has_no_fault : (a : Reply) (fault : MsgFault) → IsReplyTo command a
        → IsIn r command a → IsReadFault r command (reply_bytes a) fault → ⊥
    reply_has_no_fault a MsgFault.Length h is none =
        let same : none.0 ≡ form_of_reply a = cc (none.1, h.form) in
        none.2 (rw same h.count)
    reply_has_no_fault a MsgFault.Answer h is (inl none) = let form = h.form in cc (none, form)
    reply_has_no_fault a MsgFault.Answer h is (inr kept) =
        let same : a ≡ kept.0 = one_answer a kept.0 h kept.1 is.0 kept.2 kept.3 in
        let none : tells_of_sales a ≡ false = is.1 kept.4 kept.6 in
        cc (ap tells_of_sales same ∙ kept.5, none)
    reply_has_no_fault a fault h is none = answer_is_one a fault h is.0 none

    module _ (bytes : List ℕ) where
      one_no_reply : (a b : MsgFault) → IsNoReplyTo r command bytes a
          → IsNoReplyTo r command bytes b → a ≡ b
      one_no_reply a b h k =
          let same : h.0 ≡ k.0 = cc (h.1, k.1) in
          one_form_fault k.0 bytes a b (subst (λ f. NoReply r f bytes a) same h.3) k.3

      -- a wrong length is the one fault
      length_alone : (fault : MsgFault) → IsReadFault r command bytes MsgFault.Length
          → IsNoReplyTo r command bytes fault → ⊥
      length_alone fault h k =
          let same : h.0 ≡ k.0 = cc (h.1, k.1) in h.2 (rw same k.2)

      length_or_answer : IsReadFault r command bytes MsgFault.Length
          → IsReadFault r command bytes MsgFault.Answer → ⊥
      length_or_answer h (inl none) = let form = h.1 in cc (none, form)
      length_or_answer h (inr kept) =
          let same : h.0 ≡ form_of_reply kept.0 = cc (h.1, kept.1.form) in
          h.2 (rw (same, kept.3) kept.1.count)

      message_or_answer : (fault : MsgFault) → IsNoReplyTo r command bytes fault
          → IsReadFault r command bytes MsgFault.Answer → ⊥
      message_or_answer fault h (inl none) = let form = h.1 in cc (none, form)
      message_or_answer fault h (inr kept) =
          answer_is_one kept.0 fault kept.1 kept.2
          (subst (λ x. IsNoReplyTo r command x fault) kept.3 h)

      -- bytes have one fault
      pub one_read_fault : (a b : MsgFault) → IsReadFault r command bytes a
          → IsReadFault r command bytes b → a ≡ b
      one_read_fault MsgFault.Length MsgFault.Length h k = refl
      one_read_fault MsgFault.Answer MsgFault.Answer h k = refl
      one_read_fault MsgFault.Length b h k = absurd (search (length_or_answer, length_alone))
      one_read_fault MsgFault.Answer b h k = absurd (search (length_or_answer, message_or_answer))
      one_read_fault a MsgFault.Length h k = absurd (length_alone a k h)
      one_read_fault a MsgFault.Answer h k = absurd (message_or_answer a h k)
      one_read_fault a b h k = one_no_reply a b h k

    -- for a command, a block has one reply
    pub one_reply : (block : List ℕ) (a b : Reply) → IsIn r command a → IsIn r command b
        → SpellsReply command a block → SpellsReply command b block → a ≡ b
    one_reply block a b ia ib h k = one_answer a b h.answers k.answers ia.0 ib.0
        (one_content _ _ (sym h.bytes ∙ k.bytes))

    -- bytes are read as the only reply that they are
    pub only_content : (content : List ℕ) (result : Result Reply MsgFault)
        → IfOk result (IsReplyTo command) → IfOk result (IsIn r command)
        → IfOk result (λ found. content ≡ reply_bytes found)
        → IfErr result (IsReadFault r command content) → (other : Reply) → IsReplyTo command other
        → IsIn r command other → content ≡ reply_bytes other → result ≡ Ok other
    only_content content (Ok found) is in_it spelled fault other to in_too same =
        ap Ok (one_answer found other is to in_it.0 in_too.0 (sym spelled ∙ same))
    only_content content (Err a) is in_it spelled fault other to in_too same =
        absurd (reply_has_no_fault other a to in_too
        (subst (λ x. IsReadFault r command x a) same fault))

    -- and with the only fault that they have
    pub only_fault : (content : List ℕ) (result : Result Reply MsgFault)
        → IfOk result (IsReplyTo command) → IfOk result (IsIn r command)
        → IfOk result (λ found. content ≡ reply_bytes found)
        → IfErr result (IsReadFault r command content) → (b : MsgFault)
        → IsReadFault r command content b → result ≡ Err b
    only_fault content (Ok found) is in_it spelled fault b h = absurd (reply_has_no_fault found b
        is in_it (subst (λ x. IsReadFault r command x b) spelled h))
    only_fault content (Err a) is in_it spelled fault b h =
        ap Err (one_read_fault content a b fault h)

    -- the fault in reading a block is that of its content, which is one
    pub read_fault : (block content : List ℕ) → block ≡ block_of content
        → (result : Result Reply MsgFault) → IfErr result (IsReadFault r command content)
        → IfErr result (λ fault. (other : List ℕ) → block ≡ block_of other
        → IsReadFault r command other fault)
    read_fault block content e (Ok found) fault = fault
    read_fault block content e (Err a) fault = λ other d.
        subst (λ x. IsReadFault r command x a) (one_content content other (sym e ∙ d)) fault
