-- Bytes have one reading as a reader's answer.
use Rattle.mdb_msgs.proofs.Words.{◌≡◌, length, result_ok, flat_map, MsgFault, Reading, ReaderMsg, Stand, four_bytes, messages_of, IsNextMessage, StandAsMessages, ℕ, inl, inr, List, [], ◌∷◌, ◌++◌, refl, sym, ap, ◌∙◌, arith, append_assoc, append-nil, length-append, subst, Result, Ok, Err, IfOk, IfErr, IfSome, IsNone, Bor, JustReset, Display, BeginSession, BeginSessionLong, PeripheralId, PeripheralIdWithOptions, TimeAsked, ReaderMessages, head_bytes, text_of, reader_msg_bytes, reader_list_bytes, AreReaderMsgs, IsReaderList, IsReaderMsg, IsTextOf, NoReaderMsg, ReaderStopsAt}
use Rattle.mdb_msgs.proofs.OneReading.{Ends}
use Rattle.mdb_msgs.proofs.ReaderBytes.{next_is, one_message, reads_list}
use Rattle.mdb_msgs.proofs.Readings.{long_bytes, short_bytes}
use Rattle.mdb_msgs.proofs.Standing.{NoEndBefore, one_standing}

module _ (r : Reading) where
  -- where one stands, reading doesn't stop
  goes_on : (id text : List ℕ) (fault : MsgFault) (m : ReaderMsg) (x : List ℕ)
      → IsReaderMsg r id text m x → NoReaderMsg r (reader_msg_bytes id text m ++ x) fault → ⊥
  goes_on id text MsgFault.Message (Display time) x h none =
      grind (arith, ap length h.1, length-append text x)
  goes_on id text MsgFault.Message (BeginSession funds) x h none = grind (arith, short_bytes r h.1)
  goes_on id text MsgFault.Message (BeginSessionLong funds media kind details) x h none =
      grind (arith, long_bytes r h.1)
  goes_on id text MsgFault.Message PeripheralId x h none = grind (arith, length-append id x)
  goes_on id text MsgFault.Message (PeripheralIdWithOptions options) x h none =
      grind (arith, length-append (id ++ four_bytes options) x)
  goes_on id text MsgFault.Profile TimeAsked x h none = grind (arith, h.1)
  goes_on id text MsgFault.Profile m x h none = omega (arith, none.0)
  goes_on id text fault m x h none = grind arith

  ends : (id text : List ℕ)
      → NoEndBefore (reader_msg_bytes id text) (IsReaderMsg r id text) (Ends (NoReaderMsg r))
  ends id text m x h (inl e) = some m e
    where
      some : (m : ReaderMsg) → reader_msg_bytes id text m ++ x ≡ [] → ⊥
      some JustReset e = cc
      some m e = cc
  ends id text m x h (inr none) = goes_on id text none.0 m x h none.1

  -- two lists of messages with the same bytes before an end are one
  one_stand : (id text other words : List ℕ) (xs ys : List ReaderMsg) (p q : List ℕ)
      → Stand (reader_msg_bytes id text) (IsReaderMsg r id text) xs p
      → Stand (reader_msg_bytes other words) (IsReaderMsg r other words) ys q
      → flat_map (reader_msg_bytes id text) xs ++ p
      ≡ flat_map (reader_msg_bytes other words) ys ++ q
      → Ends (NoReaderMsg r) p → Ends (NoReaderMsg r) q → (xs ≡ ys) × (p ≡ q)
  one_stand id text other words =
      one_standing (reader_msg_bytes id text) (reader_msg_bytes other words)
      (IsReaderMsg r id text) (IsReaderMsg r other words) (Ends (NoReaderMsg r))
      (λ a b x y h k e. let s = text_of id text a in let t = text_of other words b in
      let same = one_message r a b s t x y h k
      (sym (append_assoc (head_bytes a) s x) ∙ e ∙ append_assoc (head_bytes b) t y) in
      (same.0, same.2))
      (ends id text) (ends other words)

  -- two answers of a reader in one reading with the same bytes are one
  pub one_reader_list : (a b : ReaderMessages) → IsReaderList a → IsReaderList b
      → AreReaderMsgs r a [] → AreReaderMsgs r b [] → reader_list_bytes a ≡ reader_list_bytes b
      → a ≡ b
  one_reader_list a b ha hb ia ib e =
      sym (reads_list r a ia ha) ∙ ap (messages_of r) e ∙ reads_list r b ib hb

  -- an answer isn't one where reading stops
  pub reader_no_stop : (a : ReaderMessages) (fault : MsgFault) → AreReaderMsgs r a []
      → ReaderStopsAt r (reader_list_bytes a) fault → ⊥
  reader_no_stop a fault stand stop =
      let one = one_stand a.id a.text stop.0 [] a.messages stop.1.0 [] stop.1.1 stand stop.1.2
      (append-nil (reader_list_bytes a) ∙ stop.1.3) (inl refl) (inr (fault, stop.1.4)) in
      nothing fault (rw (← one.1) at stop.1.4)
    where
      nothing : (fault : MsgFault) → NoReaderMsg r [] fault → ⊥
      nothing MsgFault.Message h = h
      nothing fault h = h

  module _ {bytes : List ℕ} {first : ℕ} {further : List ℕ} (stand : StandAsMessages r bytes)
      (e : bytes ≡ first ∷ further) where
    abbrev NextRead : Type 0
    NextRead = Result (ReaderMsg × Bor (List ℕ) × Bor (List ℕ)) MsgFault

    -- so what stands after an index is read: the next message, or none where nothing is left
    pub next_found : (read : NextRead)
        → IfOk read (λ x. first ∷ further ≡ head_bytes x.0 ++ x.1.now ++ x.2.now)
        → IfOk read (λ x. IsTextOf r x.0 x.1.now x.2.now)
        → IfSome (result_ok read) (λ x. IsNextMessage r bytes x.0 x.1.now x.2.now)
    next_found (Ok x) spelled is_text = next_is r bytes x.0 x.1.now x.2.now stand
        (e ∙ spelled ∙ append_assoc (head_bytes x.0) x.1.now x.2.now) is_text
    next_found (Err fault) spelled is_text = tt

    pub never_none : (read : NextRead) → IfErr read (NoReaderMsg r (first ∷ further))
        → IsNone (result_ok read) → ⊥
    never_none (Ok x) fault none = cc none
    never_none (Err a) fault none = reader_no_stop stand.list a stand.stand
        (subst (λ x. ReaderStopsAt r x a) stand.spelled ([], ([], bytes, tt, refl, rw e fault)))

  -- reading stops at one place, with one fault
  alike : (rest : List ℕ) (a b : MsgFault) → NoReaderMsg r rest a → NoReaderMsg r rest b → a ≡ b
  alike (first ∷ further) MsgFault.Message MsgFault.Message h k = refl
  alike (first ∷ further) MsgFault.Profile MsgFault.Profile h k = refl
  alike rest a b h k = absurd (omega arith)

  pub one_reader_stop : (bytes : List ℕ) (a b : MsgFault) → ReaderStopsAt r bytes a
      → ReaderStopsAt r bytes b → a ≡ b
  one_reader_stop bytes a b h k =
      let fronts = one_stand h.0 [] k.0 [] h.1.0 k.1.0 h.1.1 k.1.1 h.1.2 k.1.2 (sym h.1.3 ∙ k.1.3)
      (inr (a, h.1.4)) (inr (b, k.1.4)) in
      alike k.1.1 a b (subst (λ x. NoReaderMsg r x a) fronts.1 h.1.4) k.1.4
