-- The bytes of a reader's answer are read as the answer.
use Rattle.mdb_msgs.proofs.Words.{◌≡◌, ◌*◌, ◌≤◌, length, take, replicate, flat_map, list_any, two_bytes, four_bytes, Ids, Reading, ReaderMsg, allows, takes_options, Stand, no_messages, messages_of, StandAsMessages, IsNextMessage, ℕ, zero, suc, ◌+◌, ◌/◌, ◌%◌, ◌<◌, ◌⊎◌, inl, inr, if◌then◌else◌, Bool, true, false, List, get_or, [], ◌∷◌, ◌++◌, drop, slice_index_or, Fits, w8, refl, sym, ap, ◌∙◌, arith, ap₂, append_assoc, append-nil, length-append, subst, append_cancel_left, drop-append-le, drop-take, get_or-drop, length-drop, length-take-le, take_all, JustReset, Config, Display, BeginSession, BeginSessionLong, VendApproved, PeripheralId, PeripheralIdWithOptions, OutOfSequence, OutOfSequenceIn, ReaderMessages, head_bytes, is_display, is_id, reading_of, text_of, reader_msg_bytes, reader_list_bytes, AreReaderMsgs, IsReaderList, IsReaderMsg, IsTextOf, front_id, front_session, out_of, front_text, before_messages, AreMessages}
use Rattle.std.proofs.Math.Seq.{drop-append_seam, take-append_seam}
use Rattle.mdb_msgs.specs.ReaderBytes.{number_at, long_number_at, front_message, messages_in}

-- numbers are told by their bytes
whole : (n : ℕ) → 256 * (n / 256) + n % 256 ≡ n
whole n = omega arith

whole_long : (n : ℕ) → 65536 * (256 * (n / 65536 / 256) + (n / 65536) % 256)
    + (256 * (n % 65536 / 256) + (n % 65536) % 256) ≡ n
whole_long n = omega arith

bare_out : (b : Bool) (x : List ℕ) → (b ≡ false) ⊎ (x ≡ []) → out_of b x ≡ OutOfSequence
bare_out false x h = refl
bare_out true x (inl short) = absurd (cc)
bare_out true x (inr none) = ap (out_of true) none

-- an identification without options, and with options
bare_id : (ids : Ids) (text x : List ℕ) → length text ≡ 29 → takes_options ids x ≡ false
    → front_id ids (9 ∷ (text ++ x)) ≡ PeripheralId
bare_id ids text x l bare =
    let same : drop 29 (text ++ x) ≡ x = rw (← l) (drop-append_seam text x) in
    ap (λ b. if b then PeripheralIdWithOptions (long_number_at (9 ∷ (text ++ x)) 30)
    else PeripheralId) (ap (takes_options ids) same ∙ bare)

full_id : (ids : Ids) (text x : List ℕ) (options : ℕ) → length text ≡ 33
    → drop 29 text ≡ four_bytes options → allows ids (options / 65536 / 256) ≡ true
    → front_id ids (9 ∷ (text ++ x)) ≡ PeripheralIdWithOptions options
unfolding long_number_at number_at
full_id ids text x options l e allowed =
    let same : drop 29 (text ++ x) ≡ four_bytes options ++ x =
    drop-append-le 29 text x (omega arith) ∙ ap (λ t. t ++ x) e in
    let at : (i : ℕ) → get_or (text ++ x) (29 + i) 0 ≡ get_or (four_bytes options ++ x) i 0 =
    λ i. sym (get_or-drop 29 (text ++ x) i 0) ∙ ap (λ t. get_or t i 0) same in
    let options_at : long_number_at (9 ∷ (text ++ x)) 30 ≡ options =
    cc (at 0, at 1, at 2, at 3, whole_long options) in
    ap (λ b. if b then PeripheralIdWithOptions (long_number_at (9 ∷ (text ++ x)) 30)
    else PeripheralId) (ap (takes_options ids) same ∙ allowed)
    ∙ ap PeripheralIdWithOptions options_at

-- two bytes are those of their number
pub pair_bytes : (high low : ℕ) → low < 256 → high ∷ low ∷ [] ≡ two_bytes (256 * high + low)
pair_bytes high low small =
    let first : high ≡ (256 * high + low) / 256 = omega arith in
    let second : low ≡ (256 * high + low) % 256 = omega arith in
    cc

pub four : (a b c d : ℕ) → b < 256 → c < 256 → d < 256
    → a ∷ b ∷ c ∷ d ∷ [] ≡ four_bytes (65536 * (256 * a + b) + (256 * c + d))
four a b c d b_small c_small d_small =
    let first : 256 * a + b ≡ (65536 * (256 * a + b) + (256 * c + d)) / 65536 = omega arith in
    let second : 256 * c + d ≡ (65536 * (256 * a + b) + (256 * c + d)) % 65536 = omega arith in
    cc (pair_bytes a b b_small, pair_bytes c d d_small)

-- an identification with options, where four bytes stand behind the first 30 that are allowed
pub text_with_options : (r : Reading) (further : List ℕ) (a b c d : ℕ) (rest : List ℕ) (options : ℕ)
    → drop 29 further ≡ a ∷ b ∷ c ∷ d ∷ rest → b < 256 → c < 256 → d < 256
    → options ≡ 65536 * (256 * a + b) + (256 * c + d) → allows r.ids a ≡ true
    → IsTextOf r (PeripheralIdWithOptions options) (take 33 further) (drop 33 further)
text_with_options r further a b c d rest options e b_small c_small d_small is allowed =
    let next : a ≡ options / 65536 / 256 = omega arith in (
      length-take-le 33 further (omega (arith, ap length e, length-drop 29 further)),
      drop-take 29 4 further ∙ ap (take 4) e ∙ four a b c d b_small c_small d_small
          ∙ ap four_bytes (sym is),
      rw (← next) allowed,
    )

-- the same of bytes that are read
pub read_options : (r : Reading) (further after text : List ℕ) (options : ℕ)
    → ((i : ℕ) → Fits w8 (slice_index_or further i 0)) → after ≡ drop 29 further
    → 4 ≤ length after → text ≡ take 33 further
    → options ≡ 65536 * (256 * slice_index_or after 0 0 + slice_index_or after 1 0)
    + (256 * slice_index_or after 2 0 + slice_index_or after 3 0)
    → allows r.ids (slice_index_or after 0 0) ≡ true
    → IsTextOf r (PeripheralIdWithOptions options) text (drop 33 further)
read_options r further (a ∷ b ∷ c ∷ d ∷ rest) text options bytes is long front e allowed =
    let same : (i : ℕ) → get_or (a ∷ b ∷ c ∷ d ∷ rest) i 0 ≡ get_or further (29 + i) 0 =
    λ i. ap (λ l. get_or l i 0) is ∙ get_or-drop 29 further i 0 in
    rw front (text_with_options r further a b c d rest options (sym is)
    (omega (arith, bytes 30, same 1)) (omega (arith, bytes 31, same 2))
    (omega (arith, bytes 32, same 3)) e allowed)
read_options r further after text options bytes is long front e allowed = absurd (omega arith)

-- a message that is no identification and no display request has no text
pub no_text : (r : Reading) (m : ReaderMsg) (text x : List ℕ) → is_id m ≡ false
    → is_display m ≡ false → IsTextOf r m text x → text ≡ []
no_text r PeripheralId text x i d h = absurd (cc)
no_text r m text x i d h = grind arith

-- lists of one length are the same where they begin the same bytes
pub same_fronts : (s t x y : List ℕ) → length s ≡ length t → s ++ x ≡ t ++ y → (s ≡ t) × (x ≡ y)
same_fronts s t x y l e =
    let same : s ≡ t = sym (take-append_seam s x) ∙ ap₂ take l e ∙ take-append_seam t y in
    (same, append_cancel_left t x y (rw same at e))

pub head_counts : (m : ReaderMsg) → 0 < length (head_bytes m)
head_counts JustReset = omega arith
head_counts m = omega arith

-- an identification has 29 bytes
id_text : (r : Reading) (m : ReaderMsg) (text rest : List ℕ) → IsTextOf r m text rest
    → is_id m ≡ true → 29 ≤ length text
id_text r PeripheralId text rest is h = omega arith
id_text r (PeripheralIdWithOptions options) text rest is h = omega arith
id_text r m text rest is h = absurd (cc)

module _ (r : Reading) where
  -- the message in front is found
  pub front_found : (m : ReaderMsg) (text x : List ℕ) → IsTextOf r m text x
      → front_message r (head_bytes m ++ (text ++ x)) ≡ m
  unfolding front_message number_at long_number_at
  front_found (Config level code scale decimals response options) text x h =
      ap (λ n. Config level n scale decimals response options) (whole code)
  front_found (BeginSession funds) text x h =
      ap (λ b. front_session b (head_bytes (BeginSession funds) ++ (text ++ x))) h.1
      ∙ ap BeginSession (whole funds)
  front_found (BeginSessionLong funds media kind details) text x h =
      ap (λ b. front_session b (head_bytes (BeginSessionLong funds media kind details)
      ++ (text ++ x))) h.1 ∙ cc (whole funds, whole_long media, whole details)
  front_found (VendApproved amount) text x h = ap VendApproved (whole amount)
  front_found PeripheralId text x h = bare_id r.ids text x h.0 h.1
  front_found (PeripheralIdWithOptions options) text x h = full_id r.ids text x options h.0 h.1 h.2
  front_found OutOfSequence text x h =
      ap (λ t. out_of r.is_long (t ++ x)) h.0 ∙ bare_out r.is_long x h.1
  front_found (OutOfSequenceIn status) text x h = ap (λ b. out_of b (status ∷ (text ++ x))) h.1
  front_found m text x h = refl

  -- and its text is
  text_found : (m : ReaderMsg) (text further : List ℕ) → IsTextOf r m text further
      → front_text m (text ++ further) ≡ text
  text_found PeripheralId text further h = rw (← h.0) (take-append_seam text further)
  text_found (PeripheralIdWithOptions options) text further h =
      rw (← h.0) (take-append_seam text further)
  text_found (Display time) text further h = ap (λ x. text ++ x) h.1 ∙ append-nil text
  text_found m text further h = sym (no_text r m text further refl refl h)

  with_text : ℕ → List ℕ → ReaderMsg → List ℕ → ReaderMessages
  with_text fuel bytes message text = before_messages message text
      (messages_in r fuel (drop (length (head_bytes message ++ text)) bytes))

  with_front : ℕ → List ℕ → ReaderMsg → ReaderMessages
  with_front fuel bytes message =
      with_text fuel bytes message (front_text message (drop (length (head_bytes message)) bytes))

  steps : (fuel : ℕ) (bytes : List ℕ) → 0 < length bytes
      → messages_in r (suc fuel) bytes ≡ with_front fuel bytes (front_message r bytes)
  unfolding messages_in with_front with_text
  steps fuel [] h = absurd (omega arith)
  steps fuel (first ∷ further) h = refl

  -- a message in front of other bytes is read before them
  reads_front : (fuel : ℕ) (m : ReaderMsg) (text further : List ℕ) → IsTextOf r m text further
      → messages_in r (suc fuel) (head_bytes m ++ (text ++ further))
      ≡ before_messages m text (messages_in r fuel further)
  unfolding with_front with_text
  reads_front fuel m text further h =
      let head = head_bytes m in
      let bytes = head ++ (text ++ further) in
      let told : front_text m (drop (length head) bytes) ≡ text =
      ap (front_text m) (drop-append_seam head (text ++ further)) ∙ text_found m text further h in
      let left : drop (length (head ++ text)) bytes ≡ further =
      rw (← append_assoc head text further) (drop-append_seam (head ++ text) further) in
      steps fuel bytes (omega (arith, head_counts m, length-append head (text ++ further)))
      ∙ ap (with_front fuel bytes) (front_found m text further h)
      ∙ ap (with_text fuel bytes m) told
      ∙ ap (λ x. before_messages m text (messages_in r fuel x)) left

  -- each message has a byte, so messages are no more than their bytes
  few_in : (fuel : ℕ) (bytes : List ℕ) → length (messages_in r fuel bytes).messages ≤ fuel
  unfolding messages_in
  few_in zero bytes = omega arith
  few_in (suc fuel) [] = omega arith
  few_in (suc fuel) (first ∷ further) = omega (arith, few_in fuel)

  pub few_messages : (bytes : List ℕ) → length (messages_of r bytes).messages ≤ length bytes
  unfolding messages_of
  few_messages bytes = few_in (length bytes) bytes

  -- no bytes are no messages
  pub nothing_read : (bytes : List ℕ) → length bytes ≡ 0 → messages_of r bytes ≡ no_messages
  unfolding messages_of messages_in
  nothing_read [] e = refl
  nothing_read (byte ∷ bytes) e = absurd (omega arith)

  pub none_stand : StandAsMessages r []
  none_stand = record { list = no_messages; stand = tt; spelled = refl }

  -- a message with a text and what is after it are told by their bytes
  same_text : (m : ReaderMsg) (text words x y : List ℕ) → IsTextOf r m text x
      → IsTextOf r m words y → text ++ x ≡ words ++ y → (text ≡ words) × (x ≡ y)
  same_text PeripheralId text words x y h k e = same_fronts text words x y (h.0 ∙ sym k.0) e
  same_text (PeripheralIdWithOptions options) text words x y h k e =
      same_fronts text words x y (h.0 ∙ sym k.0) e
  same_text (Display time) text words x y h k e =
      (simp append-nil at (rw (h.1, k.1) at e), h.1 ∙ sym k.1)
  same_text m text words x y h k e =
      let one : text ≡ [] = no_text r m text x refl refl h in
      let other : words ≡ [] = no_text r m words y refl refl k in
      (one ∙ sym other, rw (one, other) at e)

  -- at the front of the same bytes stands one message with one text
  pub one_message : (a b : ReaderMsg) (text words x y : List ℕ) → IsTextOf r a text x
      → IsTextOf r b words y → head_bytes a ++ (text ++ x) ≡ head_bytes b ++ (words ++ y)
      → (a ≡ b) × (text ≡ words) × (x ≡ y)
  one_message a b text words x y h k e =
      let same : a ≡ b =
      sym (front_found a text x h) ∙ ap (front_message r) e ∙ front_found b words y k in
      let back = append_cancel_left (head_bytes a) (text ++ x) (words ++ y)
      (e ∙ ap (λ m. head_bytes m ++ (words ++ y)) (sym same)) in
      let also = subst (λ m. IsTextOf r m words y) (sym same) k in
      let parts = same_text a text words x y h also back in
      (same, parts.0, parts.1)

-- a list with the text for which it was chosen, where it may be blank
chosen : {A : Type 0} (b : Bool) (x y : A) → (b ≡ false → x ≡ y) → (if b then x else y) ≡ x
chosen true x y h = refl
chosen false x y h = sym (h refl)

module _ (id text : List ℕ) where
  -- messages, with blanks for texts that none of them has
  abbrev tidy : List ReaderMsg → ReaderMessages
  tidy messages =
      record {
        messages = messages;
        id = if list_any is_id messages then id else replicate 29 0;
        text = if list_any is_display messages then text else [];
      }

  module _ (r : Reading) where
    tidy_more : (m : ReaderMsg) (ms : List ReaderMsg) (rest : List ℕ)
        → IsTextOf r m (text_of id text m) rest
        → before_messages m (text_of id text m) (tidy ms) ≡ tidy (m ∷ ms)
    tidy_more PeripheralId ms rest h =
        ap (λ t. record (tidy (PeripheralId ∷ ms)) { id = t }) (take_all 29 id (omega arith))
    tidy_more (PeripheralIdWithOptions options) ms rest h =
        let long : length id ≡ 29 = omega (arith, length-append id (four_bytes options)) in
        ap (λ t. record (tidy (PeripheralIdWithOptions options ∷ ms)) { id = t })
        (rw (← long) (take-append_seam id (four_bytes options)))
    tidy_more (Display time) ms rest h = refl
    tidy_more m ms rest h = refl

    reads_all : (fuel : ℕ) (ms : List ReaderMsg)
        → Stand (reader_msg_bytes id text) (IsReaderMsg r id text) ms []
        → length (flat_map (reader_msg_bytes id text) ms) ≤ fuel
        → messages_in r fuel (flat_map (reader_msg_bytes id text) ms) ≡ tidy ms
    unfolding messages_in
    reads_all zero [] stand few = refl
    reads_all (suc fuel) [] stand few = refl
    reads_all zero (m ∷ ms) stand few =
        absurd (omega (
          arith,
          head_counts m,
          length-append (head_bytes m) (text_of id text m),
          length-append (reader_msg_bytes id text m) (flat_map (reader_msg_bytes id text) ms),
        ))
    reads_all (suc fuel) (m ∷ ms) stand few =
        let head = head_bytes m in
        let own = text_of id text m in
        let further = flat_map (reader_msg_bytes id text) ms in
        let less : length further ≤ fuel = omega (
          arith,
          head_counts m,
          length-append head own,
          length-append (reader_msg_bytes id text m) further,
        ) in
        ap (messages_in r (suc fuel)) (append_assoc head own further)
        ∙ reads_front r fuel m own further (subst (IsTextOf r m own) (append-nil further) stand.0)
        ∙ ap (before_messages m own) (reads_all fuel ms stand.1 less)
        ∙ tidy_more m ms (further ++ []) stand.0

    reads_tidy : (ms : List ReaderMsg)
        → Stand (reader_msg_bytes id text) (IsReaderMsg r id text) ms []
        → messages_of r (flat_map (reader_msg_bytes id text) ms) ≡ tidy ms
    unfolding messages_of
    reads_tidy ms stand =
        reads_all (length (flat_map (reader_msg_bytes id text) ms)) ms stand (omega arith)

module _ (r : Reading) where
  -- the bytes of an answer are read as the answer, in each reading that has its messages
  pub reads_list : (list : ReaderMessages) → AreReaderMsgs r list [] → IsReaderList list
      → messages_of r (reader_list_bytes list) ≡ list
  reads_list list is_in h =
      reads_tidy list.id list.text r list.messages is_in
      ∙ ap₂ (λ (x y : List ℕ). record list { id = x; text = y })
      (chosen (list_any is_id list.messages) list.id (replicate 29 0) h.no_id)
      (chosen (list_any is_display list.messages) list.text [] h.no_text)

  module _ (list : ReaderMessages) (bytes : List ℕ) (h : IsReaderList list)
      (e : bytes ≡ reader_list_bytes list) (own : r ≡ reading_of list.messages) where
    pub read_own : messages_of r bytes ≡ list
    read_own = ap (messages_of r) e
        ∙ reads_list list (subst (λ x. AreReaderMsgs x list []) (sym own) h.stand) h

    pub are_messages : AreMessages r bytes
    are_messages =
        record {
          is_list = rw read_own h;
          spelled = ap reader_list_bytes read_own ∙ sym e;
          own = ap (λ (l : ReaderMessages). reading_of l.messages) read_own ∙ sym own;
        }

  -- the message in front is the first of the messages
  pub next_is : (bytes : List ℕ) (m : ReaderMsg) (text further : List ℕ) → StandAsMessages r bytes
      → bytes ≡ head_bytes m ++ (text ++ further) → IsTextOf r m text further
      → IsNextMessage r bytes m text further
  next_is bytes m text further stand e is_text = by stand.list.messages stand.stand stand.spelled
    where
      id : List ℕ
      id = stand.list.id

      words : List ℕ
      words = stand.list.text

      front : length further < length bytes
      front = omega (
        arith,
        ap length e,
        head_counts m,
        length-append (head_bytes m) (text ++ further),
        length-append text further,
      )

      by : (ms : List ReaderMsg) → Stand (reader_msg_bytes id words) (IsReaderMsg r id words) ms []
          → bytes ≡ flat_map (reader_msg_bytes id words) ms → IsNextMessage r bytes m text further
      by [] all spelled = absurd (omega (arith, ap length spelled, front))
      by (n ∷ ms) all spelled =
          let rest = flat_map (reader_msg_bytes id words) ms in
          let own = text_of id words n in
          let its : IsTextOf r n own rest = subst (IsTextOf r n own) (append-nil rest) all.0 in
          let same = one_message r n m own text rest further its is_text
          (sym (append_assoc (head_bytes n) own rest) ∙ sym spelled ∙ e) in
          record {
            before =
                ap (messages_of r) spelled
                ∙ reads_tidy id words r (n ∷ ms) all
                ∙ sym (tidy_more id words r n ms (rest ++ []) all.0)
                ∙ ap₂ (λ x t. before_messages x t (tidy id words ms)) same.0 same.1
                ∙ ap (before_messages m text)
                (sym (ap (messages_of r) (sym same.2) ∙ reads_tidy id words r ms all.1));
            is_text = is_text;
            stand = record {
              list = record { messages = ms; id = id; text = words };
              stand = all.1;
              spelled = sym same.2;
            };
            shorter = front;
            long = id_text r m text further is_text;
          }
