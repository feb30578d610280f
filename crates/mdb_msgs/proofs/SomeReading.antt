-- Bytes are messages, or there is a leftmost place where no message stands.
use Rattle.mdb_msgs.proofs.Words.{◌≡◌, ◌*◌, ◌≤◌, length, take, flat_map, AllByRecursion, cases_Bool, cases_eq, cases_lt, nat_tests, All-drop, MsgFault, Message, Profile, ChangerMsg, Reading, ReaderMsg, bill_msg_bytes, IsBillMsg, IsOfRecycler, NoBillMsg, changer_msg_bytes, IsChangerMsg, NoChangerMsg, IsByte, StopsAt, allows, takes_options, no_messages, with_message, ◌≢◌, ℕ, zero, suc, ◌+◌, ◌<◌, ◌⊎◌, inl, inr, Bool, true, false, List, [], ◌∷◌, ◌++◌, drop, All, refl, sym, ap, ◌∙◌, arith, append_assoc, append-nil, length-append, subst, length-take-le, take-append-drop, ReaderMessages, head_bytes, reader_list_bytes, session_bytes, AreReaderMsgs, IsReaderList, IsTextOf, NoReaderMsg, ReaderStopsAt, Config, Display, BeginSession, BeginSessionLong, VendApproved, PeripheralId, PeripheralIdWithOptions, Malfunction, OutOfSequenceIn, OutOfSequence, TimeAsked, JustReset, CancelRequest, VendDenied, EndSession, Cancelled}
use Rattle.mdb_msgs.proofs.OneReading.{bill_find, changer_front}
use Rattle.mdb_msgs.proofs.ReaderBytes.{four, head_counts, pair_bytes, text_with_options}
use Rattle.mdb_msgs.proofs.Readings.{long_bytes, short_bytes}
use Rattle.mdb_msgs.proofs.ReaderReading.{Taken, nothing_taken, takes_next, stops_next, all_read}

abbrev AreBytes : List ℕ → Type 0
AreBytes = All IsByte

-- bytes after a front are bytes
bytes_after : (front rest : List ℕ) → All IsByte (front ++ rest) → All IsByte rest
bytes_after [] rest low = low
bytes_after (byte ∷ front) rest low =
    bytes_after front rest (All-drop IsByte 1 (byte ∷ (front ++ rest)) low)

module _ {M : Type 0} (f : M → List ℕ) (Is : M → Type 0) where
  -- bytes are messages
  pub record Reads (bytes : List ℕ) : Type 0 where
    pub list : List M
    pub messages : AllByRecursion Is list
    pub spelled : bytes ≡ flat_map f list

  -- a message stands at the front of bytes
  record Front (bytes : List ℕ) : Type 0 where
    message : M
    rest : List ℕ
    right : Is message
    spelled : bytes ≡ f message ++ rest
    shorter : length rest < length bytes

  module _ (No : List ℕ → MsgFault → Type 0) where
    -- a message that can't be taken is the leftmost such
    abbrev pub Stops : List ℕ → Type 0
    Stops bytes = StopsAt f Is No bytes Message ⊎ StopsAt f Is No bytes Profile

    -- what stands at the front of bytes
    abbrev Found : List ℕ → Type 0
    Found bytes = Front bytes ⊎ (No bytes Message ⊎ No bytes Profile)

    -- a message in front of bytes where reading stops
    in_front : {bytes : List ℕ} (front : Front bytes) (fault : MsgFault)
        → StopsAt f Is No front.rest fault → StopsAt f Is No bytes fault
    in_front front fault (messages, rest, right, spelled, none) = (
      front.message ∷ messages,
      rest,
      (front.right, right),
      front.spelled ∙ ap (λ l. f front.message ++ l) spelled
          ∙ sym (append_assoc (f front.message) (flat_map f messages) rest),
      none,
    )

    goes_on : {bytes : List ℕ} (front : Front bytes) → Reads front.rest ⊎ Stops front.rest
        → Reads bytes ⊎ Stops bytes
    goes_on front (inl reads) =
        inl (record {
          list = front.message ∷ reads.list;
          messages = (front.right, reads.messages);
          spelled = front.spelled ∙ ap (λ l. f front.message ++ l) reads.spelled;
        })
    goes_on front (inr (inl stops)) = inr (inl (in_front front Message stops))
    goes_on front (inr (inr stops)) = inr (inr (in_front front Profile stops))

    reads : ((first : ℕ) (further : List ℕ) → All IsByte (first ∷ further)
        → Found (first ∷ further))
        → (fuel : ℕ) (bytes : List ℕ) → length bytes ≤ fuel → All IsByte bytes
        → Reads bytes ⊎ Stops bytes
    reads step fuel [] short low = inl (record { list = []; messages = tt; spelled = refl })
    reads step zero (first ∷ further) short low = absurd (omega arith)
    reads step (suc fuel) (first ∷ further) short low =
        elim (step first further low) [
          | inl front ↦ goes_on front (reads step fuel front.rest
              (let shorter = front.shorter in omega arith)
              (bytes_after (f front.message) front.rest (subst AreBytes front.spelled low)))
          | inr (inl none) ↦ inr (inl ([], first ∷ further, tt, refl, none))
          | inr (inr none) ↦ inr (inr ([], first ∷ further, tt, refl, none))
        ]

    -- a message of these bytes stands in front
    found : (message : M) (byte : ℕ) (more rest : List ℕ) → Is message × (byte ∷ more ≡ f message)
        → Found (byte ∷ more ++ rest)
    found message byte more rest is =
        inl (record {
          message = message;
          rest = rest;
          right = is.0;
          spelled = ap (λ l. l ++ rest) is.1;
          shorter = omega (arith, length-append more rest);
        })

-- whether something holds, as whether a number is within limits
abbrev pub OrNot : Type 0 → Type 0
OrNot P = P ⊎ (P → ⊥)

abbrev pub Within : ℕ → ℕ → ℕ → Type 0
Within n low high = (low ≤ n) × (n < high)

pub within : (n low high : ℕ) → OrNot (Within n low high)
within n low high = by (cases_lt n low) (cases_lt n high)
  where
    by : (n < low) ⊎ (low ≤ n) → (n < high) ⊎ (high ≤ n) → OrNot (Within n low high)
    by (inl less) other = inr (λ is. omega (arith, is))
    by (inr least) (inl less) = inl (least, less)
    by (inr least) (inr most) = inr (λ is. omega (arith, is))

-- the changer's messages of one byte, and of two
changer_one : (first : ℕ) → first < 64 → (Within first 27 32 → ⊥)
    → IsChangerMsg (changer_front first 0)
    × (first ∷ [] ≡ changer_msg_bytes (changer_front first 0))
unfolding changer_front
changer_one first low other = grind (arith, nat_tests)

changer_two : (first second : ℕ) → first < 256 → 64 ≤ first
    → (Within first 96 112 → ⊥) → IsChangerMsg (changer_front first second)
    × (first ∷ second ∷ [] ≡ changer_msg_bytes (changer_front first second))
unfolding changer_front
changer_two first second low least other = grind (arith, nat_tests)

changer_step : (first : ℕ) (further : List ℕ) → All IsByte (first ∷ further)
    → Found changer_msg_bytes IsChangerMsg NoChangerMsg (first ∷ further)
changer_step first further low = by further (cases_lt first 64) (within first 27 32)
    (within first 96 112)
  where
    put : (m : ChangerMsg) (more rest : List ℕ)
        → IsChangerMsg m × (first ∷ more ≡ changer_msg_bytes m)
        → Found changer_msg_bytes IsChangerMsg NoChangerMsg (first ∷ more ++ rest)
    put m more rest = found changer_msg_bytes IsChangerMsg NoChangerMsg m first more rest

    by : (further : List ℕ) → (first < 64) ⊎ (64 ≤ first)
        → OrNot (Within first 27 32) → OrNot (Within first 96 112)
        → Found changer_msg_bytes IsChangerMsg NoChangerMsg (first ∷ further)
    by further (inl one) (inl file) other = inr (inr file)
    by further (inl one) (inr is) other =
        put (changer_front first 0) [] further (changer_one first one is)
    by [] (inr two) file other = inr (inl (inr (two, refl)))
    by (second ∷ rest) (inr two) file (inl none) = inr (inl (inl none))
    by (second ∷ rest) (inr two) file (inr is) =
        put (changer_front first second) (second ∷ []) rest
        (changer_two first second (low 0 0 (omega arith)) two is)

-- the validator's
bill_one : (r : Bool) (first : ℕ) → (Within first 27 32 → ⊥) → (Within first 96 128 → ⊥)
    → (IsOfRecycler first → r ≡ true)
    → IsBillMsg r (bill_find (first ∷ [])) × (first ∷ [] ≡ bill_msg_bytes (bill_find (first ∷ [])))
unfolding bill_find
bill_one r first status other recycled = grind (arith, nat_tests)

bill_step : (r : Bool) (first : ℕ) (further : List ℕ) → All IsByte (first ∷ further)
    → Found bill_msg_bytes (IsBillMsg r) (NoBillMsg r) (first ∷ further)
bill_step r first further low = by (within first 27 32) (within first 96 128) (cases_Bool r)
    (within first 176 192) (cases_lt first 208)
  where
    put : (IsOfRecycler first → r ≡ true) → (Within first 27 32 → ⊥) → (Within first 96 128 → ⊥)
        → Found bill_msg_bytes (IsBillMsg r) (NoBillMsg r) (first ∷ further)
    put recycled status other =
        found bill_msg_bytes (IsBillMsg r) (NoBillMsg r) (bill_find (first ∷ [])) first [] further
        (bill_one r first status other recycled)

    by : OrNot (Within first 27 32) → OrNot (Within first 96 128) → (r ≡ true) ⊎ (r ≡ false)
        → OrNot (Within first 176 192) → (first < 208) ⊎ (208 ≤ first)
        → Found bill_msg_bytes (IsBillMsg r) (NoBillMsg r) (first ∷ further)
    by (inl none) other extended recycled high = inr (inr (inl none))
    by (inr status) (inl none) extended recycled high = inr (inl none)
    by (inr status) (inr other) (inl extended) recycled high = put (λ is. extended) status other
    by (inr status) (inr other) (inr base) (inl recycled) high =
        inr (inr (inr (inl recycled, base)))
    by (inr status) (inr other) (inr base) recycled (inr high) = inr (inr (inr (inr high, base)))
    by (inr status) (inr other) (inr base) (inr recycled) (inl low) =
        put (λ is. absurd (elim is [ inl one ↦ recycled one | inr high ↦ omega arith ])) status
        other

pub changer_reads : (bytes : List ℕ) → All IsByte bytes → Reads changer_msg_bytes IsChangerMsg bytes
    ⊎ Stops changer_msg_bytes IsChangerMsg NoChangerMsg bytes
changer_reads bytes = reads changer_msg_bytes IsChangerMsg NoChangerMsg changer_step (length bytes)
    bytes (omega arith)

pub bill_reads : (r : Bool) (bytes : List ℕ) → All IsByte bytes
    → Reads bill_msg_bytes (IsBillMsg r) bytes
    ⊎ Stops bill_msg_bytes (IsBillMsg r) (NoBillMsg r) bytes
bill_reads r bytes = reads bill_msg_bytes (IsBillMsg r) (NoBillMsg r)
    (bill_step r) (length bytes) bytes (omega arith)

-- first bytes, counted in steps of three
pattern abbrev three+ : ℕ → ℕ
three+ n = suc (suc (suc n))

pattern abbrev six+ : ℕ → ℕ
six+ n = three+ (three+ n)

module _ (r : Reading) where
  -- a reader's message stands at the front of bytes
  record ReaderFront (bytes : List ℕ) : Type 0 where
    message : ReaderMsg
    text : List ℕ
    rest : List ℕ
    is_text : IsTextOf r message text rest
    spelled : bytes ≡ head_bytes message ++ text ++ rest

  abbrev InReader : List ℕ → Type 0
  InReader bytes = ReaderFront bytes ⊎ (NoReaderMsg r bytes Message ⊎ NoReaderMsg r bytes Profile)

  -- this one stands there
  is_front : {bytes : List ℕ} (m : ReaderMsg) (text rest : List ℕ) → IsTextOf r m text rest
      → bytes ≡ head_bytes m ++ text ++ rest → InReader bytes
  is_front m text rest is e =
      inl (record { message = m; text = text; rest = rest; is_text = is; spelled = e })

  config : (further : List ℕ) → All IsByte (1 ∷ further) → InReader (1 ∷ further)
  config (a ∷ b ∷ c ∷ d ∷ e ∷ f ∷ g ∷ rest) low =
      let code = pair_bytes b c (low 3 0 (omega arith)) in
      is_front (Config a (256 * b + c) d e f g) [] rest refl (cc)
  config further low = inr (inl (inl (refl, omega arith)))

  display : (further : List ℕ) → InReader (2 ∷ further)
  display [] = inr (inl (inr (inl (refl, inl refl))))
  display (time ∷ text) =
      elim (cases_lt (length text) 33) [
        | inl short ↦ is_front (Display time) text [] (omega arith, refl)
            (ap (λ l. 2 ∷ time ∷ l) (sym (append-nil text)))
        | inr long ↦ inr (inl (inr (inl (refl, inr (omega arith)))))
      ]

  no_session : (further : List ℕ) → length further < session_bytes r → InReader (3 ∷ further)
  no_session further few = inr (inl (inr (inr (inl (refl, few)))))

  session : (further : List ℕ) → All IsByte (3 ∷ further) → (r.is_long ≡ true) ⊎ (r.is_long ≡ false)
      → InReader (3 ∷ further)
  session (a ∷ b ∷ rest) low (inr short) =
      let funds = pair_bytes a b (low 2 0 (omega arith)) in
      is_front (BeginSession (256 * a + b)) [] rest (refl, short) (cc)
  session (a ∷ b ∷ c ∷ d ∷ e ∷ f ∷ kind ∷ g ∷ h ∷ rest) low (inl long) =
      let funds = pair_bytes a b (low 2 0 (omega arith)) in
      let details = pair_bytes g h (low 9 0 (omega arith)) in
      let media = four c d e f (low 4 0 (omega arith)) (low 5 0 (omega arith))
      (low 6 0 (omega arith)) in
      is_front (BeginSessionLong (256 * a + b) (65536 * (256 * c + d) + (256 * e + f)) kind
      (256 * g + h)) [] rest (refl, long) (cc)
  session further low (inr short) = no_session further (omega (arith, short_bytes r short))
  session further low (inl long) = no_session further (omega (arith, long_bytes r long))

  approved : (further : List ℕ) → All IsByte (5 ∷ further) → InReader (5 ∷ further)
  approved (a ∷ b ∷ rest) low =
      let amount = pair_bytes a b (low 2 0 (omega arith)) in
      is_front (VendApproved (256 * a + b)) [] rest refl (cc)
  approved further low = inr (inl (inr (inr (inr (inl (refl, omega arith))))))

  module _ (further : List ℕ) (low : All IsByte (9 ∷ further)) (long : 29 ≤ length further) where
    -- an identification by the bytes after its text: without options, or with them
    bare_id : takes_options r.ids (drop 29 further) ≡ false → InReader (9 ∷ further)
    bare_id bare = is_front PeripheralId (take 29 further) (drop 29 further)
        (length-take-le 29 further long, bare)
        (ap (λ l. 9 ∷ l) (sym (take-append-drop 29 further)))

    by_options : (after : List ℕ) → drop 29 further ≡ after → InReader (9 ∷ further)
    by_options (a ∷ b ∷ c ∷ d ∷ rest) e =
        elim (cases_Bool (allows r.ids a)) [
          | inl allowed ↦
              let after : All IsByte (a ∷ b ∷ c ∷ d ∷ rest) =
              rw e at (All-drop IsByte 30 (9 ∷ further) low) in
              let options = 65536 * (256 * a + b) + (256 * c + d) in
              is_front (PeripheralIdWithOptions options) (take 33 further) (drop 33 further)
              (text_with_options r further a b c d rest options e (after 1 0 (omega arith))
              (after 2 0 (omega arith)) (after 3 0 (omega arith)) refl allowed)
              (ap (λ l. 9 ∷ l) (sym (take-append-drop 33 further)))
          | inr bare ↦ bare_id (ap (takes_options r.ids) e ∙ bare)
        ]
    by_options after e = bare_id (ap (takes_options r.ids) e)

  identification : (further : List ℕ) → All IsByte (9 ∷ further) → InReader (9 ∷ further)
  identification further low =
      elim (cases_lt (length further) 29) [
        | inl short ↦ inr (inl (inr (inr (inr (inr (inl (refl, short)))))))
        | inr long ↦ by_options further low long (drop 29 further) refl
      ]

  malfunction : (further : List ℕ) → InReader (10 ∷ further)
  malfunction [] = inr (inl (inr (inr (inr (inr (inr (refl, refl)))))))
  malfunction (code ∷ rest) = is_front (Malfunction code) [] rest refl refl

  out_of_sequence : (further : List ℕ) → (r.is_long ≡ true) ⊎ (r.is_long ≡ false)
      → InReader (11 ∷ further)
  out_of_sequence (status ∷ rest) (inl long) =
      is_front (OutOfSequenceIn status) [] rest (refl, long) refl
  out_of_sequence [] (inl long) = is_front OutOfSequence [] [] (refl, inr refl) refl
  out_of_sequence further (inr short) =
      is_front OutOfSequence [] further (refl, inl short) refl

  -- a first byte of 0C or above
  above : (first : ℕ) (further : List ℕ) → 12 ≤ first → (first ≡ 17) ⊎ (first ≢ 17)
      → (r.is_long ≡ true) ⊎ (r.is_long ≡ false) → InReader (first ∷ further)
  above first further high (inl is) (inl long) =
      is_front TimeAsked [] further (refl, long) (ap (λ n. n ∷ further) is)
  above first further high (inr other) (inl long) = inr (inr (high, inr other))
  above first further high other (inr short) = inr (inr (high, inl short))

  reader_step : (first : ℕ) (further : List ℕ) → All IsByte (first ∷ further)
      → InReader (first ∷ further)
  reader_step zero further low = is_front JustReset [] further refl refl
  reader_step (suc zero) further low = config further low
  reader_step (suc (suc zero)) further low = display further
  reader_step (three+ zero) further low = session further low (cases_Bool r.is_long)
  reader_step (three+ (suc zero)) further low = is_front CancelRequest [] further refl refl
  reader_step (three+ (suc (suc zero))) further low = approved further low
  reader_step (six+ zero) further low = is_front VendDenied [] further refl refl
  reader_step (six+ (suc zero)) further low = is_front EndSession [] further refl refl
  reader_step (six+ (suc (suc zero))) further low = is_front Cancelled [] further refl refl
  reader_step (six+ (three+ zero)) further low = identification further low
  reader_step (six+ (three+ (suc zero))) further low = malfunction further
  reader_step (six+ (three+ (suc (suc zero)))) further low =
      out_of_sequence further (cases_Bool r.is_long)
  reader_step (six+ (six+ first)) further low =
      above _ further (omega arith) (cases_eq _ 17) (cases_Bool r.is_long)

  module _ (whole : List ℕ) where
    -- bytes are a reader's list
    pub record ReadsList : Type 0 where
      pub list : ReaderMessages
      pub is_list : IsReaderList list
      pub is_in : AreReaderMsgs r list []
      pub spelled : whole ≡ reader_list_bytes list

    abbrev pub ReaderStops : Type 0
    ReaderStops = ReaderStopsAt r whole Message ⊎ ReaderStopsAt r whole Profile

    reader_goes_on : length whole ≤ 35 → (fuel : ℕ) (list : ReaderMessages) (rest : List ℕ)
        → length rest ≤ fuel → All IsByte rest → Taken r whole list rest → ReadsList ⊎ ReaderStops
    reader_goes_on few fuel list [] short low taken =
        let all = all_read [] taken refl in
        inl (record { list = list; is_list = all.1; is_in = all.2; spelled = all.0 })
    reader_goes_on few zero list (first ∷ further) short low taken = absurd (omega arith)
    reader_goes_on few (suc fuel) list (first ∷ further) short low taken =
        elim (reader_step first further low) [
          | inl front ↦
              let head = head_bytes front.message in
              reader_goes_on few fuel (with_message list front.message front.text) front.rest
              (omega (
                arith,
                ap length front.spelled,
                head_counts front.message,
                length-append (head ++ front.text) front.rest,
                length-append head front.text,
              ))
              (bytes_after (head ++ front.text) front.rest (subst AreBytes front.spelled low))
              (takes_next taken front.message front.text front.rest few refl front.spelled
              front.is_text)
          | inr (inl none) ↦ inr (inl (stops_next taken refl none))
          | inr (inr none) ↦ inr (inr (stops_next taken refl none))
        ]

  pub reader_reads : (bytes : List ℕ) → length bytes ≤ 35 → All IsByte bytes
      → ReadsList bytes ⊎ ReaderStops bytes
  reader_reads bytes few low = reader_goes_on bytes few (length bytes) no_messages bytes (omega
      arith) low (nothing_taken r bytes)
