-- The laws of formats, by those of readings.
use Rattle.mdb_bus.proofs.Words.{[], AllByRecursion, ap, AreAlike, AreReply, AreSome, arith, As, Bool, BytesHaveOneFault, Command, Err, false, Format, HasFault, HasMessages, HasOpenFault, HaveFaults, IfErr, IfOk, IfSome, inl, inr, is_extended, IsFirst, IsIn, IsInSome, IsOpenOr, IsPlainList, IsReadAs, IsReadFault, IsReadingIn, IsReadOpen, IsReplyTo, joint_fault, List, list_any, long, may_have_options, MsgFault, Ok, Option, Or, or_parts, Reading, readings, refl, Reply, reply_bytes, ReplyHasNoFault, Result, short, Some, subst, sym, true, varies, what_counts, ℕ, ◌∙◌, ◌∷◌, ◌≡◌, ◌≢◌}
use Rattle.mdb_msgs.specs.declared.fault.MsgFault.TheVariants.{Length, Message, Profile as Left, Answer}
use Rattle.mdb_msgs.specs.declared.reading.Ids.{Ids}
use Rattle.mdb_msgs.specs.declared.reading.Ids.TheVariants.{Bare, ByNext, Full}
use Rattle.mdb_msgs.specs.declared.reply.reader.ReaderMsg.{ReaderMsg}
use Rattle.mdb_msgs.specs.declared.reply.reader.ReaderMsg.TheVariants.{BeginSession}
use Rattle.mdb_msgs.specs.Bill.{IsBillMsg}
use Rattle.mdb_msgs.specs.Lists.{Stand}
use Rattle.mdb_msgs.specs.Reader.{IsReaderMsg, IsTextOf, ReaderMessages, reader_msg_bytes}
use Rattle.mdb_bus.specs.declared.format.Format.TheVariants.{Open}
use Rattle.mdb_bus.specs.OpenReplies.{IsExtended}
use Rattle.mdb_msgs.specs.declared.reply.Reply.TheVariants as replies

-- for a command and a reading, data bytes have at most one reply
abbrev pub OneReply : Type 0
OneReply = (reading : Reading) (command : Command) (one other : Reply)
    → IsIn reading command one → IsIn reading command other → IsReplyTo command one
    → IsReplyTo command other → reply_bytes one ≡ reply_bytes other → one ≡ other

module _ (command : Command) where
  -- the first of readings of the extended profile is one of them
  some_in : (list : List Reading) → AllByRecursion (λ reading. is_extended reading ≡ true) list
      → (reply : Reply) → IsFirst list command reply
      → IsInSome command reply
  some_in [] all reply is = absurd is
  some_in (reading ∷ list) all reply (inl is) = (reading, all.0, is)
  some_in (reading ∷ list) all reply (inr is) = some_in list all.1 reply is.1

  some_first : (reply : Reply) → IsFirst readings command reply → IsInSome command reply
  some_first = some_in readings (refl, (refl, (refl, (refl, tt))))

  -- what is read in a format of a reader's reply has the bytes of a reply in one of its readings
  some_read : (format : Format) (reply : Reply) → IsExtended format → IsReplyTo command reply
      → IsReadAs format command reply → (some : Reply) × AreSome command (reply_bytes reply) some
  some_read (As reading) reply extended answers is = absurd extended
  some_read (Or first second) reply extended answers (told, is, may, same, which) =
      let some = some_in (first ∷ second ∷ []) (extended.0, (extended.1, tt)) told is in
      (told, (some, may, sym same))
  some_read Open reply extended answers is = (reply, (some_first reply is.0, answers, refl))

-- ---- by the law that a reply has no fault
module _ (none : ReplyHasNoFault) (command : Command) where
  -- bytes that are a reply in a reading have no fault in it
  none_bad_in : (reading : Reading) (bytes : List ℕ) (reply : Reply) (fault : MsgFault)
      → AreReply reading command bytes reply → IsReadFault reading command bytes fault → ⊥
  none_bad_in reading bytes reply fault is bad =
      none reading command reply fault is.1 is.0 (rw is.2 at bad)

  -- so bytes that are one in some reading haven't one in each
  none_each : (bytes : List ℕ) (reply : Reply) → AreSome command bytes reply
      → HaveFaults command bytes → ⊥
  none_each bytes reply is bad =
      let one = bad is.0.0 is.0.1 in
      none_bad_in is.0.0 bytes reply one.0 (is.0.2, is.1, is.2) one.1

  -- and open bytes that are read have none
  none_open : (reply : Reply) (fault : MsgFault) → IsReplyTo command reply
      → IsReadOpen command reply → HasOpenFault command (reply_bytes reply) fault → ⊥
  none_open reply Left answers is (inl bad) =
      none_each (reply_bytes reply) reply (some_first command reply is.0, answers, refl) bad.0
  none_open reply Left answers is (inr two) = two.4 (is.1 two.0 two.1 two.2 two.3)
  none_open reply fault answers is bad =
      none_each (reply_bytes reply) reply (some_first command reply is.0, answers, refl)
      (λ reading extended. (fault, bad reading extended))

  -- data bytes that are a reply have no fault in its format
  pub none_as : (format : Format) (reply : Reply) (fault : MsgFault) → IsReplyTo command reply
      → IsReadAs format command reply → HasFault format command (reply_bytes reply) fault → ⊥
  none_as (As reading) reply fault answers is bad = none reading command reply fault answers is bad
  none_as (Or first second) reply fault answers (told, is, may, same, which) bad = elim is [
    | inl one ↦ none first command told fault may one (rw (sym same) at bad.0)
    | inr (one, inl two) ↦ none second command told bad.1 may two (rw (sym same) at bad.2)
    | inr (one, inr last) ↦ absurd last.1
  ]
  none_as Open reply fault answers is bad = none_open reply fault answers is bad

  -- for a command, data bytes are one reply of the first of readings
  module _ (law : OneReply) (one other : Reply) (first : IsReplyTo command one)
      (second : IsReplyTo command other) (same : reply_bytes one ≡ reply_bytes other) where
    first_once : (list : List Reading) → IsFirst list command one → IsFirst list command other
        → one ≡ other
    first_once [] is also = absurd is
    first_once (reading ∷ list) (inl is) (inl also) =
        law reading command one other is also first second same
    first_once (reading ∷ list) (inl is) (inr also) = absurd (none_bad_in reading
        (reply_bytes other) one also.0.0 (is, first, sym same) also.0.1)
    first_once (reading ∷ list) (inr is) (inl also) =
        absurd (none_bad_in reading (reply_bytes one) other is.0.0 (also, second, same) is.0.1)
    first_once (reading ∷ list) (inr is) (inr also) = first_once list is.1 also.1

  module _ (law : OneReply) (one other : Reply) (first : IsReplyTo command one)
      (second : IsReplyTo command other) (same : reply_bytes one ≡ reply_bytes other) where
    -- what two readings of the same bytes read is one
    once : (list : List Reading) → IsFirst list command one → IsFirst list command other
        → one ≡ other
    once = first_once law one other first second same

    -- so what open reads is what any format of a reader's reply reads of the same bytes
    pub agree : (format : Format) → IsExtended format → IsReadAs format command one
        → IsReadAs Open command other → one ≡ other
    agree (As reading) extended is also = absurd extended
    agree (Or _ _) extended (told, _, _, _, inl is) also = once readings is.0 also.0
    agree (Or _ _) extended (told, _, _, _, inr is) also =
        absurd (none_open other is.1 second also (rw same at is.2))
    agree Open extended is also = once readings is.0 also.0

    -- and there is at most one reply in a format
    pub one_as : (format : Format) → IsReadAs format command one → IsReadAs format command other
        → one ≡ other
    one_as (As reading) is also = law reading command one other is also first second same
    one_as (Or _ _) (told, _, _, _, inl is) (tell, _, _, _, inl also) = once readings is.0 also.0
    one_as (Or _ _) (told, _, _, _, inl is) (tell, _, _, _, inr also) =
        absurd (none_open one also.1 first is (rw (sym same) at also.2))
    one_as (Or _ _) (told, _, _, _, inr is) (tell, _, _, _, inl also) =
        absurd (none_open other is.1 second also (rw same at is.2))
    one_as (Or a b) (told, at, may, its, inr is) (tell, too, can, own, inr also) =
        sym is.0 ∙ (first_once law told tell may can (its ∙ same ∙ sym own) (a ∷ b ∷ []) at too
        ∙ also.0)
    one_as Open is also = once readings is.0 also.0

  -- data bytes have at most one fault in a format
  left_out_once : BytesHaveOneFault → (bytes : List ℕ) (other : MsgFault)
      → HasOpenFault command bytes Left → ((reading : Reading) → is_extended reading ≡ true
      → IsReadFault reading command bytes other) → Left ≡ other
  left_out_once law bytes other (inl bad) each =
      law bad.1 command bytes Left other bad.3 (each bad.1 bad.2)
  left_out_once law bytes other (inr two) each =
      absurd (none_each bytes two.0 two.2 (λ reading extended. (other, each reading extended)))

  pub one_bad : BytesHaveOneFault → (format : Format) (bytes : List ℕ) (one other : MsgFault)
      → HasFault format command bytes one → HasFault format command bytes other → one ≡ other
  one_bad law (As reading) bytes one other first second =
      law reading command bytes one other first second
  one_bad law (Or in_first in_second) bytes one other first second =
      law in_first command bytes one other first.0 second.0
  one_bad law Open bytes Left Left first second = refl
  one_bad law Open bytes Left other first second = left_out_once law bytes other first second
  one_bad law Open bytes one Left first second = sym (left_out_once law bytes one second first)
  one_bad law Open bytes one other first second =
      law (short Full) command bytes one other (first (short Full) refl) (second (short Full) refl)

  -- what a format of a reader's reply reads and open doesn't is left out
  left_out : (bytes : List ℕ) (reply : Reply) (fault : MsgFault) → AreSome command bytes reply
      → HasOpenFault command bytes fault → fault ≡ Left
  left_out bytes reply Left is bad = refl
  left_out bytes reply fault is bad =
      absurd (none_each bytes reply is (λ reading extended. (fault, bad reading extended)))

  pub leave_out : (format : Format) (reply : Reply) (fault : MsgFault) → IsExtended format
      → IsReadAs format command reply → IsReplyTo command reply
      → HasFault Open command (reply_bytes reply) fault → fault ≡ Left
  leave_out format reply fault extended is answers bad =
      let some = some_read command format reply extended answers is in
      left_out (reply_bytes reply) some.0 fault some.1 bad

-- a fault in the number of bytes is one in some reading
pub bad_length : (format : Format) (command : Command) (bytes : List ℕ)
    → HasFault format command bytes Length
    → (reading : Reading) × IsReadFault reading command bytes Length
bad_length (As reading) command bytes bad = (reading, bad)
bad_length (Or first second) command bytes bad = (first, bad.0)
bad_length Open command bytes bad = (short Full, bad (short Full) refl)

-- ---- the four readings of the extended profile

each : (P : Reading → Type 0) → P (long Full) → P (long ByNext) → P (short Full)
    → P (short ByNext) → (reading : Reading) → is_extended reading ≡ true → P reading
each P one two three four reading extended = by reading.is_long reading.ids extended
  where
    by : (is_long : Bool) (ids : Ids) → may_have_options ids ≡ true
        → P (record { is_long = is_long; ids = ids })
    by true Full e = one
    by true ByNext e = two
    by false Full e = three
    by false ByNext e = four
    by is_long Bare e = absurd (cc e)

module _ (law : BytesHaveOneFault) (command : Command) (bytes : List ℕ) where
  -- a fault that isn't Profile is that of each reading that has none of it
  same_in : (one other : Reading) → is_extended one ≡ true → is_extended other ≡ true
      → (fault also : MsgFault) → fault ≢ Left → IsReadFault one command bytes fault
      → IsReadFault other command bytes also → also ≢ Left → IsReadFault other command bytes fault
  same_in one other e f Length also apart bad too out = bad
  same_in one other e f Answer also apart (inl none) too out = inl none
  same_in one other e f Answer also apart (inr kept) too out =
      let extended = kept.4 in absurd (cc (e, extended))
  same_in one other e f Message Message apart bad too out = too
  same_in one other e f Message Length apart bad too out =
      absurd (cc (law one command bytes Message Length bad too))
  same_in one other e f Message Answer apart bad (inl none) out =
      absurd (cc (law one command bytes Message Answer bad (inl none)))
  same_in one other e f Message Answer apart bad (inr kept) out =
      let extended = kept.4 in absurd (cc (f, extended))
  same_in one other e f Message Left apart bad too out = absurd (out refl)
  same_in one other e f Left also apart bad too out = absurd (apart refl)

  -- so the fault of four is that of open bytes
  have_faults : (one two three four : MsgFault) → IsReadFault (long Full) command bytes one
      → IsReadFault (long ByNext) command bytes two → IsReadFault (short Full) command bytes three
      → IsReadFault (short ByNext) command bytes four → HaveFaults command bytes
  have_faults one two three four a b c d =
      each (λ reading. (fault : MsgFault) × IsReadFault reading command bytes fault) (one, a)
      (two, b) (three, c) (four, d)

  pub joint : (one two three four : MsgFault) → IsReadFault (long Full) command bytes one
      → IsReadFault (long ByNext) command bytes two → IsReadFault (short Full) command bytes three
      → IsReadFault (short ByNext) command bytes four
      → HasFault Open command bytes (joint_fault one two three four)
  joint Left two three four a b c d =
      inl (have_faults Left two three four a b c d, long Full, refl, a)
  joint one Left three four a b c d =
      inl (have_faults one Left three four a b c d, long ByNext, refl, b)
  joint one two Left four a b c d =
      inl (have_faults one two Left four a b c d, short Full, refl, c)
  joint one two three Left a b c d =
      inl (have_faults one two three Left a b c d, short ByNext, refl, d)
  joint one two three four a b c d =
      each (λ reading. IsReadFault reading command bytes one) a
      (same_in (long Full) (long ByNext) refl refl one two (λ e. cc e) a b (λ e. cc e))
      (same_in (long Full) (short Full) refl refl one three (λ e. cc e) a c (λ e. cc e))
      (same_in (long Full) (short ByNext) refl refl one four (λ e. cc e) a d (λ e. cc e))

-- a reply that is no reader's is one in each reading of the extended profile
abbrev IsPlain : Reply → Type 0
IsPlain reply = (list : ReaderMessages) → reply ≡ replies.Reader list → ⊥

plain_too : (one other : Reading) → is_extended one ≡ is_extended other → (reply : Reply)
    → IsPlain reply → HasMessages one reply → HasMessages other reply
plain_too one other same (replies.Reader list) plain is = absurd (plain list refl)
plain_too one other same (replies.BillPoll list) plain is =
    subst (λ extended. AllByRecursion (IsBillMsg extended) list.items) same is
plain_too one other same reply plain is = is

-- so it is the only one of its bytes
pub same_plain : OneReply → (command : Command) (bytes : List ℕ) (reading : Reading)
    (reply other : Reply) → is_extended reading ≡ true → IsPlain reply
    → AreSome command bytes reply → AreReply reading command bytes other → other ≡ reply
same_plain law command bytes reading reply other extended plain some is =
    let same : is_extended some.0.0 ≡ is_extended reading = some.0.1 ∙ sym extended in
    let here = plain_too some.0.0 reading same reply plain some.0.2.0 in
    law reading command other reply is.0 (here, λ e. some.0.2.1 (same ∙ e)) is.1 some.1
    (sym is.2 ∙ some.2)

-- ---- a list in which readings differ in no message
module _ (one other : Reading) where
  text_stays : (message : ReaderMsg) (text rest : List ℕ) → varies message ≡ false
      → IsTextOf one message text rest → IsTextOf other message text rest
  text_stays (BeginSession funds) text rest same is = absurd (cc same)
  text_stays message text rest same is = search arith

  list_stays : (id text : List ℕ) (messages : List ReaderMsg) (tail : List ℕ)
      → list_any varies messages ≡ false
      → Stand (reader_msg_bytes id text) (IsReaderMsg one id text) messages tail
      → Stand (reader_msg_bytes id text) (IsReaderMsg other id text) messages tail
  list_stays id text [] tail same stand = tt
  list_stays id text (message ∷ messages) tail same stand =
      let apart = or_parts (varies message) (list_any varies messages) same in
      (text_stays message _ _ apart.0 stand.0, list_stays id text messages tail apart.1 stand.1)

  -- it is one of each reading of the extended profile
  plain_in : is_extended other ≡ true → (command : Command) (reply : Reply) → IsPlainList reply
      → IsIn one command reply → IsIn other command reply
  plain_in extended command (replies.Reader list) same is =
      let stays = list_stays list.id list.text list.messages [] same is.0 in
      (stays, λ base. absurd (cc (extended, base)))
  plain_in extended command reply same is = absurd same

-- so open bytes are it
pub plain_open : OneReply → (reading : Reading) (command : Command) (bytes : List ℕ) (reply : Reply)
    → IsPlainList reply → AreReply reading command bytes reply → IsReadOpen command reply
plain_open law reading command bytes reply plain is =
    let only : (other : Reply) → AreSome command (reply_bytes reply) other → other ≡ reply =
    λ other also. law also.0.0 command other reply also.0.2
    (plain_in reading also.0.0 also.0.1 command reply plain is.0) also.1 is.1 (sym also.2) in
    let first = plain_in reading (long Full) refl command reply plain is.0 in
    (inl first, λ one other a b. ap what_counts (only one a ∙ sym (only other b)))

-- ---- the replies that open bytes are
module _ (command : Command) (bytes : List ℕ) where
  -- what says in each reading the same as a reply
  abbrev IsAlikeIn : Reply → Reading → Type 0
  IsAlikeIn reply reading =
      (other : Reply) → AreReply reading command bytes other → what_counts other ≡ what_counts reply

  pub alike_each : (reply : Reply) {a b c d : Reading} → a ≡ long Full → b ≡ long ByNext
      → c ≡ short Full → d ≡ short ByNext → IsAlikeIn reply a → IsAlikeIn reply b
      → IsAlikeIn reply c → IsAlikeIn reply d → AreAlike command bytes reply
  alike_each reply first second third last one two three four other is =
      each (IsAlikeIn reply) (rw first at one) (rw second at two) (rw third at three)
      (rw last at four) is.0.0 is.0.1 other (is.0.2, is.1, is.2)

  -- the fault that is found in a reading
  pub in_this : {reading given : Reading} → given ≡ reading → {found : Option MsgFault}
      {fault : MsgFault} → IfSome found (IsReadFault given command bytes) → found ≡ Some fault
      → IsReadFault reading command bytes fault
  in_this same bad is = rw (same, is) at bad

  -- the first of the four readings has one of them
  pub some_of : (reply other : Reply) {read : Result Reply MsgFault} → read ≡ Ok reply
      → read ≡ Ok other → IsReplyTo command other → bytes ≡ reply_bytes other
      → IsFirst readings command other → AreSome command bytes reply
  some_of reply other is also answers spelled first =
      let same : other ≡ reply = cc in
      rw (← same) (some_first command other first, answers, spelled)

-- ---- the reading that is chosen

-- what is chosen for bytes that levels tell is read in their format
pub told_in : (first second told reading : Reading) (command : Command) (bytes : List ℕ)
    (reply : Reply) → AreReply told command bytes reply
    → IsFirst (first ∷ second ∷ []) command reply → IsOpenOr told command bytes reading
    → IsReadingIn (Or first second) command bytes (Ok reading)
told_in first second told reading command bytes reply is at (inl one) =
    (one.0, one.1, (reply, at, is.1, sym is.2 ∙ one.1.2, inl one.2))
told_in first second told reading command bytes reply is at (inr bad) =
    (reply, rw bad.0 is, (reply, at, is.1, refl, inr (refl, bad.1, rw is.2 at bad.2)))

-- bytes for which no reading is chosen have their fault
pub fault_of : (format : Format) (command : Command) (bytes : List ℕ) (fault : MsgFault)
    → IsReadingIn format command bytes (Err fault) → HasFault format command bytes fault
fault_of (As given) command bytes fault is = cc is
fault_of format command bytes fault is = is

-- what is read in the reading that is chosen is read so in the format
pub read_in : (format : Format) (command : Command) (bytes : List ℕ) (reading : Reading)
    (result : Result Reply MsgFault) → IsReadingIn format command bytes (Ok reading)
    → IfOk result (IsIn reading command) → IfOk result (λ reply. bytes ≡ reply_bytes reply)
    → ((reply : Reply) → IsReplyTo command reply → IsIn reading command reply
    → bytes ≡ reply_bytes reply → result ≡ Ok reply) → IfOk result (IsReadAs format command)
read_in format command bytes reading (Err fault) is found spelled only = tt
read_in (As given) command bytes reading (Ok reply) is found spelled only =
    let same : reading ≡ given = cc is in
    rw same at found
read_in format command bytes reading (Ok reply) is found spelled only =
    let same : Ok reply ≡ Ok is.0 = only is.0 is.1.1 is.1.0 is.1.2 in
    let one : is.0 ≡ reply = cc same in
    subst (IsReadAs format command) one is.2

-- and what has a fault in it has one in the format
pub faulty_in : ReplyHasNoFault → (format : Format) (command : Command) (bytes : List ℕ)
    (reading : Reading) (result : Result Reply MsgFault)
    → IsReadingIn format command bytes (Ok reading)
    → IfErr result (IsReadFault reading command bytes)
    → IfErr result (HasFault format command bytes)
faulty_in none format command bytes reading (Ok reply) is faulty = tt
faulty_in none (As given) command bytes reading (Err fault) is faulty =
    let same : reading ≡ given = cc is in
    rw same at faulty
faulty_in none format command bytes reading (Err fault) is faulty =
    absurd (none_bad_in none command reading bytes is.0 fault is.1 faulty)
