-- Lists of messages that are given: whether they are another list, and whether they fit a block.
use Rattle.mdb_msgs.proofs.Words.{◌≡◌, length, take, flat_map, result_ok, length-flat_map-take, Reading, ReaderMsg, nat_tests, MsgFault, ◌<◌, ◌+◌, true, ℕ, List, Some, None, Result, Ok, Err, IfOk, IfErr, [], refl, sym, ap, ◌∙◌, arith, subst, get_or, JustReset, ReaderMessages, reader_msg_bytes, reader_list_bytes, reading_of, AreReaderMsgs, IsReaderList, ReaderStopsAt}
use Rattle.mdb_msgs.specs.contracts.reply.reader.ReaderMsgPartialEq.TheImpl.{eq-value}
use Rattle.mdb_msgs.proofs.OneReader.{one_reader_list, reader_no_stop}

-- `==` of two messages says whether they are one
pub told_same : (a b : ReaderMsg) → eq-value.it a b ≡ true → a ≡ b
told_same JustReset JustReset h = refl
told_same a b h = grind (arith, nat_tests)

is_same : (a : ReaderMsg) → eq-value.it a a ≡ true
is_same JustReset = refl
is_same m = grind (arith, nat_tests)

pub same_again : (a b : ReaderMsg) → a ≡ b → eq-value.it a b ≡ true
same_again a b e = subst (λ m. eq-value.it a m ≡ true) e (is_same a)

module _ (r : Reading) (given : ReaderMessages) (bytes : List ℕ) where
  -- a list's bytes are read, and as the list
  pub never_refused : (read : Result ReaderMessages MsgFault) → r ≡ reading_of given.messages
      → bytes ≡ reader_list_bytes given → IfErr read (ReaderStopsAt r bytes)
      → result_ok read ≡ None → IsReaderList given → ⊥
  never_refused (Ok list) own e err none h = absurd (cc)
  never_refused (Err fault) own e err none h =
      reader_no_stop r given fault (rw own h.stand) (subst (λ b. ReaderStopsAt r b fault) e err)

  pub read_back : (list : ReaderMessages) (read : Result ReaderMessages MsgFault)
      → r ≡ reading_of given.messages → bytes ≡ reader_list_bytes given
      → IfOk read IsReaderList → IfOk read (λ l. AreReaderMsgs r l [])
      → IfOk read (λ l. bytes ≡ reader_list_bytes l)
      → result_ok read ≡ Some list → IsReaderList given → list ≡ given
  read_back list (Ok l) own e is is_in spelled some h =
      let same : list ≡ l = cc in
      same ∙ one_reader_list r l given is h is_in (rw own h.stand) (sym spelled ∙ e)
  read_back list (Err fault) own e is is_in spelled some h = absurd (cc)

-- the bytes are too many with all messages, where they are with one more
pub no_room : (id text : List ℕ) (ms : List ReaderMsg) (i : ℕ) (d : ReaderMsg) (bytes : List ℕ)
    → i < length ms → bytes ≡ flat_map (reader_msg_bytes id text) (take i ms)
    → 35 < length bytes + length (reader_msg_bytes id text (get_or ms i d))
    → 35 < length (flat_map (reader_msg_bytes id text) ms)
no_room id text ms i d bytes below e over =
    omega (arith, length-flat_map-take (reader_msg_bytes id text) ms i d below, ap length e)
