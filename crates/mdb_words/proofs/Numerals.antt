-- Fields of digits: std's words of digits are those of `specs/Digits.antt`.
use Rattle.mdb_words.proofs.Words.{◌≡◌, ℕ, zero, suc, ◌+◌, ◌-◌, ◌*◌, ◌/◌, ◌%◌, ◌^◌, ◌<◌, ◌≤◌, true, Option, None, Some, List, [], ◌∷◌, ◌++◌, append_assoc, length, get_or, map, take, drop, length-drop, length-append, All, refl, sym, ap, subst, inl, inr, ◌∙◌, arith, cases_lt, nat_tests, decimal_is_IsNumeral, decimal_digit, decimal_step, length-decimal-le, All-nil, All-cons, All-head, All-tail, IsAsciiDigit, IsAsciiHexdigit, digit_value, decimal, digit_glyph, SomeIff, IfSome, IfNone, IsDecimal, IsHexWord, positional, IsCount, IsCounted, IsTime, hex_word}
use Rattle.std.proofs.Math.Nat.{pow-zero, pow-succ', pow-le-pow_right}
use Rattle.std.proofs.Math.ListN.{length-map}
use Rattle.std.proofs.lemmas.Int.Digits.{digits_value-lt}
use Rattle.std.proofs.lemmas.List.{take-append-drop, take_all}
use Rattle.std.proofs.lemmas.Str.{digit_value_digit}
use Rattle.std.proofs.lemmas.Str.Parse.{digit_from_value}
use Rattle.std.specs.Prelude.{⊤}
use Rattle.std.specs.Str.Parse.{AllDigits, digits_value, digits_value_after}

-- numbers of digits in a base

positional_after : (base n : ℕ) (ds : List ℕ)
    → n * base ^ length ds + positional base (map digit_value ds) ≡ digits_value_after base n ds
positional_after base n [] = omega (arith, ap (λ x. n * x) (pow-zero base))
positional_after base n (c ∷ cs) =
    omega (
      arith,
      ap (λ k. digit_value c * base ^ k) (length-map cs digit_value),
      ap (λ x. n * x) (pow-succ' base (length cs)),
      positional_after base (n * base + digit_value c) cs,
    )

pub positional_is : (base : ℕ) (ds : List ℕ)
    → positional base (map digit_value ds) ≡ digits_value base ds
positional_is base ds = omega (arith, positional_after base 0 ds)

-- digits of a base are bytes of a kind, where each is
from_values : (base : ℕ) (Kind : ℕ → Type 0) → ((c : ℕ) → digit_value c < base → Kind c)
    → (ds : List ℕ) → AllDigits base ds → All Kind ds
from_values base Kind each [] all = All-nil Kind
from_values base Kind each (c ∷ cs) all =
    All-cons Kind c cs (each c all.0) (from_values base Kind each cs all.1)

from_kind : (base : ℕ) (Kind : ℕ → Type 0) → ((c : ℕ) → Kind c → digit_value c < base)
    → (ds : List ℕ) → All Kind ds → AllDigits base ds
from_kind base Kind each [] all = tt
from_kind base Kind each (c ∷ cs) all =
    (each c (All-head Kind c cs all), from_kind base Kind each cs (All-tail Kind c cs all))

-- decimal digits

digits_from_values : (ds : List ℕ) → AllDigits 10 ds → All IsAsciiDigit ds
digits_from_values = from_values 10 IsAsciiDigit digit_from_value

values_from_digits : (ds : List ℕ) → All IsAsciiDigit ds → AllDigits 10 ds
values_from_digits =
    from_kind 10 IsAsciiDigit (λ c is. omega (arith, is, digit_value_digit c is))

pub IsDecimal-from : (most : ℕ) (field : List ℕ) (n : ℕ) → 1 ≤ length field → length field ≤ most
    → AllDigits 10 field → n ≡ digits_value 10 field → IsDecimal most field n
IsDecimal-from most field n some few all is =
    record {
      some = some;
      few = few;
      digits = digits_from_values field all;
      value = is ∙ sym (positional_is 10 field);
    }

pub IsDecimal-lt : (most : ℕ) (field : List ℕ) (n : ℕ) → IsDecimal most field n → n < 10 ^ most
IsDecimal-lt most field n h =
    let below = digits_value-lt 10 field (values_from_digits field h.digits) in
    let right : 10 ^ length field ≤ 10 ^ most = pow-le-pow_right (omega arith) h.few in
    omega (arith, positional_is 10 field, h.value)

pub IsDecimal-decimal : (most n : ℕ) → 0 < most → n < 10 ^ most → n < 2 ^ 64
    → IsDecimal most (decimal n) n
IsDecimal-decimal most n some few small =
    let is = decimal_is_IsNumeral n small in
    IsDecimal-from most (decimal n) n is.0.0 (length-decimal-le most n some few small) is.0.1
    (sym is.1)

-- what bytes count, each at its place, and all together

is_digit : (base none value count : ℕ) → (base ≤ value → count ≡ none) → count < none → value < base
is_digit base none value count other small =
    elim (cases_lt value base)
    [ inl digit ↦ digit | inr large ↦ absurd (omega (arith, other large, small)) ]

abbrev pub AreCounts : List ℕ → List ℕ → Type 0
AreCounts [] [] = ⊤
AreCounts (c ∷ cs) (n ∷ ns) = IsCount 10 100000000 (length cs) c n × AreCounts cs ns
AreCounts cs ns = ⊥

abbrev pub sum_of : List ℕ → ℕ
sum_of [] = 0
sum_of (n ∷ ns) = n + sum_of ns

value_front : (base c : ℕ) (cs : List ℕ)
    → digits_value base (c ∷ cs) ≡ digit_value c * base ^ length cs + digits_value base cs
value_front base c cs =
    omega (
      arith,
      positional_is base (c ∷ cs),
      positional_is base cs,
      ap (λ k. digit_value c * base ^ k) (length-map cs digit_value),
    )

counted_from : (ds ns : List ℕ) → AreCounts ds ns → IsCounted ds (sum_of ns)
counted_from [] [] counts = record { digits = λ small. tt; number = λ all. refl }
counted_from (c ∷ cs) (n ∷ ns) counts =
    let rest = counted_from cs ns counts.1 in
    record {
      digits = λ small. (
        is_digit 10 100000000 (digit_value c) n counts.0.other (omega (arith, small)),
        rest.digits (omega (arith, small)),
      );
      number = λ all. omega (arith, counts.0.digit all.0, rest.number all.1, value_front 10 c cs);
    }
counted_from ds ns counts = absurd counts

-- the elements of a list, from an index on
abbrev pub elements : ℕ → ℕ → List ℕ → List ℕ
elements i zero ds = []
elements i (suc k) ds = get_or ds i 0 ∷ elements (suc i) k ds

elements_behind : (i k c : ℕ) (ds : List ℕ) → elements (suc i) k (c ∷ ds) ≡ elements i k ds
elements_behind i zero c ds = refl
elements_behind i (suc k) c ds = ap (λ l. get_or ds i 0 ∷ l) (elements_behind (suc i) k c ds)

all_elements : (ds : List ℕ) → elements 0 (length ds) ds ≡ ds
all_elements [] = refl
all_elements (c ∷ cs) = ap (λ l. c ∷ l) (elements_behind 0 (length cs) c cs ∙ all_elements cs)

pub counted_at : (ds ns : List ℕ) (k count : ℕ) → length ds ≡ k → count ≡ sum_of ns
    → AreCounts (elements 0 k ds) ns → IsCounted ds count
counted_at ds ns k count long is counts =
    let whole : elements 0 k ds ≡ ds = ap (λ n. elements 0 n ds) (sym long) ∙ all_elements ds in
    rw is (counted_from ds ns (subst (λ l. AreCounts l ns) whole counts))

pub few_none : (ds : List ℕ) (count : ℕ) → IsCounted ds count → length ds ≤ 8 → 100000000 ≤ count
    → AllDigits 10 ds → ⊥
few_none ds count h few large all =
    let below = digits_value-lt 10 ds all in
    let right : 10 ^ length ds ≤ 10 ^ 8 = pow-le-pow_right (omega arith) few in
    omega (arith, h.number all)

-- digits that go on behind others

AllDigits-append : (base : ℕ) (front rest : List ℕ) → AllDigits base front → AllDigits base rest
    → AllDigits base (front ++ rest)
AllDigits-append base [] rest h r = r
AllDigits-append base (c ∷ cs) rest h r = (h.0, AllDigits-append base cs rest h.1 r)

AllDigits-split : (base : ℕ) (front rest : List ℕ) → AllDigits base (front ++ rest)
    → AllDigits base front × AllDigits base rest
AllDigits-split base [] rest all = (tt, all)
AllDigits-split base (c ∷ cs) rest all =
    let others = AllDigits-split base cs rest all.1 in
    ((all.0, others.0), others.1)

value_append : (base n : ℕ) (front rest : List ℕ)
    → digits_value_after base n (front ++ rest)
    ≡ digits_value_after base (digits_value_after base n front) rest
value_append base n [] rest = refl
value_append base n (c ∷ cs) rest = value_append base (n * base + digit_value c) cs rest

-- a number was read of the front, and the rest is left
pub record IsSoFar (ds : List ℕ) (number : ℕ) (rest : List ℕ) : Type 0 where
  pub front : List ℕ
  pub split : ds ≡ front ++ rest
  pub read : AllDigits 10 front × (number ≡ digits_value 10 front)
  pub few : length rest < 8

pub none_so_far : (ds rest : List ℕ) (number : ℕ) → number ≡ 0 → rest ≡ ds → length ds < 8
    → IsSoFar ds number rest
none_so_far ds rest number none all few =
    record { front = []; split = sym all; read = (tt, none); few = omega (arith, ap length all) }

pub front_so_far : (k : ℕ) (ds rest : List ℕ) (number : ℕ)
    → rest ≡ take (length ds - k) (drop k ds)
    → AllDigits 10 (take k ds) × (number ≡ digits_value 10 (take k ds)) → length ds ≤ k + 7
    → IsSoFar ds number rest
front_so_far k ds rest number is read few =
    let whole : rest ≡ drop k ds =
    is ∙ take_all (length ds - k) (drop k ds) (omega (arith, length-drop k ds)) in
    record {
      front = take k ds;
      split = sym (ap (λ l. take k ds ++ l) whole ∙ take-append-drop k ds);
      read = read;
      few = omega (arith, ap length whole, length-drop k ds);
    }

pub part_digits : (ds front rest : List ℕ) → ds ≡ front ++ rest → AllDigits 10 ds
    → AllDigits 10 front × AllDigits 10 rest
part_digits ds front rest split all =
    AllDigits-split 10 front rest (subst (λ l. AllDigits 10 l) split all)

pub goes_on : (ds rest : List ℕ) (high low power : ℕ) → IsSoFar ds high rest
    → power ≡ 10 ^ length rest → AllDigits 10 rest × (low ≡ digits_value 10 rest)
    → AllDigits 10 ds × (high * power + low ≡ digits_value 10 ds)
goes_on ds rest high low power so_far is read =
    let same : digits_value 10 ds ≡ digits_value 10 (so_far.front ++ rest) =
    ap (λ l. digits_value 10 l) so_far.split in
    let value = positional_after 10 high rest in
    let scaled : high * power ≡ high * 10 ^ length rest = ap (λ p. high * p) is in
    let behind : digits_value_after 10 high rest
    ≡ digits_value_after 10 (digits_value 10 so_far.front) rest =
    ap (λ n. digits_value_after 10 n rest) so_far.read.1 in (
      rw so_far.split (AllDigits-append 10 so_far.front rest so_far.read.0 read.0),
      omega (
        arith,
        same,
        value,
        scaled,
        behind,
        value_append 10 0 so_far.front rest,
        positional_is 10 rest,
        read.1,
      ),
    )

pub small_number : (most : ℕ) (ds : List ℕ) (n : ℕ) → length ds ≤ most
    → AllDigits 10 ds × (n ≡ digits_value 10 ds) → n < 10 ^ most
small_number most ds n few read =
    let below = digits_value-lt 10 ds read.0 in
    let right : 10 ^ length ds ≤ 10 ^ most = pow-le-pow_right (omega arith) few in
    omega (arith, read.1)

-- what reading a field answers

pub decimal_some : (most : ℕ) (field : List ℕ) (read : Option ℕ) → 1 ≤ length field
    → length field ≤ most → SomeIff read (AllDigits 10 field) (digits_value 10 field)
    → IfSome read (IsDecimal most field)
decimal_some most field None some few h = tt
decimal_some most field (Some n) some few h = IsDecimal-from most field n some few h.0 h.1

pub decimal_none : (most : ℕ) (field : List ℕ) (read : Option ℕ)
    → SomeIff read (AllDigits 10 field) (digits_value 10 field)
    → IfNone read ((n : ℕ) → IsDecimal most field n → ⊥)
decimal_none most field None h = λ n decimal. h (values_from_digits field decimal.digits)
decimal_none most field (Some n) h = tt

pub time_some : (field : List ℕ) (read : Option ℕ)
    → SomeIff read (IsTime field) (digits_value 10 field) → IfSome read (IsDecimal 18 field)
time_some field None h = tt
time_some field (Some n) h = IsDecimal-from 18 field n h.0.0 h.0.1 h.0.2 h.1

pub time_none : (field : List ℕ) (read : Option ℕ)
    → SomeIff read (IsTime field) (digits_value 10 field)
    → IfNone read ((n : ℕ) → IsDecimal 18 field n → ⊥)
time_none field None h =
    λ n decimal. h (decimal.some, decimal.few, values_from_digits field decimal.digits)
time_none field (Some n) h = tt

pub decimal_below : (most : ℕ) (field : List ℕ) (read : Option ℕ)
    → IfSome read (IsDecimal most field) → IfSome read (λ n. n < 10 ^ most)
decimal_below most field None is = tt
decimal_below most field (Some n) is = IsDecimal-lt most field n is

-- decimals as they are appended

pub decimal_longer : (n : ℕ) → 10 ≤ n → n < 2 ^ 64
    → length (decimal (n / 10)) + 1 ≡ length (decimal n)
decimal_longer n ten small =
    omega (
      arith,
      ap length (decimal_step n ten small),
      length-append (decimal (n / 10)) ((48 + n % 10) ∷ []),
    )

digit_glyph_decimal : (d : ℕ) → d < 10 → digit_glyph true d ≡ 48 + d
digit_glyph_decimal d h = grind (arith, nat_tests)

module _ (old front : List ℕ) (n : ℕ) where
  module _ (ten : 10 ≤ n) (small : n < 2 ^ 64) (is : front ≡ old ++ decimal (n / 10)) where
    pub decimal_append_room : length old + length (decimal n) ≤ 32 → length front < 32
    decimal_append_room room =
        let longer = decimal_longer n ten small in
        omega (arith, ap length is, length-append old (decimal (n / 10)), longer)

    pub decimal_append : (new : List ℕ) → new ≡ front ++ digit_glyph true (n % 10) ∷ []
        → new ≡ old ++ decimal n
    decimal_append new appends =
        let glyph = digit_glyph_decimal (n % 10) (omega arith) in
        let step = decimal_step n ten small in
        let regroup = append_assoc old (decimal (n / 10)) ((48 + n % 10) ∷ []) in
        cc

  module _ (ten : n < 10) (is : front ≡ old) where
    pub decimal_append_digit_room : length old + length (decimal n) ≤ 32 → length front < 32
    decimal_append_digit_room room = omega (arith, ap length is, ap length (decimal_digit n ten))

    pub decimal_append_digit : (new : List ℕ) → new ≡ front ++ digit_glyph true (n % 10) ∷ []
        → new ≡ old ++ decimal n
    decimal_append_digit new appends =
        let whole : n % 10 ≡ n = omega arith in
        let glyph = digit_glyph_decimal n ten in
        let digit = decimal_digit n ten in
        cc

-- a start alone takes 18 bytes at most
pub length_start : (start : ℕ) (new text : List ℕ) → new ≡ [] → text ≡ new ++ decimal start
    → start < 10 ^ 18 → length text ≤ 18
length_start start new text empty is early =
    omega (
      arith,
      ap length is,
      ap length empty,
      length-append new (decimal start),
      length-decimal-le 18 start (omega arith) early (omega arith),
    )

pub decimal_digits : (n : ℕ) → n < 2 ^ 64 → All IsAsciiDigit (decimal n)
decimal_digits n small = digits_from_values (decimal n) (decimal_is_IsNumeral n small).0.1

-- hexadecimal digits

hex_from_value : (c : ℕ) → digit_value c < 16 → IsAsciiHexdigit c
hex_from_value c h = grind (arith, nat_tests)

value_from_hex : (c : ℕ) → IsAsciiHexdigit c → digit_value c < 16
value_from_hex c h = grind (arith, nat_tests)

pub IsHexWord-from : (field : List ℕ) (word : ℕ) → length field ≡ 3 → AllDigits 16 field
    → word ≡ digits_value 16 field → word < 512 → IsHexWord field word
IsHexWord-from field word three all is small =
    record {
      three = three;
      digits = from_values 16 IsAsciiHexdigit hex_from_value field all;
      value = is ∙ sym (positional_is 16 field);
      small = small;
    }

pub IsHexWord-digits : (field : List ℕ) (word : ℕ) → IsHexWord field word
    → AllDigits 16 field × (word ≡ digits_value 16 field)
IsHexWord-digits field word h =
    (from_kind 16 IsAsciiHexdigit value_from_hex field h.digits, h.value ∙ positional_is 16 field)

-- what the counts of a field's three bytes tell

pub hex_some : (field : List ℕ) (a b c : ℕ) → length field ≡ 3
    → IsCount 16 512 2 (get_or field 0 0) a → IsCount 16 512 1 (get_or field 1 0) b
    → IsCount 16 512 0 (get_or field 2 0) c → a + b + c < 512 → IsHexWord field (a + b + c)
hex_some (x ∷ y ∷ z ∷ []) a b c three first second third small =
    let p = is_digit 16 512 (digit_value x) a first.other (omega arith) in
    let q = is_digit 16 512 (digit_value y) b second.other (omega arith) in
    let r = is_digit 16 512 (digit_value z) c third.other (omega arith) in
    IsHexWord-from (x ∷ y ∷ z ∷ []) _ refl (p, (q, (r, tt)))
    (omega (arith, first.digit p, second.digit q, third.digit r)) small
hex_some field a b c three first second third small = absurd (omega arith)

pub hex_none : (field : List ℕ) (a b c : ℕ) → IsCount 16 512 2 (get_or field 0 0) a
    → IsCount 16 512 1 (get_or field 1 0) b → IsCount 16 512 0 (get_or field 2 0) c
    → 512 ≤ a + b + c → (word : ℕ) → IsHexWord field word → ⊥
hex_none (x ∷ y ∷ z ∷ []) a b c first second third large word hex =
    let read = IsHexWord-digits (x ∷ y ∷ z ∷ []) word hex in
    omega (
      arith,
      first.digit read.0.0,
      second.digit read.0.1.0,
      third.digit read.0.1.1.0,
      read.1,
      hex.small,
    )
hex_none field a b c first second third large word hex =
    absurd (let three = hex.three in omega arith)

glyph_value : (d : ℕ) → d < 16 → digit_value (digit_glyph true d) ≡ d
glyph_value d h = grind (arith, nat_tests)

pub IsHexWord-hex_word : (word : ℕ) → word < 512 → IsHexWord (hex_word word) word
IsHexWord-hex_word word small =
    let a = glyph_value (word / 256) (omega arith) in
    let b = glyph_value (word / 16 % 16) (omega arith) in
    let c = glyph_value (word % 16) (omega arith) in
    IsHexWord-from (hex_word word) word refl (omega arith, (omega arith, (omega arith, tt)))
    (omega arith) small
