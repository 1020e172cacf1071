-- The reading of a line held against the paper (document 01, "The listing"), byte for byte: the five forms are written here as text, each is read
-- as its event, and no other line is read. Assumes nothing.
use Rattle.std.proofs.Common.{◌≡◌, ℕ, zero, suc, ◌+◌, ◌-◌, ◌*◌, ◌/◌, ◌%◌, ◌^◌, ◌<◌, ◌≤◌, Bool, true, false, ◌&&◌, eqb, ltb, ◌↔◌, List, [], ◌∷◌, ◌++◌, length, get_or, sym, refl, ap, ◌∙◌, mod-eq_of_lt, arith, ltb-false, ltb-true, le-ltb, lt-ltb, eqb-true, le-leb}
use mathlib.Core.Bool.{false≢true}
use Rattle.std.specs.Prelude.{if◌then◌else◌}
use Rattle.base.specs.Numbers.{unknown}
use Rattle.base.specs.Sums.{byte_sum}
use Rattle.base.proofs.Tests.{and_split, at_each}
use Rattle.units.specs.Units.{micros}
use Rattle.units.specs.declared.Micros.{Micros}
use Rattle.events.specs.Events.{kind_by, side_by, is_nobody, is_other, is_unknown, refusal}
use Rattle.events.specs.declared.Kind.{Kind}
use Rattle.events.specs.declared.Kind.TheVariants.{Address, WakeUp, Byte, Tick, Drop, Other}
use Rattle.events.specs.declared.Side.{Side}
use Rattle.events.specs.declared.Side.TheVariants.{Tester, Unit, Nobody}
use Rattle.events.specs.declared.Event.{Event}
use Rattle.words.specs.Digits.{is_digit, is_capital, hex_of}
use Rattle.lines.specs.Lines.{digit_on, fresh_reading, unreadable, timed, lettered, spaced, sided, high_read, low_read}
use Rattle.lines.specs.Lines.{takes_digit, time_read, start_read, end_read, read_byte, is_last, is_whole, no_event, event_of, read_all, line_of}
use Rattle.lines.specs.declared.Place.{Place}
use Rattle.lines.specs.declared.Place.TheVariants.{BeforeSide, AtSide, BeforeHex, High, Low, BeforeTime, Time, BeforeStart, Start, End}
use Rattle.lines.specs.declared.Reading.{Reading}
use Rattle.words.proofs.Within.{digit_within, capital_within}
use Rattle.lines.proofs.Laws.{few_digits, low, next, at, Takes, takes_start, takes_end, start_over}

-- ---- THE TEXT OF A LINE, without its line feed
-- "one space between"
infixr 60 ◌␣◌
abbrev pub ◌␣◌ : List ℕ → List ℕ → List ℕ
v ␣ w = v ++ (0x20 ∷ w)

-- "Hex digits are 0 to 9 and A to F": of a number below 16
unfoldable pub hex_digit : ℕ → ℕ
hex_digit n = if ltb n 10 then 0x30 + n else 0x41 + (n - 10)

-- "two hex digits"
abbrev pub hex_text : ℕ → List ℕ
hex_text v = hex_digit (v / 16) ∷ hex_digit (v % 16) ∷ []

-- "side t tester or e unit"
abbrev pub side_text : Side → List ℕ
side_text Tester = 0x74 ∷ []
side_text Unit = 0x65 ∷ []
side_text Nobody = []

-- "a time has 1 to 13 digits": zeros in front are digits too
pub record Digits (w : List ℕ) : Type 0 where
  pub some : 1 ≤ length w
  pub few : length w ≤ 13
  pub each : (i : ℕ) → i < length w → (0x30 ≤ get_or w i 0) × (get_or w i 0 ≤ 0x39)

-- what decimal digits say: each counts ten times what stands before it, and itself
unfoldable pub value_from : ℕ → List ℕ → ℕ
value_from n [] = n
value_from n (b ∷ bs) = value_from (n * 10 + (b - 0x30)) bs

abbrev pub value_of : List ℕ → ℕ
value_of w = value_from 0 w

-- "the event's letter, then those of side, two hex digits and decimal times (microseconds) that its kind has": A address, W wake-up, B byte, T tick, D drop
abbrev pub address_line : ℕ → List ℕ → List ℕ → List ℕ
address_line v t u = (0x41 ∷ []) ␣ hex_text v ␣ t ␣ u

abbrev pub wake_up_line : List ℕ → List ℕ → List ℕ
wake_up_line t u = (0x57 ∷ []) ␣ t ␣ u

abbrev pub byte_line : Side → ℕ → List ℕ → List ℕ → List ℕ
byte_line side v t u = (0x42 ∷ []) ␣ side_text side ␣ hex_text v ␣ t ␣ u

abbrev pub tick_line : List ℕ → List ℕ
tick_line t = (0x54 ∷ []) ␣ t

abbrev pub drop_line : List ℕ → List ℕ
drop_line t = (0x44 ∷ []) ␣ t

-- ---- laws: from the text to the event
AllDigits : List ℕ → Type 0
AllDigits w = (i : ℕ) → i < length w → (0x30 ≤ get_or w i 0) × (get_or w i 0 ≤ 0x39)

all_rest : (b : ℕ) (w : List ℕ) → AllDigits (b ∷ w) → AllDigits w
unfolding AllDigits
all_rest b w a i h = a (suc i) (omega arith)

all_first : (b : ℕ) (w : List ℕ) → AllDigits (b ∷ w) → (0x30 ≤ b) × (b ≤ 0x39)
unfolding AllDigits
all_first b w a = a 0 (omega arith)

is_digit_lem : (b : ℕ) → (0x30 ≤ b) × (b ≤ 0x39) → is_digit b ≡ true
unfolding is_digit
is_digit_lem b h = rw (le-leb 0x30 b h.0, le-leb b 0x39 h.1)

read_append : (r : Reading) (v w : List ℕ) → read_all r (v ++ w) ≡ read_all (read_all r v) w
unfolding read_all
read_append r [] w = refl
read_append r (b ∷ v) w = read_append (read_byte r b) v w

takes_time : (kind : Kind) (side : Side) (v : ℕ) → Takes (λ n c. at kind side v n n c Time)
unfolding read_byte time_read takes_digit digit_on
takes_time kind side v n c b e h l = rw (e, lt-ltb c 13 h, mod-eq_of_lt l)

-- digits after c others
digits_read : (f : ℕ → ℕ → Reading) → Takes f → (w : List ℕ) (n c : ℕ) → AllDigits w → c + length w ≤ 13 → n < 10 ^ c
    → read_all (f n c) w ≡ f (value_from n w) (c + length w)
unfolding read_all value_from
digits_read f t [] n c a l s = let z : c + 0 ≡ c = omega arith in rw z
digits_read f t (b ∷ w) n c a l s =
    let d = all_first b w a in
    let z : c + 1 + length w ≡ c + suc (length w) = omega arith in
    ap (λ (r : Reading). read_all r w) (t n c b (is_digit_lem b d) (omega arith) (low n c (omega arith) s))
    ∙ (digits_read f t w (n * 10 + (b - 0x30)) (c + 1) (all_rest b w a) (omega arith) (next n c (b - 0x30) s (omega (arith, d.0, d.1)))
    ∙ ap (f (value_from (n * 10 + (b - 0x30)) w)) z)

-- a time
time_read_lem : (f : ℕ → ℕ → Reading) → Takes f → (w : List ℕ) → Digits w → read_all (f 0 0) w ≡ f (value_of w) (length w)
unfolding AllDigits
time_read_lem f t w d =
    let z : 0 + length w ≡ length w = omega arith in
    digits_read f t w 0 0 d.each (omega (arith, d.few)) (omega arith) ∙ ap (f (value_of w)) z

-- the one time of a tick or a drop, and the line's end
one_time : (kind : Kind) (t : List ℕ) → Digits t
    → event_of (read_all (at kind Nobody 0 0 0 0 Time) t)
    ≡ record { start = micros (value_of t); end = micros (value_of t); kind = kind; side = Nobody; value = 0 }
unfolding event_of is_whole is_last
one_time kind t d = rw (time_read_lem (λ n c. at kind Nobody 0 n n c Time) (takes_time kind Nobody 0) t d, lt-ltb 0 (length t) d.some)

two_read : (kind : Kind) (side : Side) (v : ℕ) (t u : List ℕ) → Digits t → Digits u
    → read_all (at kind side v 0 0 0 Start) (t ␣ u) ≡ at kind side v (value_of t) (value_of u) (length u) End
unfolding read_all
two_read kind side v t u d e =
    read_append (at kind side v 0 0 0 Start) t (0x20 ∷ u)
    ∙ (ap (λ (r : Reading). read_all (read_byte r 0x20) u) (time_read_lem (λ n c. at kind side v n 0 c Start) (takes_start kind side v) t d)
    ∙ (ap (λ (r : Reading). read_all r u) (start_over kind side v (value_of t) (length t) d.some)
    ∙ time_read_lem (λ n c. at kind side v (value_of t) n c End) (takes_end kind side v (value_of t)) u e))

two_times : (kind : Kind) (side : Side) (v : ℕ) (t u : List ℕ) → Digits t → Digits u
    → event_of (read_all (at kind side v 0 0 0 Start) (t ␣ u))
    ≡ record { start = micros (value_of t); end = micros (value_of u); kind = kind; side = side; value = v }
unfolding event_of is_whole is_last
two_times kind side v t u d e = rw (two_read kind side v t u d e, lt-ltb 0 (length u) e.some)

-- the value of a hex digit
hex_back : (n : ℕ) → n < 16 → hex_of (hex_digit n) ≡ n
unfolding hex_of hex_digit is_digit is_capital
hex_back n h = eqb-true (hex_of (hex_digit n)) n (at_each (λ k. eqb (hex_of (hex_digit k)) k) 16 refl n h)

high_read_lem : (kind : Kind) (side : Side) (n : ℕ) → n < 16 → read_byte (at kind side 0 0 0 0 High) (hex_digit n) ≡ at kind side (n * 16) 0 0 0 Low
unfolding read_byte high_read
high_read_lem kind side n h = rw (hex_back n h, le-ltb 15 n (omega arith))

low_read_lem : (kind : Kind) (side : Side) (m n : ℕ) → m < 16 → n < 16 → read_byte (at kind side (m * 16) 0 0 0 Low) (hex_digit n) ≡ at kind side (m * 16 + n) 0 0 0 BeforeStart
unfolding read_byte low_read byte_sum
low_read_lem kind side m n h k = let q : (m * 16 + n) % 256 ≡ m * 16 + n = omega arith in rw (hex_back n k, le-ltb 15 n (omega arith), q)

space_read : (kind : Kind) (side : Side) (v : ℕ) → read_byte (at kind side v 0 0 0 BeforeStart) 0x20 ≡ at kind side v 0 0 0 Start
unfolding read_byte spaced
space_read kind side v = refl

value_read : (kind : Kind) (side : Side) (v : ℕ) (l : List ℕ) → v < 256
    → read_all (at kind side 0 0 0 0 High) (hex_text v ␣ l) ≡ read_all (at kind side v 0 0 0 Start) l
unfolding read_all
value_read kind side v l h =
    let q : v / 16 * 16 + v % 16 ≡ v = omega arith in
    ap (λ (r : Reading). read_all (read_byte (read_byte r (hex_digit (v % 16))) 0x20) l) (high_read_lem kind side (v / 16) (omega arith))
    ∙ (ap (λ (r : Reading). read_all (read_byte r 0x20) l) (low_read_lem kind side (v / 16) (v % 16) (omega arith) (omega arith))
    ∙ (ap (λ (x : ℕ). read_all (read_byte (at kind side x 0 0 0 BeforeStart) 0x20) l) q
    ∙ ap (λ (r : Reading). read_all r l) (space_read kind side v)))

-- ---- EACH FORM IS READ AS ITS EVENT, with any digits of its times
-- T and a time, which stands as the event's start and end
pub tick_line_reads : (t : List ℕ) → Digits t
    → line_of (tick_line t) ≡ record { start = micros (value_of t); end = micros (value_of t); kind = Tick; side = Nobody; value = 0 }
unfolding line_of read_all read_byte lettered kind_by spaced
tick_line_reads t d = one_time Tick t d

-- D and a time
pub drop_line_reads : (t : List ℕ) → Digits t
    → line_of (drop_line t) ≡ record { start = micros (value_of t); end = micros (value_of t); kind = Drop; side = Nobody; value = 0 }
unfolding line_of read_all read_byte lettered kind_by spaced
drop_line_reads t d = one_time Drop t d

-- W and two times: its fall and its rise
pub wake_up_line_reads : (t u : List ℕ) → Digits t → Digits u
    → line_of (wake_up_line t u) ≡ record { start = micros (value_of t); end = micros (value_of u); kind = WakeUp; side = Nobody; value = 0 }
unfolding line_of read_all read_byte lettered kind_by spaced
wake_up_line_reads t u d e = two_times WakeUp Nobody 0 t u d e

-- A, a value and two times
pub address_line_reads : (v : ℕ) (t u : List ℕ) → v < 256 → Digits t → Digits u
    → line_of (address_line v t u) ≡ record { start = micros (value_of t); end = micros (value_of u); kind = Address; side = Nobody; value = v }
unfolding line_of read_all read_byte lettered kind_by spaced
address_line_reads v t u h d e = ap event_of (value_read Address Nobody v (t ␣ u) h) ∙ two_times Address Nobody v t u d e

-- B, a side, which is t or e, a value and two times
pub byte_line_reads : (side : Side) (v : ℕ) (t u : List ℕ) → is_nobody side ≡ false → v < 256 → Digits t → Digits u
    → line_of (byte_line side v t u) ≡ record { start = micros (value_of t); end = micros (value_of u); kind = Byte; side = side; value = v }
unfolding line_of read_all read_byte lettered kind_by spaced side_by sided is_nobody
byte_line_reads Tester v t u n h d e = ap event_of (value_read Byte Tester v (t ␣ u) h) ∙ two_times Byte Tester v t u d e
byte_line_reads Unit v t u n h d e = ap event_of (value_read Byte Unit v (t ␣ u) h) ∙ two_times Byte Unit v t u d e
byte_line_reads Nobody v t u n h d e = absurd (false≢true (sym n))

-- ---- A LINE OF ONE OF THE FIVE FORMS
pub data Form (l : List ℕ) : Type 0 where
  address : (v : ℕ) (t u : List ℕ) → v < 256 → Digits t → Digits u → l ≡ address_line v t u → Form l
  wake_up : (t u : List ℕ) → Digits t → Digits u → l ≡ wake_up_line t u → Form l
  byte : (side : Side) (v : ℕ) (t u : List ℕ) → is_nobody side ≡ false → v < 256 → Digits t → Digits u → l ≡ byte_line side v t u → Form l
  tick : (t : List ℕ) → Digits t → l ≡ tick_line t → Form l
  drop : (t : List ℕ) → Digits t → l ≡ drop_line t → Form l

-- ---- laws: from a line that was read to its text
dead : (l : List ℕ) → is_whole (read_all unreadable l) ≡ true → ⊥
unfolding read_all read_byte is_whole is_last
dead [] e = false≢true e
dead (b ∷ l) e = dead l e

-- what was read on has passed its test
passed : (t : Bool) (r : Reading) (l : List ℕ) → is_whole (read_all (if t then r else unreadable) l) ≡ true → (t ≡ true) × (is_whole (read_all r l) ≡ true)
passed true r l e = (refl, e)
passed false r l e = absurd (dead l e)

kept : (t : Bool) (r : Reading) (l : List ℕ) → is_whole (read_all (if t then unreadable else r) l) ≡ true → (t ≡ false) × (is_whole (read_all r l) ≡ true)
kept true r l e = absurd (dead l e)
kept false r l e = (refl, e)

-- ---- digits after c others, up to the line's end
record Rest (c : ℕ) (l : List ℕ) : Type 0 where
  some : 1 ≤ c + length l
  few : c + length l ≤ 13
  each : AllDigits l

all_none : AllDigits []
unfolding AllDigits
all_none i h = absurd (omega arith)

all_more : (b : ℕ) (w : List ℕ) → is_digit b ≡ true → AllDigits w → AllDigits (b ∷ w)
unfolding AllDigits
all_more b w e a zero h = digit_within b e
all_more b w e a (suc i) h = a i (omega arith)

rest_end : (c : ℕ) → c ≤ 13 → ltb 0 c ≡ true → Rest c []
rest_end c h e = let l = ltb-true 0 c e in record { some = omega arith; few = omega arith; each = all_none }

rest_more : (c b : ℕ) (l : List ℕ) → is_digit b ≡ true → Rest (c + 1) l → Rest c (b ∷ l)
rest_more c b l e r = record { some = omega (arith, r.some); few = omega (arith, r.few); each = all_more b l e r.each }

rest_all : (l : List ℕ) → Rest 0 l → Digits l
unfolding AllDigits
rest_all l r = record { some = omega (arith, r.some); few = omega (arith, r.few); each = r.each }

digit_taken : (r : Reading) (b : ℕ) → takes_digit r b ≡ true → is_digit b ≡ true
unfolding takes_digit
digit_taken r b e = (and_split (is_digit b) (ltb r.digits 13) e).0

time_only : (kind : Kind) (side : Side) (v n m c : ℕ) (l : List ℕ) → c ≤ 13 → is_whole (read_all (at kind side v n m c Time) l) ≡ true → Rest c l
unfolding read_all read_byte time_read is_whole is_last
time_only kind side v n m c [] h e = rest_end c h e
time_only kind side v n m c (b ∷ l) h e =
    let r = at kind side v n m c Time in
    let p = passed (takes_digit r b) (timed r (digit_on n b) (digit_on n b) (c + 1) Time) l e in
    rest_more c b l (digit_taken r b p.0) (time_only kind side v (digit_on n b) (digit_on n b) (c + 1) l (omega (arith, few_digits r b p.0)) p.1)

end_only : (kind : Kind) (side : Side) (v n m c : ℕ) (l : List ℕ) → c ≤ 13 → is_whole (read_all (at kind side v n m c End) l) ≡ true → Rest c l
unfolding read_all read_byte end_read is_whole is_last
end_only kind side v n m c [] h e = rest_end c h e
end_only kind side v n m c (b ∷ l) h e =
    let r = at kind side v n m c End in
    let p = passed (takes_digit r b) (timed r n (digit_on m b) (c + 1) End) l e in
    rest_more c b l (digit_taken r b p.0) (end_only kind side v n (digit_on m b) (c + 1) l (omega (arith, few_digits r b p.0)) p.1)

-- ---- two times, of the first c digits more
record Two (c : ℕ) (l : List ℕ) : Type 0 where
  first : List ℕ
  second : List ℕ
  whole : l ≡ first ␣ second
  before : Rest c first
  behind : Digits second

start_by : (kind : Kind) (side : Side) (v n m c b : ℕ) (l : List ℕ) (t : Bool) → takes_digit (at kind side v n m c Start) b ≡ t → c ≤ 13
    → is_whole (read_all (if t then at kind side v (digit_on n b) m (c + 1) Start else if eqb b 0x20 && ltb 0 c then at kind side v n 0 0 End else unreadable) l) ≡ true
    → (c < 13 → is_whole (read_all (at kind side v (digit_on n b) m (c + 1) Start) l) ≡ true → Two (c + 1) l)
    → Two c (b ∷ l)
start_by kind side v n m c b l true f h e g =
    let r = at kind side v n m c Start in
    let w = g (few_digits r b f) e in
    record {
      first = b ∷ w.first;
      second = w.second;
      whole = ap (λ (x : List ℕ). b ∷ x) w.whole;
      before = rest_more c b w.first (digit_taken r b f) w.before;
      behind = w.behind;
    }
start_by kind side v n m c b l false f h e g =
    let p = passed (eqb b 0x20 && ltb 0 c) (at kind side v n 0 0 End) l e in
    let q = and_split (eqb b 0x20) (ltb 0 c) p.0 in
    record {
      first = [];
      second = l;
      whole = ap (λ (x : ℕ). x ∷ l) (eqb-true b 0x20 q.0);
      before = rest_end c h q.1;
      behind = rest_all l (end_only kind side v n 0 0 l (omega arith) p.1);
    }

start_only : (kind : Kind) (side : Side) (v n m c : ℕ) (l : List ℕ) → c ≤ 13 → is_whole (read_all (at kind side v n m c Start) l) ≡ true → Two c l
unfolding read_all read_byte start_read is_whole is_last
start_only kind side v n m c [] h e = absurd (false≢true e)
start_only kind side v n m c (b ∷ l) h e =
    start_by kind side v n m c b l (takes_digit (at kind side v n m c Start) b) refl h e
    (λ k f. start_only kind side v (digit_on n b) m (c + 1) l (omega arith) f)

-- ---- a space, and what follows
space_only : (r : Reading) (b : ℕ) (next : Place) (l : List ℕ) → is_whole (read_all (spaced r b next) l) ≡ true
    → (b ≡ 0x20) × (is_whole (read_all (timed r r.start r.end r.digits next) l) ≡ true)
unfolding spaced
space_only r b next l e =
    let p = passed (eqb b 0x20) (timed r r.start r.end r.digits next) l e in
    (eqb-true b 0x20 p.0, p.1)

-- after a space the only time
record OneTime (l : List ℕ) : Type 0 where
  time : List ℕ
  digits : Digits time
  whole : l ≡ 0x20 ∷ time

one_only : (kind : Kind) (l : List ℕ) → is_whole (read_all (at kind Nobody 0 0 0 0 BeforeTime) l) ≡ true → OneTime l
unfolding read_all read_byte is_whole is_last
one_only kind [] e = absurd (false≢true e)
one_only kind (b ∷ l) e =
    let p = space_only (at kind Nobody 0 0 0 0 BeforeTime) b Time l e in
    record { time = l; digits = rest_all l (time_only kind Nobody 0 0 0 0 l (omega arith) p.1); whole = ap (λ (x : ℕ). x ∷ l) p.0 }

-- two times, each after a space
record TwoTimes (l : List ℕ) : Type 0 where
  first : List ℕ
  second : List ℕ
  first_digits : Digits first
  second_digits : Digits second
  whole : l ≡ 0x20 ∷ (first ␣ second)

two_only : (kind : Kind) (side : Side) (v : ℕ) (l : List ℕ) → is_whole (read_all (at kind side v 0 0 0 BeforeStart) l) ≡ true → TwoTimes l
unfolding read_all read_byte is_whole is_last
two_only kind side v [] e = absurd (false≢true e)
two_only kind side v (b ∷ l) e =
    let p = space_only (at kind side v 0 0 0 BeforeStart) b Start l e in
    let w = start_only kind side v 0 0 0 l (omega arith) p.1 in
    record {
      first = w.first;
      second = w.second;
      first_digits = rest_all w.first w.before;
      second_digits = w.behind;
      whole = ap (λ (x : ℕ). x ∷ l) p.0 ∙ ap (λ (x : List ℕ). 0x20 ∷ x) w.whole;
    }

-- ---- hex digits
hex_by : (b : ℕ) (p q : Bool) → is_digit b ≡ p → is_capital b ≡ q → ltb 15 (if p then b - 0x30 else if q then b - 0x37 else 16) ≡ false
    → b ≡ hex_digit (if p then b - 0x30 else if q then b - 0x37 else 16)
unfolding hex_digit
hex_by b true q d c e = let w = digit_within b d in rw (lt-ltb (b - 0x30) 10 (omega (arith, w.0, w.1))) (omega (arith, w.0, w.1))
hex_by b false true d c e = let w = capital_within b c in rw (le-ltb (b - 0x37) 10 (omega (arith, w.0, w.1))) (omega (arith, w.0, w.1))
hex_by b false false d c e = absurd (false≢true (sym e))

hex_only : (b : ℕ) → ltb 15 (hex_of b) ≡ false → b ≡ hex_digit (hex_of b)
unfolding hex_of
hex_only b e = hex_by b (is_digit b) (is_capital b) refl refl e

record LowTimes (l : List ℕ) : Type 0 where
  low : ℕ
  small : low ≤ 15
  rest : List ℕ
  times : TwoTimes rest
  whole : l ≡ hex_digit low ∷ rest

low_only : (kind : Kind) (side : Side) (v : ℕ) (l : List ℕ) → is_whole (read_all (at kind side v 0 0 0 Low) l) ≡ true → LowTimes l
unfolding read_all read_byte low_read is_whole is_last
low_only kind side v [] e = absurd (false≢true e)
low_only kind side v (b ∷ l) e =
    let p = kept (ltb 15 (hex_of b)) (at kind side (byte_sum v (hex_of b)) 0 0 0 BeforeStart) l e in
    record {
      low = hex_of b;
      small = ltb-false 15 (hex_of b) p.0;
      rest = l;
      times = two_only kind side (byte_sum v (hex_of b)) l p.1;
      whole = ap (λ (x : ℕ). x ∷ l) (hex_only b p.0);
    }

-- a value and two times
record Valued (l : List ℕ) : Type 0 where
  value : ℕ
  small : value < 256
  first : List ℕ
  second : List ℕ
  first_digits : Digits first
  second_digits : Digits second
  whole : l ≡ 0x20 ∷ (hex_text value ␣ first ␣ second)

hex_both : (h n : ℕ) → n ≤ 15 → hex_text (h * 16 + n) ≡ hex_digit h ∷ hex_digit n ∷ []
hex_both h n k =
    let p : (h * 16 + n) / 16 ≡ h = omega arith in
    let q : (h * 16 + n) % 16 ≡ n = omega arith in
    rw (p, q)

high_only : (kind : Kind) (side : Side) (l : List ℕ) → is_whole (read_all (at kind side 0 0 0 0 High) l) ≡ true → Valued (0x20 ∷ l)
unfolding read_all read_byte high_read is_whole is_last
high_only kind side [] e = absurd (false≢true e)
high_only kind side (b ∷ l) e =
    let p = kept (ltb 15 (hex_of b)) (at kind side (hex_of b * 16) 0 0 0 Low) l e in
    let w = low_only kind side (hex_of b * 16) l p.1 in
    let h = ltb-false 15 (hex_of b) p.0 in
    record {
      value = hex_of b * 16 + w.low;
      small = omega (arith, w.small);
      first = w.times.first;
      second = w.times.second;
      first_digits = w.times.first_digits;
      second_digits = w.times.second_digits;
      whole =
          ap (λ (x : ℕ). 0x20 ∷ x ∷ l) (hex_only b p.0)
          ∙ (ap (λ (x : List ℕ). 0x20 ∷ hex_digit (hex_of b) ∷ x) (w.whole ∙ ap (λ (x : List ℕ). hex_digit w.low ∷ x) w.times.whole)
          ∙ ap (λ (x : List ℕ). 0x20 ∷ (x ␣ w.times.first ␣ w.times.second)) (sym (hex_both (hex_of b) w.low w.small)));
    }

value_only : (kind : Kind) (side : Side) (l : List ℕ) → is_whole (read_all (at kind side 0 0 0 0 BeforeHex) l) ≡ true → Valued l
unfolding read_all read_byte is_whole is_last
value_only kind side [] e = absurd (false≢true e)
value_only kind side (b ∷ l) e =
    let p = space_only (at kind side 0 0 0 0 BeforeHex) b High l e in
    let q : 0x20 ∷ l ≡ b ∷ l = ap (λ (x : ℕ). x ∷ l) (sym p.0) in
    rw q at (high_only kind side l p.1)

-- ---- the side of a byte
record Sided (l : List ℕ) : Type 0 where
  side : Side
  known : is_nobody side ≡ false
  rest : List ℕ
  behind : Valued rest
  whole : l ≡ side_text side ++ rest

side_by_lem : (b : ℕ) (l : List ℕ) (p q : Bool) → eqb b 0x74 ≡ p → eqb b 0x65 ≡ q
    → is_whole (read_all (sided (at Byte Nobody 0 0 0 0 AtSide) (if p then Tester else if q then Unit else Nobody)) l) ≡ true
    → Sided (b ∷ l)
unfolding sided is_nobody
side_by_lem b l true q ep eq e = record { side = Tester; known = refl; rest = l; behind = value_only Byte Tester l e; whole = ap (λ (x : ℕ). x ∷ l) (eqb-true b 0x74 ep) }
side_by_lem b l false true ep eq e = record { side = Unit; known = refl; rest = l; behind = value_only Byte Unit l e; whole = ap (λ (x : ℕ). x ∷ l) (eqb-true b 0x65 eq) }
side_by_lem b l false false ep eq e = absurd (dead l e)

side_only : (l : List ℕ) → is_whole (read_all (at Byte Nobody 0 0 0 0 AtSide) l) ≡ true → Sided l
unfolding read_all read_byte side_by is_whole is_last
side_only [] e = absurd (false≢true e)
side_only (b ∷ l) e = side_by_lem b l (eqb b 0x74) (eqb b 0x65) refl refl e

-- ---- each kind, after its letter
address_only : (l : List ℕ) → is_whole (read_all (at Address Nobody 0 0 0 0 BeforeHex) l) ≡ true → Form (0x41 ∷ l)
address_only l e =
    let w = value_only Address Nobody l e in
    address w.value w.first w.second w.small w.first_digits w.second_digits (ap (λ (x : List ℕ). 0x41 ∷ x) w.whole)

wake_up_only : (l : List ℕ) → is_whole (read_all (at WakeUp Nobody 0 0 0 0 BeforeStart) l) ≡ true → Form (0x57 ∷ l)
wake_up_only l e =
    let w = two_only WakeUp Nobody 0 l e in
    wake_up w.first w.second w.first_digits w.second_digits (ap (λ (x : List ℕ). 0x57 ∷ x) w.whole)

byte_only : (l : List ℕ) → is_whole (read_all (at Byte Nobody 0 0 0 0 BeforeSide) l) ≡ true → Form (0x42 ∷ l)
unfolding read_all read_byte is_whole is_last
byte_only [] e = absurd (false≢true e)
byte_only (b ∷ l) e =
    let p = space_only (at Byte Nobody 0 0 0 0 BeforeSide) b AtSide l e in
    let w = side_only l p.1 in
    let v = w.behind in
    byte w.side v.value v.first v.second w.known v.small v.first_digits v.second_digits
    (ap (λ (x : ℕ). 0x42 ∷ x ∷ l) p.0 ∙ ap (λ (x : List ℕ). 0x42 ∷ 0x20 ∷ x) (w.whole ∙ ap (λ (x : List ℕ). side_text w.side ++ x) v.whole))

tick_only : (l : List ℕ) → is_whole (read_all (at Tick Nobody 0 0 0 0 BeforeTime) l) ≡ true → Form (0x54 ∷ l)
tick_only l e = let w = one_only Tick l e in tick w.time w.digits (ap (λ (x : List ℕ). 0x54 ∷ x) w.whole)

drop_only : (l : List ℕ) → is_whole (read_all (at Drop Nobody 0 0 0 0 BeforeTime) l) ≡ true → Form (0x44 ∷ l)
drop_only l e = let w = one_only Drop l e in drop w.time w.digits (ap (λ (x : List ℕ). 0x44 ∷ x) w.whole)

-- a byte that is the letter
begins : (b c : ℕ) (l : List ℕ) → eqb b c ≡ true → Form (c ∷ l) → Form (b ∷ l)
begins b c l e f = rw (eqb-true b c e) f

letter_by : (b : ℕ) (l : List ℕ) (a w y t d : Bool) → eqb b 0x41 ≡ a → eqb b 0x57 ≡ w → eqb b 0x42 ≡ y → eqb b 0x54 ≡ t → eqb b 0x44 ≡ d
    → is_whole (read_all (lettered (if a then Address else if w then WakeUp else if y then Byte else if t then Tick else if d then Drop else Other)) l) ≡ true
    → Form (b ∷ l)
unfolding lettered
letter_by b l true w y t d ea ew ey et ed e = begins b 0x41 l ea (address_only l e)
letter_by b l false true y t d ea ew ey et ed e = begins b 0x57 l ew (wake_up_only l e)
letter_by b l false false true t d ea ew ey et ed e = begins b 0x42 l ey (byte_only l e)
letter_by b l false false false true d ea ew ey et ed e = begins b 0x54 l et (tick_only l e)
letter_by b l false false false false true ea ew ey et ed e = begins b 0x44 l ed (drop_only l e)
letter_by b l false false false false false ea ew ey et ed e = absurd (dead l e)

-- ---- NO OTHER LINE IS READ
-- a line that is read to its end is of one of the forms
pub reads_only_forms : (l : List ℕ) → is_whole (read_all fresh_reading l) ≡ true → Form l
unfolding read_all read_byte kind_by is_whole is_last
reads_only_forms [] e = absurd (false≢true e)
reads_only_forms (b ∷ l) e = letter_by b l (eqb b 0x41) (eqb b 0x57) (eqb b 0x42) (eqb b 0x54) (eqb b 0x44) refl refl refl refl refl e

other_by : (l : List ℕ) (b : Bool) → is_whole (read_all fresh_reading l) ≡ b → (Form l → ⊥) → line_of l ≡ no_event
unfolding line_of event_of
other_by l true e f = absurd (f (reads_only_forms l e))
other_by l false e f = rw e

-- "nor can any other form": the event of any other line is the one of no kind
pub no_other_form : (l : List ℕ) → (Form l → ⊥) → line_of l ≡ no_event
no_other_form l f = other_by l (is_whole (read_all fresh_reading l)) refl f

known_by : (l : List ℕ) (b : Bool) → is_whole (read_all fresh_reading l) ≡ b → is_other (line_of l).kind ≡ false → Form l
unfolding line_of event_of is_other
known_by l true e f = reads_only_forms l e
known_by l false e f = absurd (false≢true (sym (rw e at f)))

form_known : (l m : List ℕ) (e : Event) → l ≡ m → line_of m ≡ e → is_other e.kind ≡ false → is_other (line_of l).kind ≡ false
form_known l m e w r f = rw (w, r) f

forms_known : (l : List ℕ) → Form l → is_other (line_of l).kind ≡ false
unfolding is_other
forms_known l (address v t u h d e w) = form_known l _ _ w (address_line_reads v t u h d e) refl
forms_known l (wake_up t u d e w) = form_known l _ _ w (wake_up_line_reads t u d e) refl
forms_known l (byte side v t u n h d e w) = form_known l _ _ w (byte_line_reads side v t u n h d e) refl
forms_known l (tick t d w) = form_known l _ _ w (tick_line_reads t d) refl
forms_known l (drop t d w) = form_known l _ _ w (drop_line_reads t d) refl

-- A LINE IS READ EXACTLY IF IT IS OF ONE OF THE FORMS: then its event is of a kind
pub reads_exactly : (l : List ℕ) → (is_other (line_of l).kind ≡ false) ↔ Form l
reads_exactly l = (λ f. known_by l (is_whole (read_all fresh_reading l)) refl f, forms_known l)

-- ---- A LINE THAT CAN'T BE READ is refused with 1, whatever the link's clock and counts
pub unread_refused : (clock : Micros) (full : Bool) → refusal clock full no_event ≡ unknown
unfolding refusal is_unknown is_other
unread_refused clock full = refl
