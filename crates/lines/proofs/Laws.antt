-- Laws of digits. Assumes nothing.
use Rattle.std.proofs.Common.{◌≡◌, ℕ, zero, suc, ◌+◌, ◌-◌, ◌*◌, ◌%◌, ◌^◌, ◌<◌, ◌≤◌, Bool, true, false, ltb, leb, List, get_or, refl, mod-eq_of_lt, arith, lt-ltb, ltb-true, le-leb, leb-true}
use borrow.Author.Tests.{lt-leb}
use native.Mathlib.Nat.{pow-le-pow_right, pow-succ'}
use Rattle.base.proofs.Tests.{and_split}
use Rattle.events.specs.Events.{is_tester, is_unit, is_nobody, same_side}
use Rattle.events.specs.declared.Kind.{Kind}
use Rattle.events.specs.declared.Side.{Side}
use Rattle.events.specs.declared.Side.TheVariants.{Tester, Unit, Nobody}
use Rattle.words.specs.Digits.{is_digit}
use Rattle.lines.specs.Lines.{digit_on, takes_digit, start_read, end_read, read_byte}
use Rattle.lines.specs.Quick.{digits_at}
use Rattle.lines.specs.declared.Place.{Place}
use Rattle.lines.specs.declared.Place.TheVariants.{Start, End}
use Rattle.lines.specs.declared.Reading.{Reading}
use Rattle.lines.specs.declared.quick.Span.{Span}

-- of a time that takes one more digit there are fewer than 13
pub few_digits : (r : Reading) (b : ℕ) → takes_digit r b ≡ true → r.digits < 13
unfolding takes_digit
few_digits r b e = ltb-true r.digits 13 (and_split (is_digit b) (ltb r.digits 13) e).1

-- ---- a byte less 48, wrapped at 64 bits: at most 9 of a digit alone
pub low_digit : (b w : ℕ) → w ≡ b → b < 2 ^ 8 → (w + 18_446_744_073_709_551_568) % 18_446_744_073_709_551_616 ≤ 9
    → (is_digit b ≡ true) × ((w + 18_446_744_073_709_551_568) % 18_446_744_073_709_551_616 ≡ b - 0x30)
unfolding is_digit
low_digit b w e k h = (rw (le-leb 0x30 b (omega arith), le-leb b 0x39 (omega arith)), omega arith)

no_by : (b : ℕ) (t : Bool) → leb 0x30 b ≡ t → b < 2 ^ 8 → 9 < (b + 18_446_744_073_709_551_568) % 18_446_744_073_709_551_616 → is_digit b ≡ false
unfolding is_digit
no_by b false e k h = rw e
no_by b true e k h = let l = leb-true 0x30 b e in rw (e, lt-leb b 0x39 (omega arith))

pub no_digit : (b w : ℕ) → w ≡ b → b < 2 ^ 8 → 9 < (w + 18_446_744_073_709_551_568) % 18_446_744_073_709_551_616 → is_digit b ≡ false
no_digit b w e k h = no_by b (leb 0x30 b) refl k (omega (arith, e))

-- ---- a number of c digits, c at most 12, has room for one more
pub low : (n c : ℕ) → c ≤ 12 → n < 10 ^ c → n < 1_000_000_000_000
low n c h l = let le : 10 ^ c ≤ 10 ^ 12 = pow-le-pow_right {n = 10} (omega arith) {i = c} {j = 12} h in omega arith

pub next : (n c d : ℕ) → n < 10 ^ c → d ≤ 9 → n * 10 + d < 10 ^ (c + 1)
next n c d l h = let e : c + 1 ≡ suc c = omega arith in rw (e, pow-succ') (omega arith)

-- ---- the loop over digits: a turn, and its two ends
pub digits_on : (s : List ℕ) (n i v : ℕ) → 0 < n → is_digit (get_or s i 0) ≡ true
    → digits_at s n i v ≡ digits_at s (n - 1) (i + 1) (v * 10 + (get_or s i 0 - 0x30))
unfolding digits_at
digits_on s zero i v a e = absurd (omega arith)
digits_on s (suc n) i v a e = let p : suc n - 1 ≡ n = omega arith in rw (e, p)

pub digits_stop : (s : List ℕ) (n i v : ℕ) → 0 < n → is_digit (get_or s i 0) ≡ false → record { value = v; to = i } ≡ digits_at s n i v
unfolding digits_at
digits_stop s zero i v a e = absurd (omega arith)
digits_stop s (suc n) i v a e = rw e

pub digits_end : (s : List ℕ) (n i v : ℕ) → n ≤ 0 → record { value = v; to = i } ≡ digits_at s n i v
unfolding digits_at
digits_end s zero i v h = refl
digits_end s (suc n) i v h = absurd (omega arith)

-- they only go on, and by no more than so many places
within_by : (s : List ℕ) (k i n : ℕ) (b : Bool) → is_digit (get_or s i 0) ≡ b
    → (i + 1 ≤ (digits_at s k (i + 1) (n * 10 + (get_or s i 0 - 0x30))).to) × ((digits_at s k (i + 1) (n * 10 + (get_or s i 0 - 0x30))).to ≤ i + 1 + k)
    → (i ≤ (digits_at s (suc k) i n).to) × ((digits_at s (suc k) i n).to ≤ i + suc k)
unfolding digits_at
within_by s k i n true e h = rw e (omega (arith, h.0), omega (arith, h.1))
within_by s k i n false e h = rw e (omega arith, omega arith)

pub digits_within : (s : List ℕ) (k i n : ℕ) → (i ≤ (digits_at s k i n).to) × ((digits_at s k i n).to ≤ i + k)
unfolding digits_at
digits_within s zero i n = (omega arith, omega arith)
digits_within s (suc k) i n = within_by s k i n (is_digit (get_or s i 0)) refl (digits_within s k (i + 1) (n * 10 + (get_or s i 0 - 0x30)))

pub span_within : (s : List ℕ) (i : ℕ) (t : Span) → t ≡ digits_at s 13 i 0 → (i ≤ t.to) × (t.to ≤ i + 13)
span_within s i t e = rw e (digits_within s 13 i 0)

-- ---- the side of a byte: nobody, or another
pub nobody_same : (side : Side) → side ≡ Nobody → same_side side Nobody ≡ true
unfolding same_side is_tester is_unit is_nobody
nobody_same side e = rw e refl

pub others_differ : (side : Side) → (side ≡ Nobody → ⊥) → same_side side Nobody ≡ false
unfolding same_side is_tester is_unit is_nobody
others_differ Tester n = refl
others_differ Unit n = refl
others_differ Nobody n = absurd (n refl)

-- ---- a line as far as it was read
abbrev pub at : Kind → Side → ℕ → ℕ → ℕ → ℕ → Place → Reading
at kind side value start end digits place = record { start = start; end = end; digits = digits; value = value; kind = kind; side = side; place = place }

-- f is the reading of a time that has so many digits so far
abbrev pub Takes : (ℕ → ℕ → Reading) → Type 0
Takes f = (n c b : ℕ) → is_digit b ≡ true → c < 13 → n < 1_000_000_000_000 → read_byte (f n c) b ≡ f (n * 10 + (b - 0x30)) (c + 1)

-- that of the first of two times, and that of the second
pub takes_start : (kind : Kind) (side : Side) (v : ℕ) → Takes (λ n c. at kind side v n 0 c Start)
unfolding read_byte start_read takes_digit digit_on
takes_start kind side v n c b e h l = rw (e, lt-ltb c 13 h, mod-eq_of_lt l)

pub takes_end : (kind : Kind) (side : Side) (v start : ℕ) → Takes (λ n c. at kind side v start n c End)
unfolding read_byte end_read takes_digit digit_on
takes_end kind side v start n c b e h l = rw (e, lt-ltb c 13 h, mod-eq_of_lt l)

-- the space between the two
pub start_over : (kind : Kind) (side : Side) (v n c : ℕ) → 0 < c → read_byte (at kind side v n 0 c Start) 0x20 ≡ at kind side v n 0 0 End
unfolding read_byte start_read takes_digit is_digit
start_over kind side v n c h = rw (lt-ltb 0 c h)
