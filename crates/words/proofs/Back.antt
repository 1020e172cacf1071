-- What is written reads back: a byte by its two digits, bytes by theirs, and a number by its decimal digits. Assumes nothing.
use Prim.Native.Nat.{ℕ, zero, suc, ◌+◌, ◌*◌, ◌-◌, ◌/◌, ◌%◌, ◌^◌, ◌≤◌, ◌<◌}
use mathlib.Core.Path.{◌≡◌, refl, sym, ◌∙◌}
use mathlib.Core.Bool.{Bool, true, ◌&&◌}
use mathlib.Core.List.{List, [], ◌∷◌}
use mathlib.Core.Logic.{⊎_elim}
use lib.Dec.{eqb}
use lib.ListN.{length, get_or, take, get_or-append}
use lib.Seq.{take-suc, take-length, get_or_at}
use borrow.Author.Tests.{eqb-true, le-leb}
use native.Mathlib.Omega.{arith}
use native.Mathlib.Nat.{eq-or-lt_of_le, le_of_suc-le-suc}
use Rattle.base.proofs.Tests.{and_split, up_to, at_each}
use Rattle.words.specs.Digits.{is_digit, is_capital, hex_of, raised_of, either_of, is_hex, pair_of, glyph_of, high_of, low_of}
use Rattle.words.specs.Reading.{number_by, pairs}
use Rattle.words.specs.Writing.{hex_text, digit_count, digits_of}
use Rattle.words.proofs.Spelling.{length_digits}
use Rattle.words.proofs.Numbers.{value_from, value_of, number_reads}

-- ---- a byte: antt computes it for each
backs : ℕ → Bool
unfolding is_digit is_capital hex_of raised_of either_of is_hex pair_of glyph_of
backs x = is_hex (high_of x) && (is_hex (low_of x) && eqb (pair_of (high_of x) (low_of x)) x)

all_back : up_to backs 256 ≡ true
unfolding backs is_digit is_capital hex_of raised_of either_of is_hex pair_of glyph_of
all_back = refl

-- both are hex digits, and they are that byte's
pub record PairBack (x : ℕ) : Type 0 where
  pub high : is_hex (high_of x) ≡ true
  pub low : is_hex (low_of x) ≡ true
  pub value : pair_of (high_of x) (low_of x) ≡ x

pub pair_back : (x : ℕ) → x < 256 → PairBack x
unfolding backs
pair_back x h =
    let p = and_split (is_hex (high_of x)) (is_hex (low_of x) && eqb (pair_of (high_of x) (low_of x)) x) (at_each backs 256 all_back x h) in
    let q = and_split (is_hex (low_of x)) (eqb (pair_of (high_of x) (low_of x)) x) p.1 in
    record { high = p.0; low = q.0; value = eqb-true (pair_of (high_of x) (low_of x)) x q.1 }

-- ---- bytes
hex_high : (s : List ℕ) (k : ℕ) → k < length s → get_or (hex_text s) (2 * k) 0 ≡ high_of (get_or s k 0)
unfolding hex_text
hex_high [] k h = absurd (omega arith)
hex_high (x ∷ s) zero h = refl
hex_high (x ∷ s) (suc k) h = let e : 2 * suc k ≡ suc (suc (2 * k)) = omega arith in rw e (hex_high s k (le_of_suc-le-suc h))

hex_low : (s : List ℕ) (k : ℕ) → k < length s → get_or (hex_text s) (2 * k + 1) 0 ≡ low_of (get_or s k 0)
unfolding hex_text
hex_low [] k h = absurd (omega arith)
hex_low (x ∷ s) zero h = refl
hex_low (x ∷ s) (suc k) h = let e : 2 * suc k + 1 ≡ suc (suc (2 * k + 1)) = omega arith in rw e (hex_low s k (le_of_suc-le-suc h))

some_back : (s : List ℕ) → ((i : ℕ) → get_or s i 0 < 256) → (k : ℕ) → k ≤ length s → pairs k (hex_text s) ≡ take k s
unfolding pairs
some_back s b zero h = refl
some_back s b (suc k) h =
    rw (some_back s b k (omega arith), hex_high s k h, hex_low s k h, (pair_back (get_or s k 0) (b k)).value, take-suc s k 0 h)

-- the digits that are written for bytes read back as these bytes
pub bytes_back : (s : List ℕ) → ((i : ℕ) → get_or s i 0 < 256) → pairs (length s) (hex_text s) ≡ s
bytes_back s b = some_back s b (length s) (omega arith) ∙ take-length s

-- ---- a number
digit_is : (n : ℕ) → is_digit (48 + n % 10) ≡ true
unfolding is_digit
digit_is n = rw (le-leb 0x30 (48 + n % 10) (omega arith), le-leb (48 + n % 10) 0x39 (omega arith))

digits_are : (k n i : ℕ) → i < k → is_digit (get_or (digits_of k n) i 0) ≡ true
unfolding digits_of
digits_are zero n i h = absurd (omega arith)
digits_are (suc k) n i h =
    let l = length_digits k (n / 10) in
    ⊎_elim
    (λ e. rw (get_or_at (digits_of k (n / 10)) (48 + n % 10) [] 0 i (l ∙ sym e)) (digit_is n))
    (λ g. rw (get_or-append (digits_of k (n / 10)) ((48 + n % 10) ∷ []) 0 i (rw l g)) (digits_are k (n / 10) i g))
    (eq-or-lt_of_le (le_of_suc-le-suc h))

value_same : (v : ℕ) (ds : List ℕ) → ((i : ℕ) → i < length ds → is_digit (get_or ds i 0) ≡ true) → number_by v ds ≡ value_from v ds
unfolding number_by value_from
value_same v [] b = refl
value_same v (d ∷ ds) b = rw (b 0 (omega arith)) (value_same (v * 10 + (d - 48)) ds (λ i h. b (suc i) (omega arith)))

-- the digits that are written for a number of 64 bits read back as that number
pub number_back : (n : ℕ) → n < 10 ^ 20 → number_by 0 (digits_of (digit_count 19 n) n) ≡ n
unfolding value_of
number_back n h =
    let k = digit_count 19 n in
    value_same 0 (digits_of k n) (λ i g. digits_are k n i (rw (length_digits k n) at g)) ∙ number_reads n h
