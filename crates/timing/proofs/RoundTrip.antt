-- Codes become windows and windows codes, and each way back gives what was there: the promises of `windows_of` and `codes_of` undo each other
-- wherever one of them is not 10. Assumes nothing.
use mathlib.Core.Path.{◌≡◌, refl, ap}
use mathlib.Core.Bool.{Bool, true, false, ◌&&◌}
use mathlib.Core.Logic.{◌↔◌}
use Prim.Native.Nat.{ℕ, ◌/◌, ◌≤◌, ◌<◌}
use native.Mathlib.Omega.{arith}
use borrow.Author.Tests.{eqb-true, le-leb, leb-true, eq-eqb}
use lib.Dec.{eqb, leb}
use Rattle.std.specs.Prelude.{if◌then◌else◌}
use Rattle.base.specs.Numbers.{taken}
use Rattle.base.proofs.Tests.{and_split, taken_by, up_to, at_each, by_test}
use Rattle.units.specs.Units.{Step25, byte_of, whole_steps, half_of, steps25_of, steps250_of, is_same}
use Rattle.units.proofs.Counting.{steps_back}
use Rattle.timing.specs.Timing.{is_unlimited, is_allowed, min_of, p2_half, p2_max_of, p3_max_of, windows_by, not_decoded, decoded_of}
use Rattle.timing.specs.Timing.{min_code, p2_steps_code, p2_code, p3_code, codes_by, same_windows, not_encoded, encoded_of}
use Rattle.timing.specs.Answers.{Decoded, Encoded}
use Rattle.timing.specs.Coded.{Bytes, HasCodes}
use Rattle.timing.specs.declared.Limit.{Limit}
use Rattle.timing.specs.declared.Windows.{Windows}
use Rattle.timing.specs.declared.Codes.{Codes}

-- what is taken was allowed
pub decoded_allowed : (c : Codes) → (decoded_of c).no ≡ taken → is_allowed (windows_by c) ≡ true
unfolding decoded_of
decoded_allowed c e =
    taken_by (λ (d : Decoded). d.no) (is_allowed (windows_by c)) (record { no = taken; windows = windows_by c }) not_decoded (λ z. omega arith) e

pub decoded_is : (c : Codes) → is_allowed (windows_by c) ≡ true → decoded_of c ≡ record { no = taken; windows = windows_by c }
unfolding decoded_of
decoded_is c a = rw a

pub encoded_test : (w : Windows) → (encoded_of w).no ≡ taken → (is_allowed w && same_windows (windows_by (codes_by w)) w) ≡ true
unfolding encoded_of
encoded_test w e =
    taken_by (λ (d : Encoded). d.no) (is_allowed w && same_windows (windows_by (codes_by w)) w) (record { no = taken; codes = codes_by w }) not_encoded (λ z. omega arith) e

-- windows that are the same are equal
same_equal : (a b : Windows) → same_windows a b ≡ true → a ≡ b
unfolding same_windows
same_equal a b e =
    let s5 = and_split (is_same a.p2min b.p2min && is_same a.p2max.0 b.p2max.0 && is_same a.p3min b.p3min && is_same a.p3max.0 b.p3max.0) _ e in
    let s4 = and_split (is_same a.p2min b.p2min && is_same a.p2max.0 b.p2max.0 && is_same a.p3min b.p3min) _ s5.0 in
    let s3 = and_split (is_same a.p2min b.p2min && is_same a.p2max.0 b.p2max.0) _ s4.0 in
    let s2 = and_split (is_same a.p2min b.p2min) _ s3.0 in
    let p1 = eqb-true a.p2min.0 b.p2min.0 s2.0 in
    let p2 = eqb-true a.p2max.0.0 b.p2max.0.0 s2.1 in
    let p3 = eqb-true a.p3min.0 b.p3min.0 s3.1 in
    let p4 = eqb-true a.p3max.0.0 b.p3max.0.0 s4.1 in
    let p5 = eqb-true a.p4min.0 b.p4min.0 s5.1 in
    λ i. record {
      p2min = record { 0 = p1 i };
      p2max = record { 0 = record { 0 = p2 i } };
      p3min = record { 0 = p3 i };
      p3max = record { 0 = record { 0 = p4 i } };
      p4min = record { 0 = p5 i };
    }

same_self : (w : Windows) → same_windows w w ≡ true
unfolding same_windows
same_self w =
    simp (eq-eqb w.p2min.0 _ refl, eq-eqb w.p2max.0.0 _ refl, eq-eqb w.p3min.0 _ refl, eq-eqb w.p3max.0.0 _ refl, eq-eqb w.p4min.0 _ refl)

-- WINDOWS COME BACK: the codes of windows stand for those windows
pub windows_back : (w : Windows) → (encoded_of w).no ≡ taken → decoded_of (encoded_of w).codes ≡ record { no = taken; windows = w }
unfolding encoded_of decoded_of
windows_back w e =
    let t = encoded_test w e in
    let p = and_split (is_allowed w) (same_windows (windows_by (codes_by w)) w) t in
    rw (t, same_equal (windows_by (codes_by w)) w p.1, p.0)

-- a code of a minimum, by the law on steps
min_forth : (k : ℕ) → k ≤ 255 → min_code (min_of k) ≡ k
unfolding min_code min_of byte_of
min_forth k h = rw (steps_back 500 k (omega arith) (omega arith), le-leb k 255 h)

-- each code of a maximum is the code of its limit: a test over the 256 codes, for both maxima
comes : (Limit → ℕ) → (ℕ → Limit) → ℕ → Bool
comes code_of max_of k = eqb (code_of (max_of k)) k

max_forth : (code_of : Limit → ℕ) (max_of : ℕ → Limit) → up_to (comes code_of max_of) 256 ≡ true → (k : ℕ) → k < 256 → code_of (max_of k) ≡ k
unfolding comes
max_forth code_of max_of t k h = eqb-true (code_of (max_of k)) k (at_each (comes code_of max_of) 256 t k h)

p2_forth : (k : ℕ) → k < 256 → p2_code (p2_max_of k) ≡ k
unfolding comes p2_code p2_max_of p2_half p2_steps_code is_unlimited whole_steps
p2_forth = max_forth p2_code p2_max_of refl

p3_forth : (k : ℕ) → k < 256 → p3_code (p3_max_of k) ≡ k
unfolding comes p3_code p3_max_of is_unlimited byte_of whole_steps
p3_forth = max_forth p3_code p3_max_of refl

codes_forth : (c : Codes) → Bytes c → codes_by (windows_by c) ≡ c
unfolding codes_by windows_by
codes_forth c b =
    rw (
      min_forth c.p2min b.p2min_byte,
      p2_forth c.p2max (omega (arith, b.p2max_byte)),
      min_forth c.p3min b.p3min_byte,
      p3_forth c.p3max (omega (arith, b.p3max_byte)),
      min_forth c.p4min b.p4min_byte,
    )

-- CODES COME BACK: the windows that allowed codes stand for have those codes
pub codes_back : (c : Codes) → Bytes c → (decoded_of c).no ≡ taken → encoded_of (decoded_of c).windows ≡ record { no = taken; codes = c }
unfolding encoded_of
codes_back c b e =
    let a = decoded_allowed c e in
    rw (decoded_is c a, codes_forth c b, a, same_self (windows_by c))

-- codes that stand for w, if there are any, are its codes
pub only_codes : (w : Windows) (c : Codes) → Bytes c → decoded_of c ≡ record { no = taken; windows = w } → encoded_of w ≡ record { no = taken; codes = c }
only_codes w c b e = rw (← ap (λ (d : Decoded). d.windows) e) (codes_back c b (ap (λ (d : Decoded). d.no) e))

byte_small : (n : ℕ) → byte_of n ≤ 255
unfolding byte_of
byte_small n = by_test (λ (k : ℕ). k ≤ 255) (leb n 255) (λ e. leb-true n 255 e) (λ e. omega arith)

steps_small : (s : Step25) → p2_steps_code s ≤ 255
unfolding p2_steps_code
steps_small s =
    by_test (λ (k : ℕ). k ≤ 255) (leb s.0 0xF0) (λ e. let h = leb-true s.0 0xF0 e in omega arith)
    (λ _. by_test (λ (k : ℕ). k ≤ 255) (leb (s.0 / 256) 14) (λ e. let h = leb-true (s.0 / 256) 14 e in omega arith) (λ _. omega arith))

p2_small : (l : Limit) → p2_code l ≤ 255
unfolding p2_code
p2_small l = by_test (λ (k : ℕ). k ≤ 255) (is_unlimited l) (λ e. omega arith) (λ e. steps_small (steps25_of l.0))

p3_small : (l : Limit) → p3_code l ≤ 255
unfolding p3_code
p3_small l = by_test (λ (k : ℕ). k ≤ 255) (is_unlimited l) (λ e. omega arith) (λ e. byte_small (steps250_of l.0).0)

codes_bytes : (w : Windows) → Bytes (codes_by w)
unfolding codes_by min_code
codes_bytes w = record {
  p2min_byte = byte_small (half_of w.p2min).0;
  p2max_byte = p2_small w.p2max;
  p3min_byte = byte_small (half_of w.p3min).0;
  p3max_byte = p3_small w.p3max;
  p4min_byte = byte_small (half_of w.p4min).0;
}

-- WINDOWS GET CODES exactly if allowed codes stand for them ..
pub codes_exactly : (w : Windows) → ((encoded_of w).no ≡ taken) ↔ HasCodes w
unfolding encoded_of
codes_exactly w = (
  λ e. record {
    codes = (encoded_of w).codes;
    bytes = rw (encoded_test w e) (codes_bytes w);
    gives = windows_back w e;
  },
  λ h. ap (λ (r : Encoded). r.no) (only_codes w h.codes h.bytes h.gives),
)

-- .. AND ARE 10 where none do
pub no_codes : (w : Windows) → (HasCodes w → ⊥) → encoded_of w ≡ not_encoded
unfolding encoded_of
no_codes w h = by_answer (is_allowed w && same_windows (windows_by (codes_by w)) w) (λ e. h ((codes_exactly w).0 e))
  where
    by_answer : (b : Bool) → ((if b then record { no = taken; codes = codes_by w } else not_encoded).no ≡ taken → ⊥)
        → (if b then record { no = taken; codes = codes_by w } else not_encoded) ≡ not_encoded
    by_answer true none = absurd (none refl)
    by_answer false none = refl
