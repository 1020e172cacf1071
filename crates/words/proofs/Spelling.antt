-- The digits of a number: counted, and written from the right. Assumes nothing.
use Prim.Native.Nat.{ℕ, zero, suc, ◌+◌, ◌-◌, ◌/◌, ◌%◌, ◌≤◌, ◌<◌}
use mathlib.Core.Path.{◌≡◌, refl, sym, ◌∙◌}
use mathlib.Core.Bool.{Bool, true, false}
use mathlib.Core.List.{List, [], ◌∷◌, ◌++◌, append_assoc}
use lib.Dec.{ltb}
use lib.ListN.{length, take, drop, get_or, set, length-append, length-set}
use lib.Seq.{take-suc, set_at, length-take-le}
use borrow.Author.Tests.{lt-ltb, le-ltb}
use native.Mathlib.Omega.{arith}
use native.Mathlib.Numerals.{add-one}
use Rattle.std.specs.Prelude.{if◌then◌else◌}
use Rattle.words.specs.Writing.{digit_count, digits_of, put}

-- how many digits a number has: one more than its tenth part, and 1 below 10
pub count_on : (f v : ℕ) → 10 ≤ v → 0 < f → digit_count f v ≡ digit_count (f - 1) (v / 10) + 1
unfolding digit_count
count_on zero v h k = absurd (omega arith)
count_on (suc f) v h k = let p : suc f - 1 ≡ f = omega arith in rw (le-ltb _ _ h, p, add-one)

pub count_end : (f v : ℕ) → v < 10 → digit_count f v ≡ 1
unfolding digit_count
count_end zero v h = refl
count_end (suc f) v h = rw (lt-ltb _ _ h)

pub count_one : (v : ℕ) → digit_count 0 v ≡ 1
unfolding digit_count
count_one v = refl

pub length_digits : (k n : ℕ) → length (digits_of k n) ≡ k
unfolding digits_of
length_digits zero n = refl
length_digits (suc k) n = rw (length-append, length_digits k (n / 10)) (omega arith)

-- the loop that spells from the right: w is what it wrote
pub record Spelled (at k n : ℕ) (out₀ out : List ℕ) (j v : ℕ) : Type 0 where
  pub w : List ℕ
  pub size : j + length w ≡ k
  pub all : digits_of j v ++ w ≡ digits_of k n
  pub memory : out ≡ take (at + j) out₀ ++ (w ++ drop (at + k) out₀)
  pub kept : length out ≡ length out₀

stored : (out₀ : List ℕ) (m x : ℕ) (r : List ℕ) → m < length out₀ → set (take (suc m) out₀ ++ r) m x ≡ take m out₀ ++ (x ∷ r)
stored out₀ m x r h =
    rw (take-suc out₀ m 0 h, append_assoc (take m out₀) (get_or out₀ m 0 ∷ []) r)
    (set_at (take m out₀) (get_or out₀ m 0) r x m (length-take-le m out₀ (omega arith)))

digits_suc : (j v : ℕ) → digits_of (suc j) v ≡ digits_of j (v / 10) ++ ((48 + v % 10) ∷ [])
unfolding digits_of
digits_suc j v = refl

pub spelled_on : (at k n : ℕ) (out₀ out : List ℕ) (j v x : ℕ) → at + k ≤ length out₀ → 0 < j → x ≡ 48 + v % 10 → Spelled at k n out₀ out j v
    → Spelled at k n out₀ (set out (at + (j - 1)) x) (j - 1) (v / 10)
spelled_on at k n out₀ out zero v x h pos ex p = absurd (omega arith)
spelled_on at k n out₀ out (suc j) v x h pos ex p =
    let e : suc j - 1 ≡ j = omega arith in
    let z = p.size in
    let q : at + suc j ≡ suc (at + j) = omega arith in
    record {
      w = x ∷ p.w;
      size = rw e (omega arith);
      all = rw (e, ex) (sym (append_assoc (digits_of j (v / 10)) ((48 + v % 10) ∷ []) p.w) ∙ rw digits_suc at p.all);
      memory = rw (e, p.memory, q) (stored out₀ (at + j) x (p.w ++ drop (at + k) out₀) (omega arith));
      kept = simp length-set p.kept;
    }

-- the same by the place that is written
pub spelled_down : (at k n : ℕ) (out₀ out : List ℕ) (i v x : ℕ) → at + k ≤ length out₀ → at < i → x ≡ 48 + v % 10 → Spelled at k n out₀ out (i - at) v
    → Spelled at k n out₀ (set out (i - 1) x) (i - 1 - at) (v / 10)
spelled_down at k n out₀ out i v x h l ex p =
    let e : at + (i - at - 1) ≡ i - 1 = omega arith in
    let f : i - at - 1 ≡ i - 1 - at = omega arith in
    rw (e, f) at (spelled_on at k n out₀ out (i - at) v x h (omega arith) ex p)

digits_zero : (v : ℕ) → digits_of 0 v ≡ []
unfolding digits_of
digits_zero v = refl

pub spelled_end : (at k n : ℕ) (out₀ out : List ℕ) (j v : ℕ) → j ≤ 0 → Spelled at k n out₀ out j v → out ≡ put at (digits_of k n) out₀
unfolding put
spelled_end at k n out₀ out zero v h p =
    let e : p.w ≡ digits_of k n = rw digits_zero at p.all in
    let z : at + 0 ≡ at = omega arith in
    p.memory ∙ rw (z, e, length_digits k n)
spelled_end at k n out₀ out (suc j) v h p = absurd (omega arith)

-- a number has at most 20 digits
few_by : (b : Bool) (m k : ℕ) → m ≤ k → (if b then 1 else suc m) ≤ suc k
few_by true m k h = omega arith
few_by false m k h = omega arith

pub count_few : (f n : ℕ) → digit_count f n ≤ f + 1
unfolding digit_count
count_few zero n = omega arith
count_few (suc f) n = let h = few_by (ltb n 10) (digit_count f (n / 10)) (f + 1) (count_few f (n / 10)) in omega (arith, h)
